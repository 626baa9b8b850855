use Prim.Native.Nat.{ℕ, ◌-◌}
use mathlib.Core.Path.{◌≡◌, ap, ap₂, ◌∙◌}
use mathlib.Core.Bool.{Bool, not, ◌&&◌}
use mathlib.Core.List.{List}
use native.Mathlib.Omega.{arith}
use lib.ListN.{take}
use Rattle.nodes.specs.Row.{members}
use Rattle.nodes.specs.NodeSet.{member, capacity}
use Rattle.nodes.specs.SetTable.{set_at}
use Rattle.records.specs.Splice.{put_front, put_answer}
use Rattle.records.specs.Writing.{flow_records}
use Rattle.calls.proofs.find.write_found.Goals as goal

pub returns : goal.returns
returns c = let a = c.args in
    let l = a.layers.now in
    let wrote = c.write_flow in
    let all : a.job.now.n - 0 ≡ a.job.now.n = omega arith in
    let nodes = c.difference-nodes.ensures ∙ ap {B = ℕ → Bool} (λ (g : ℕ → Bool) (u : ℕ). g u && not (member a.job.now.outputs u)) c.below.ensures in
    let bytes = ap₂ (λ (k : ℕ) (g : ℕ → Bool). flow_records (take k l) capacity (set_at a.sets.now) (members capacity g)) all nodes in record {
      result_value = wrote.ensures.result_value ∙ ap (λ (b : List ℕ). put_answer b a.out.now) bytes;
      out_after = wrote.ensures.out_after ∙ ap (λ (b : List ℕ). put_front b a.out.now) bytes;
    }
