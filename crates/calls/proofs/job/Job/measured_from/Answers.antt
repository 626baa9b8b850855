use mathlib.Core.Path.{◌≡◌, ap, ap₂, ◌∙◌, fun_ext}
use mathlib.Core.Bool.{Bool, ◌&&◌, ◌||◌}
use Prim.Native.Nat.{ℕ}
use native.Mathlib.Omega.{arith}
use lib.Dec.{eqb, leb}
use lib.ListN.{get_or}
use Rattle.nodes.specs.NodeSet.{highest}
use Rattle.calls.specs.Loaded.{within}
use Rattle.calls.proofs.AskingNodes.{from_none, from_more}
use Rattle.calls.proofs.job.Job.measured_from.Goals as goal

pub loop-v-init : goal.loop-v-init
loop-v-init c = let a = c.args in (λ u. ap (λ (f : ℕ → Bool). f u) c.empty-s.ensures ∙ from_none (λ k. get_or a.self.now.measured.now k 0) a.low u)

pub loop-v-preserved : goal.loop-v-preserved
loop-v-preserved c = let b = c.measurement_of in
    let l = c.loop-v in
    let a = c.args in (λ u. ap (λ (f : ℕ → Bool). f u) c.with_if-s.ensures
    ∙ ap₂ (λ (x : Bool) (y : ℕ). x || (leb a.low y && (eqb u l.v && leb l.v highest))) (l.invariant u) b.ensures
    ∙ from_more (λ k. get_or a.self.now.measured.now k 0) a.low l.v u)

pub returns : goal.returns
returns c = let l = c.loop-v in
    let a = c.args in
    let e : l.v ≡ a.self.now.n = omega arith in
    fun_ext (λ u. l.invariant u ∙ ap (λ (k : ℕ). within k u && leb a.low (get_or a.self.now.measured.now u 0)) e)
