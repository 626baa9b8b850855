use Prim.Native.Nat.{ℕ}
use mathlib.Core.Path.{ap, ◌∙◌, fun_ext}
use mathlib.Core.List.{List}
use Rattle.nodes.specs.NodeSet.{member}
use Rattle.nodes.specs.SetTable.{set_at}
use Rattle.calls.proofs.LoadingEdges.{put_union}
use Rattle.calls.proofs.load.add_set.Goals as goal

pub returns : goal.returns
returns c v w = let a = c.args in
    ap (λ (l : List ℕ). set_at l v w) c.put_set.ensures
    ∙ put_union a.table.now a.u c.union.result (member a.more) (c.union.ensures ∙ fun_ext (λ k. rw c.set_at-old.ensures)) v w
