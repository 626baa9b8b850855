use mathlib.Core.Path.{ap, ◌∙◌}
use mathlib.Core.Bool.{Bool, ◌&&◌, ◌||◌}
use Prim.Native.Nat.{ℕ}
use native.Mathlib.Omega.{arith}
use lib.Dec.{eqb, ltb}
use Rattle.nodes.specs.NodeSet.{member}
use Rattle.solver.proofs.Leads.{set_past, set_with}
use Rattle.solver.proofs.gf2_linalg.add_pivot.Goals as goal

pub returns-then-k-cols : goal.returns-then-k-cols
returns-then-k-cols c =
    let a = c.args in
    let f = c.lead-k in
    set_past (member a.pivots) a.cols f.result c.if-k-cols.true
    ∙ ap {B = ℕ → Bool} (λ p k. member a.pivots k || (ltb k a.cols && eqb p k)) f.ensures

pub returns : goal.returns
returns c =
    let a = c.args in
    let f = c.lead-k in
    c.with.ensures ∙ set_with (member a.pivots) a.cols f.result (omega arith) (omega arith)
    ∙ ap {B = ℕ → Bool} (λ p k. member a.pivots k || (ltb k a.cols && eqb p k)) f.ensures
