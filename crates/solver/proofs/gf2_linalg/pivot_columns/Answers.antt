use mathlib.Core.Path.{◌≡◌, ◌∙◌, ap}
use mathlib.Core.Bool.{Bool, ◌&&◌, ◌||◌}
use Prim.Native.Nat.{ℕ}
use native.Mathlib.Omega.{arith}
use lib.Dec.{eqb, ltb}
use Rattle.solver.specs.WorkMatrix.{entry_of}
use Rattle.solver.specs.Reduced.{lead}
use Rattle.solver.specs.Solver.{row_bytes}
use Rattle.solver.proofs.Leads.{set_start, set_more}
use borrow.Author.Rules.{rules}
use Rattle.solver.proofs.gf2_linalg.pivot_columns.Goals as goal

pub loop-i-init : goal.loop-i-init
loop-i-init c =
    let a = c.args in
    c.empty-pivots.ensures ∙ set_start (entry_of row_bytes a.matrix.now) a.cols

pub loop-i-preserved : goal.loop-i-preserved
loop-i-preserved c =
    let a = c.args in
    let l = c.loop-i in
    c.add_pivot-pivots.ensures
    ∙ ap {B = ℕ → Bool} (λ s k. s k || (ltb k a.cols && eqb (lead (entry_of row_bytes a.matrix.now) a.cols l.i) k)) l.invariant
    ∙ set_more (entry_of row_bytes a.matrix.now) a.cols l.i

pub returns : goal.returns
returns c =
    let a = c.args in
    let l = c.loop-i in
    let e : l.i ≡ a.rows = omega arith in
    rw e at l.invariant
