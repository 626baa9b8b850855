use mathlib.Core.Path.{◌≡◌, sym, ◌∙◌}
use native.Mathlib.Omega.{arith}
use Rattle.solver.specs.Steps.{inconsistent_row}
use Rattle.solver.specs.Solver.{row_bytes}
use Rattle.solver.proofs.Turns.{any_start, any_here, any_more}
use borrow.Author.Rules.{rules}
use Rattle.solver.proofs.gf2_linalg.no_solution.Goals as goal

pub loop-i-init : goal.loop-i-init
loop-i-init c =
    let a = c.args in any_start (inconsistent_row row_bytes a.matrix.now a.cols a.asked)

pub returns-then-inconsistent_row : goal.returns-then-inconsistent_row
returns-then-inconsistent_row c =
    let a = c.args in
    let l = c.loop-i in
    sym (any_here (inconsistent_row row_bytes a.matrix.now a.cols a.asked) a.rows l.i (omega arith) (sym c.inconsistent_row.ensures ∙ c.if-inconsistent_row.true))

pub loop-i-preserved : goal.loop-i-preserved
loop-i-preserved c =
    let a = c.args in
    let l = c.loop-i in
    any_more (inconsistent_row row_bytes a.matrix.now a.cols a.asked) l.i l.invariant (sym c.inconsistent_row.ensures ∙ c.if-inconsistent_row.false)

pub returns : goal.returns
returns c =
    let a = c.args in
    let l = c.loop-i in
    let e : l.i ≡ a.rows = omega arith in
    sym (rw e at l.invariant)
