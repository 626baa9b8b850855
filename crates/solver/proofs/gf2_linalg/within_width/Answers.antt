use mathlib.Core.Bool.{not}
use mathlib.Core.Path.{◌≡◌, sym, ◌∙◌, ap}
use native.Mathlib.Omega.{arith}
use borrow.Author.Tests.{not-true, not-false}
use Rattle.solver.specs.WorkMatrix.{row_within_width}
use Rattle.solver.specs.Solver.{row_bytes}
use Rattle.solver.proofs.Turns.{all_start, all_here_not, all_more}
use borrow.Author.Rules.{rules}
use Rattle.solver.proofs.gf2_linalg.within_width.Goals as goal

pub loop-i-init : goal.loop-i-init
loop-i-init c =
    let a = c.args in all_start (row_within_width row_bytes a.matrix.now a.width)

pub returns-then-not-row_within_width : goal.returns-then-not-row_within_width
returns-then-not-row_within_width c =
    let a = c.args in
    let l = c.loop-i in
    sym (all_here_not (row_within_width row_bytes a.matrix.now a.width) a.rows l.i (omega arith) (sym c.row_within_width.ensures ∙ not-true _ (ap not c.if-not-row_within_width.true)))

pub loop-i-preserved : goal.loop-i-preserved
loop-i-preserved c =
    let a = c.args in
    let l = c.loop-i in
    all_more (row_within_width row_bytes a.matrix.now a.width) l.i l.invariant (sym c.row_within_width.ensures ∙ not-false _ (ap not c.if-not-row_within_width.false))

pub returns : goal.returns
returns c =
    let a = c.args in
    let l = c.loop-i in
    let e : l.i ≡ a.rows = omega arith in
    sym (rw e at l.invariant)
