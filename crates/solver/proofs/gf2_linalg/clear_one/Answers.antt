use mathlib.Core.Path.{◌≡◌, sym, ◌∙◌}
use mathlib.Core.Bool.{true, false}
use borrow.Author.Tests.{eq-eqb, ne_eqb}
use Rattle.solver.specs.WorkMatrix.{entry_of}
use Rattle.solver.specs.Steps.{clear_one}
use Rattle.solver.specs.Solver.{row_bytes}
use Rattle.solver.proofs.gf2_linalg.clear_one.Goals as goal

pub returns-then-row-pivot : goal.returns-then-row-pivot
unfolding clear_one
returns-then-row-pivot c = simp (eq-eqb _ _ c.if-row-pivot.true)

pub returns-then-has : goal.returns-then-has
unfolding clear_one
returns-then-has c = let a = c.args in
    let has : entry_of row_bytes a.matrix.now a.row a.col ≡ true = sym c.has.ensures ∙ c.if-has.true in
    simp (ne_eqb _ _ c.if-row-pivot.false, has) c.xor_row.ensures

pub returns-else-has : goal.returns-else-has
unfolding clear_one
returns-else-has c =
    let a = c.args in
    let has : entry_of row_bytes a.matrix.now a.row a.col ≡ false = sym c.has.ensures ∙ c.if-has.false in
    simp (ne_eqb _ _ c.if-row-pivot.false, has)
