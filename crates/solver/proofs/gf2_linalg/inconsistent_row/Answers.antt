use mathlib.Core.Path.{◌≡◌, sym, ap, ◌∙◌}
use mathlib.Core.Bool.{true, false, not}
use Prim.Native.Nat.{ℕ}
use borrow.Author.Tests.{not-true, not-false}
use lib.Dec.{eqb}
use Rattle.solver.specs.WorkMatrix.{entry_of}
use Rattle.solver.specs.Solver.{row_bytes}
use Rattle.solver.proofs.gf2_linalg.inconsistent_row.Goals as goal

pub returns-then-not-has : goal.returns-then-not-has
returns-then-not-has c =
    let a = c.args in
    let no-bit : entry_of row_bytes a.matrix.now a.row a.asked ≡ false = sym c.has.ensures ∙ not-true _ (ap not c.if-not-has.true) in
    simp no-bit

pub returns : goal.returns
returns c =
    let a = c.args in
    let bit : entry_of row_bytes a.matrix.now a.row a.asked ≡ true = sym c.has.ensures ∙ not-false _ (ap not c.if-not-has.false) in
    simp bit (ap (λ (k : ℕ). eqb k a.cols) c.lead.ensures)
