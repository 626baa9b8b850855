use mathlib.Core.Path.{◌≡◌, refl, sym, ap, ◌∙◌, subst}
use mathlib.Core.Bool.{Bool, true, false, not}
use mathlib.Core.List.{List}
use Rattle.answers.specs.Answer.{gives}
use Prim.Native.Nat.{ℕ, ◌≤◌, ◌*◌}
use native.Mathlib.Omega.{arith}
use borrow.Author.Tests.{not-true, not-false}
use lib.ListN.{length}
use Rattle.solver.specs.WorkMatrix.{entry_of}
use Rattle.solver.specs.Reduced.{leads}
use Rattle.solver.specs.Solver.{row_bytes, matrix_fits, Eliminated, eliminate_call}
use Rattle.solver.proofs.Solver.{fits_out, is_eliminated, pivots_read}
use Rattle.solver.proofs.gf2_linalg.eliminate.Goals as goal

pub returns-clause-result_value : goal.returns-clause-result_value
unfolding eliminate_call
returns-clause-result_value c =
    let a = c.args in
    let fit : matrix_fits a.matrix.now a.rows a.cols a.sides ≡ true = sym c.matrix_fits.ensures ∙ not-false _ (ap not c.if-not-matrix_fits.false) in
    let sizes = fits_out _ _ _ _ fit in
    let room : a.rows * row_bytes ≤ length a.matrix.now = omega arith in
    let done = c.eliminate_columns.ensures in
    simp fit
    (ap gives
    (c.pivot_columns.ensures
    ∙ ap {B = ℕ → Bool} (λ l k. leads a.rows a.cols (entry_of row_bytes l) (λ i. true) k) done
    ∙ pivots_read a.rows a.cols a.sides a.matrix.now room sizes.1))
