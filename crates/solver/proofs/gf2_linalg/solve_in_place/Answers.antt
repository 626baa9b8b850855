use mathlib.Core.Path.{◌≡◌, refl, sym, ap, ◌∙◌, subst}
use mathlib.Core.Bool.{Bool, true, false, not}
use mathlib.Core.List.{List}
use mathlib.Core.Option.{Option}
use Prim.Native.Nat.{ℕ, ◌≤◌, ◌<◌, ◌*◌}
use native.Mathlib.Omega.{arith}
use borrow.Author.Tests.{lt-ltb, le-ltb, not-true, not-false}
use lib.ListN.{length}
use Rattle.answers.specs.Answer.{gives}
use Rattle.solver.specs.Solver.{row_bytes, well_shaped, Eliminated, outcome, solve_asks}
use Rattle.solver.proofs.Solver.{fits_out, both_fit_out, well_shaped_out, is_eliminated, reads_answer}
use Rattle.solver.proofs.gf2_linalg.solve_in_place.Goals as goal
use Rattle.solver.proofs.gf2_linalg.solve_in_place.Goals.{Else-not-well_shaped}

-- question 11 was passed

fit : (c : Else-not-well_shaped) → let a = c.args in well_shaped a.matrix.now a.out.now a.rows a.cols a.sides ≡ true
fit c = sym c.well_shaped.ensures ∙ not-false _ (ap not c.if-not-well_shaped.false)

pub returns-then-not-well_shaped : goal.returns-then-not-well_shaped
unfolding solve_asks
returns-then-not-well_shaped c =
    let a = c.args in
    let no : well_shaped a.matrix.now a.out.now a.rows a.cols a.sides ≡ false = sym c.well_shaped.ensures ∙ not-true _ (ap not c.if-not-well_shaped.true) in record {
      out_after = simp no;
      matrix_after = rw no refl;
    }

pub returns-then-side-sides : goal.returns-then-side-sides
unfolding solve_asks
returns-then-side-sides c =
    let a = c.args in record {
      out_after = simp (fit (goal.at.returns-then-side-sides c).Else-not-well_shaped, le-ltb _ _ c.if-side-sides.true);
      matrix_after = rw (fit (goal.at.returns-then-side-sides c).Else-not-well_shaped, le-ltb _ _ c.if-side-sides.true) refl;
    }

pub eliminate_columns-requires : goal.eliminate_columns-requires
eliminate_columns-requires c =
    let a = c.args in
    let sizes = fits_out _ _ _ _ (both_fit_out _ _ _ _ _ (well_shaped_out _ _ _ _ _ (fit (goal.at.eliminate_columns-requires c).Else-not-well_shaped))).0 in
    (omega arith, omega arith)

pub overflow_add-cols : goal.overflow_add-cols
overflow_add-cols c =
    let a = c.args in
    let sizes = fits_out _ _ _ _ (both_fit_out _ _ _ _ _ (well_shaped_out _ _ _ _ _ (fit (goal.at.overflow_add-cols c).Else-not-well_shaped))).0 in
    omega arith

pub answer-requires : goal.answer-requires
answer-requires c =
    let a = c.args in
    let both = both_fit_out _ _ _ _ _ (well_shaped_out _ _ _ _ _ (fit (goal.at.answer-requires c).Else-not-well_shaped)) in
    let sizes = fits_out _ _ _ _ both.0 in
    (omega arith, omega arith, omega arith, both.1)

pub returns : goal.returns
unfolding solve_asks
returns c =
    let a = c.args in
    let sizes = fits_out _ _ _ _ (both_fit_out _ _ _ _ _ (well_shaped_out _ _ _ _ _ (fit (goal.at.returns c).Else-not-well_shaped))).0 in
    let room : a.rows * row_bytes ≤ length a.matrix.now = omega arith in
    let asked : a.side < a.sides = c.if-side-sides.false in
    let e = c.eliminate_columns in
    let after : Eliminated a.rows a.cols a.sides a.matrix.now e.new.matrix =
    subst (λ (l : List ℕ). Eliminated a.rows a.cols a.sides a.matrix.now l) (sym e.ensures)
    (is_eliminated a.rows a.cols a.sides a.matrix.now room sizes.1) in record {
      out_after = simp (fit (goal.at.returns c).Else-not-well_shaped, lt-ltb _ _ asked)
          (c.answer.ensures
          ∙ ap (λ (o : Option (ℕ → Bool)). outcome (gives o) a.out.now) (reads_answer a.rows a.cols a.sides a.matrix.now e.new.matrix after a.side asked));
      matrix_after = rw (fit (goal.at.returns c).Else-not-well_shaped, lt-ltb _ _ asked) after;
    }
