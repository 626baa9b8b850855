-- What the solver's calls promise, from the laws of the elimination: here the bytes of a row become row_bytes.
use mathlib.Core.Path.{◌≡◌, refl, sym, ap, ◌∙◌, fun_ext}
use mathlib.Core.Bool.{Bool, true, false, cond, not, ◌&&◌, ◌||◌}
use mathlib.Core.List.{List}
use mathlib.Core.Option.{none, some}
use mathlib.Core.Logic.{◌⊎◌, inl, inr}
use Prim.Native.Nat.{ℕ, ◌+◌, ◌*◌, ◌<◌, ◌≤◌}
use native.Mathlib.Decide.{dec_lt}
use native.Mathlib.Omega.{arith}
use borrow.Author.Tests.{leb-true, eqb-true}
use lib.Dec.{T, eqb, leb, ltb}
use lib.ListN.{length}
use Rattle.answers.specs.Answer.{gives}
use Rattle.nodes.specs.Bit.{digits}
use Rattle.nodes.specs.Lists.{zeros, list_of}
use Rattle.nodes.specs.Row.{all_below}
use Rattle.nodes.proofs.Logic.{is_false, and_out, or_l, or_r, or_out, not_in, not_out, from_false, dec}
use Rattle.nodes.proofs.Row.{all_in, all_out, dot_one, ltb_yes, ltb_no}
use Rattle.solver.specs.System.{solve, pivot}
use Rattle.solver.specs.Reduced.{leads, read_off}
use Rattle.solver.specs.WorkMatrix.{entry_of, system_of, side_of, within_width}
use Rattle.solver.specs.Steps.{eliminate_columns}
use Rattle.solver.specs.Solver.{row_bytes, most_rows, most_columns, matrix_fits, both_fit, well_shaped, Eliminated, solve_asks, outcome, solve_call}
use Rattle.solver.proofs.Reduced.{read_off_lem}
use Rattle.solver.proofs.Elimination.{Same, same_sym, solutions_kept, solve_kept, partly_reduced, eliminated_pivots}
use Rattle.solver.proofs.Steps.{IsGood, good_eliminated}

-- a column without a bit stays so
column_stays : (r w : ℕ) (m m' : ℕ → ℕ → Bool) → Same r w m m' → (k : ℕ) → k < w → ((i : ℕ) → i < r → m i k ≡ false) → (i : ℕ) → i < r → m' i k ≡ false
column_stays r w m m' s k l h i g = sym (dot_one w k (m' i) l) ∙ s.there (λ j. eqb j k) (λ v u. dot_one w k (m v) l ∙ h v u) i g

beyond_stays : (w r width : ℕ) (l l' : List ℕ) → Same r (8 * w) (entry_of w l) (entry_of w l') → T (within_width w l r width) → T (within_width w l' r width)
beyond_stays w r width l l' s t =
    all_in r (λ i. all_below (8 * w) (λ k. ltb k width || not (entry_of w l' i k)))
    (λ i g. all_in (8 * w) (λ k. ltb k width || not (entry_of w l' i k)) (λ k u. at i k g u (dec (ltb k width))))
  where
    was : (i k : ℕ) → i < r → k < 8 * w → T (ltb k width || not (entry_of w l i k))
    was i k g u =
        all_out (8 * w) (λ k. ltb k width || not (entry_of w l i k))
        (all_out r (λ i. all_below (8 * w) (λ k. ltb k width || not (entry_of w l i k))) t i g) k u

    clear : (k : ℕ) → k < 8 * w → (T (ltb k width) → ⊥) → (i : ℕ) → i < r → entry_of w l i k ≡ false
    clear k u f i g = go (or_out (ltb k width) (not (entry_of w l i k)) (was i k g u))
      where
        go : T (ltb k width) ⊎ T (not (entry_of w l i k)) → entry_of w l i k ≡ false
        go (inl a) = absurd (f a)
        go (inr b) = is_false (entry_of w l i k) (not_out (entry_of w l i k) b)

    at : (i k : ℕ) → i < r → k < 8 * w → T (ltb k width) ⊎ (T (ltb k width) → ⊥) → T (ltb k width || not (entry_of w l' i k))
    at i k g u (inl a) = or_l (ltb k width) (not (entry_of w l' i k)) a
    at i k g u (inr f) =
        or_r (ltb k width) (not (entry_of w l' i k))
        (not_in (entry_of w l' i k) (from_false (entry_of w l' i k) (column_stays r (8 * w) (entry_of w l) (entry_of w l') s k u (clear k u f) i g)))

-- ---- what the elimination leaves
pub is_eliminated : (rows cols sides : ℕ) (l : List ℕ) → rows * row_bytes ≤ length l → cols + sides ≤ most_columns → Eliminated rows cols sides l (eliminate_columns row_bytes l rows cols).rows
is_eliminated rows cols sides l h g =
    let good = good_eliminated row_bytes rows l h cols (omega arith) in
    let m = entry_of row_bytes l in
    let m' = entry_of row_bytes (eliminate_columns row_bytes l rows cols).rows in
    record {
      size = good.size;
      beyond = beyond_stays row_bytes rows (cols + sides) l (eliminate_columns row_bytes l rows cols).rows good.same;
      solutions = λ side s x. (
        solutions_kept rows most_columns m m' good.same cols (cols + side) (omega arith) (omega arith) x,
        solutions_kept rows most_columns m' m (same_sym good.same) cols (cols + side) (omega arith) (omega arith) x,
      );
      answers = λ side s. sym (solve_kept rows most_columns m m' good.same cols (cols + side) (omega arith) (omega arith));
      reduced = partly_reduced rows cols (eliminate_columns row_bytes l rows cols).rank m' good.partly;
    }

-- ---- what the questions' answers tell
pub fits_out : (matrix : List ℕ) (rows cols sides : ℕ) → matrix_fits matrix rows cols sides ≡ true
    → (rows ≤ most_rows) × (cols + sides ≤ most_columns) × (length matrix ≡ rows * row_bytes)
unfolding matrix_fits
fits_out matrix rows cols sides e =
    let a = and_out (leb rows most_rows) (leb (cols + sides) most_columns && eqb (length matrix) (rows * row_bytes)) e in
    let b = and_out (leb (cols + sides) most_columns) (eqb (length matrix) (rows * row_bytes)) a.1 in
    (leb-true _ _ a.0, leb-true _ _ b.0, eqb-true _ _ b.1)

pub both_fit_out : (matrix out : List ℕ) (rows cols sides : ℕ) → both_fit matrix out rows cols sides ≡ true
    → (matrix_fits matrix rows cols sides ≡ true) × (length out ≡ row_bytes)
unfolding both_fit
both_fit_out matrix out rows cols sides e =
    let a = and_out (matrix_fits matrix rows cols sides) (eqb (length out) row_bytes) e in
    (a.0, eqb-true _ _ a.1)

pub well_shaped_out : (matrix out : List ℕ) (rows cols sides : ℕ) → well_shaped matrix out rows cols sides ≡ true → both_fit matrix out rows cols sides ≡ true
unfolding well_shaped
well_shaped_out matrix out rows cols sides e =
    let rest = both_fit matrix out rows cols sides && within_width row_bytes matrix rows (cols + sides) in
    (and_out (both_fit matrix out rows cols sides) (within_width row_bytes matrix rows (cols + sides))
    (and_out (ltb 0 sides) rest (and_out (ltb 0 rows) (ltb 0 sides && rest) e).1).1).0

-- ---- what is read off the eliminated matrix
pub pivots_read : (rows cols sides : ℕ) (l : List ℕ) → rows * row_bytes ≤ length l → cols + sides ≤ most_columns
    → ◌≡◌ {A = ℕ → Bool} (λ k. leads rows cols (entry_of row_bytes (eliminate_columns row_bytes l rows cols).rows) (λ i. true) k) (λ k. ltb k cols && pivot (system_of row_bytes l rows) k)
pivots_read rows cols sides l h g = fun_ext (λ k. by k (dec_lt k cols))
  where
    m' : ℕ → ℕ → Bool
    m' = entry_of row_bytes (eliminate_columns row_bytes l rows cols).rows

    good : IsGood row_bytes rows cols l (eliminate_columns row_bytes l rows cols)
    good = good_eliminated row_bytes rows l h cols (omega arith)

    by : (k : ℕ) → Dec (k < cols) → leads rows cols m' (λ i. true) k ≡ ltb k cols && pivot (system_of row_bytes l rows) k
    by k (yes u) =
        ap (λ (b : Bool). ltb k cols && b)
        (eliminated_pivots rows most_columns cols (eliminate_columns row_bytes l rows cols).rank (entry_of row_bytes l) m' good.same good.partly (omega arith) k u)
    by k (no u) = rw (ltb_no k cols (omega arith))

-- what is read off an eliminated matrix is the answer of the matrix as it was
pub reads_answer : (rows cols sides : ℕ) (before after : List ℕ) → Eliminated rows cols sides before after → (side : ℕ) → side < sides
    → read_off rows cols (entry_of row_bytes after) (side_of row_bytes after cols side) ≡ solve (system_of row_bytes before rows) cols (side_of row_bytes before cols side)
reads_answer rows cols sides before after e side h =
    read_off_lem rows cols (entry_of row_bytes after) e.reduced (side_of row_bytes after cols side) ∙ e.answers side h

-- ---- with no column: solvable exactly where no row asks for 1, and then by no column
pub no_column_call : (matrix out : List ℕ) (rows sides side : ℕ) → well_shaped matrix out rows 0 sides ≡ true → side < sides
    → solve_call matrix out rows 0 sides side
    ≡ cond (all_below rows (λ i. not (side_of row_bytes matrix 0 side i))) (record { answer = gives true; out = zeros row_bytes }) (record { answer = gives false; out = out })
unfolding solve_asks solve list_of digits
no_column_call matrix out rows sides side e h = rw (e, ltb_yes side sides h) (by (all_below rows (λ i. not (side_of row_bytes matrix 0 side i))))
  where
    by : (c : Bool) → outcome (gives (cond c (some (λ k. false)) none)) out ≡ cond c (record { answer = gives true; out = zeros row_bytes }) (record { answer = gives false; out = out })
    by true = refl
    by false = refl
