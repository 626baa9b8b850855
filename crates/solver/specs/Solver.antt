-- What the solver's calls answer and what they leave in the lent buffers, for every argument.
use Rattle.std.specs.Prelude.{ℕ, ◌+◌, ◌*◌, ◌/◌, ◌<◌, ◌≡◌, ◌↔◌, Bool, true, false, ◌&&◌, List, T, eqb, leb, ltb, length}
use Rattle.std.proofs.Math.Option.{Option, none, some}
use Rattle.answers.specs.Answer.{Answer, gives, refuses, asks, ◌>>◌}
use Rattle.nodes.specs.NodeSet.{member, capacity}
use Rattle.solver.specs.System.{Solves, solve, pivot}
use Rattle.solver.specs.Reduced.{IsReduced, read_off}
use Rattle.solver.specs.WorkMatrix.{entry_of, system_of, side_of, within_width, bytes_of}
use Rattle.solver.specs.declared.gf2_linalg.Solved.{Solved}
use Rattle.solver.specs.declared.gf2_linalg.Solved.TheVariants.{Solvable, Unsolvable}

-- ---- the sizes
-- each row, and the out bits, have a bit for each node
abbrev pub row_bytes : ℕ
row_bytes = capacity / 8

abbrev pub most_rows : ℕ
most_rows = capacity

abbrev pub most_columns : ℕ
most_columns = 8 * row_bytes

-- the bytes of a work buffer with all its rows
abbrev pub work_bytes : ℕ
work_bytes = most_rows * row_bytes

-- ---- the questions
-- is the matrix of exact length, and no larger than the limits either way?
unfoldable pub matrix_fits : List ℕ → ℕ → ℕ → ℕ → Bool
matrix_fits matrix rows cols sides =
    leb rows most_rows && (leb (cols + sides) most_columns && eqb (length matrix) (rows * row_bytes))

-- are the out bits of exact length too?
unfoldable pub both_fit : List ℕ → List ℕ → ℕ → ℕ → ℕ → Bool
both_fit matrix out rows cols sides = matrix_fits matrix rows cols sides && eqb (length out) row_bytes

-- is there a row, a right side, matrix and out bits of exact length, no larger than the limits either way, and no matrix bit
-- beyond the width (11)?
unfoldable pub well_shaped : List ℕ → List ℕ → ℕ → ℕ → ℕ → Bool
well_shaped matrix out rows cols sides =
    ltb 0 rows
    && (ltb 0 sides
    && (both_fit matrix out rows cols sides && within_width row_bytes matrix rows (cols + sides)))

-- is the equation's number below the count of right sides (12)?
abbrev pub equation_exists : ℕ → ℕ → Bool
equation_exists sides side = ltb side sides

-- ---- what the matrix holds after an elimination, which no definition decides: as many bytes, still no bit beyond the
-- width, each right side keeps the solutions it had and so its answer, and the coefficients are in reduced form
pub record Eliminated (rows cols sides : ℕ) (before after : List ℕ) : Type 0 where
  pub size : length after ≡ length before
  pub beyond : T (within_width row_bytes before rows (cols + sides)) → T (within_width row_bytes after rows (cols + sides))
  pub solutions : (side : ℕ) → side < sides → (x : ℕ → Bool)
      → Solves (system_of row_bytes before rows) cols (side_of row_bytes before cols side) x
      ↔ Solves (system_of row_bytes after rows) cols (side_of row_bytes after cols side) x
  pub answers : (side : ℕ) → side < sides
      → solve (system_of row_bytes after rows) cols (side_of row_bytes after cols side)
      ≡ solve (system_of row_bytes before rows) cols (side_of row_bytes before cols side)
  pub reduced : IsReduced rows cols (entry_of row_bytes after)

-- ---- the answers
-- solvable or not
abbrev pub is_solvable : Solved → Bool
is_solvable Solvable = true
is_solvable Unsolvable = false

-- ---- the calls
-- the matrix after a call: eliminated where the call refuses nothing, and else untouched
abbrev pub MatrixAfter : {A : Type 0} → Answer A → (rows cols sides : ℕ) (before after : List ℕ) → Type 0
MatrixAfter (gives a) rows cols sides before after = Eliminated rows cols sides before after
MatrixAfter (refuses r) rows cols sides before after = after ≡ before

-- the pivot columns
unfoldable pub eliminate_call : (matrix : List ℕ) (rows cols sides : ℕ) → Answer (ℕ → Bool)
eliminate_call matrix rows cols sides = do
  asks 11 (matrix_fits matrix rows cols sides)
  gives (λ k. ltb k cols && pivot (system_of row_bytes matrix rows) k)

-- what is read off the rows as they lie
unfoldable pub read_off_asks : (matrix out : List ℕ) (rows cols sides side : ℕ) → Answer (Option (ℕ → Bool))
read_off_asks matrix out rows cols sides side = do
  asks 11 (both_fit matrix out rows cols sides)
  asks 12 (equation_exists sides side)
  gives (read_off rows cols (entry_of row_bytes matrix) (side_of row_bytes matrix cols side))

-- the solution of the equations
unfoldable pub solve_asks : (matrix out : List ℕ) (rows cols sides side : ℕ) → Answer (Option (ℕ → Bool))
solve_asks matrix out rows cols sides side = do
  asks 11 (well_shaped matrix out rows cols sides)
  asks 12 (equation_exists sides side)
  gives (solve (system_of row_bytes matrix rows) cols (side_of row_bytes matrix cols side))

-- an answer, and the out bits as they are left
pub record SolveOutcome : Type 0 where
  pub answer : Answer Bool
  pub out : List ℕ

-- a solution is written; 'no solution' and a refusal keep the out bits
abbrev pub outcome : Answer (Option (ℕ → Bool)) → List ℕ → SolveOutcome
outcome (refuses r) out = record { answer = refuses r; out = out }
outcome (gives none) out = record { answer = gives false; out = out }
outcome (gives (some x)) out = record { answer = gives true; out = bytes_of row_bytes x }

abbrev pub read_off_call : (matrix out : List ℕ) (rows cols sides side : ℕ) → SolveOutcome
read_off_call matrix out rows cols sides side = outcome (read_off_asks matrix out rows cols sides side) out

abbrev pub solve_call : (matrix out : List ℕ) (rows cols sides side : ℕ) → SolveOutcome
solve_call matrix out rows cols sides side = outcome (solve_asks matrix out rows cols sides side) out
