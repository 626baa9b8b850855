-- The equations of a round: the graph by rows, and the rows and columns of the work matrix.
use Rattle.std.specs.Prelude.{ℕ, ◌+◌, ◌/◌, ◌%◌, ◌≤◌, ◌<◌, ◌≡◌, Bool, false, ◌&&◌, ◌≢◌, ◌⊎◌, List, T, eqb, length, get_or}
use Rattle.nodes.specs.Bit.{bit, ◌⊕◌}
use Rattle.nodes.specs.Row.{count}
use Rattle.nodes.specs.NodeSet.{member, capacity, word_bits}
use Rattle.nodes.specs.SetTable.{set_at, table_words}
use Rattle.solver.specs.WorkMatrix.{entry_of}
use Rattle.solver.specs.Solver.{row_bytes, most_columns}
use Rattle.flows.specs.Branch.{Context}
use Rattle.finder.specs.declared.matrix.Context as Code
use Rattle.finder.specs.declared.matrix.Support.{Support}

-- what a try meets
abbrev pub context_of : Code.Context → Context
context_of s = record { column = member s.columns; upper = member s.upper; lower = member s.lower }

-- ---- what the callers see to
-- the sets have nodes of the job only
pub record IsWithin (n : ℕ) (s : Code.Context) : Type 0 where
  pub nodes : n ≤ capacity
  pub columns : (k : ℕ) → T (member s.columns k) → k < n
  pub upper : (k : ℕ) → T (member s.upper k) → k < n
  pub lower : (k : ℕ) → T (member s.lower k) → k < n

-- no node has an upper and a lower row, so that all rows fit
abbrev pub HasRowsApart : Code.Context → Type 0
HasRowsApart s = (v : ℕ) → T (member s.upper v) → T (member s.lower v) → ⊥

-- ---- filling
-- the word at a place of the bytes, and no other byte changed
pub record WordPut (at word : ℕ) (before after : List ℕ) : Type 0 where
  pub size : length after ≡ length before
  pub digits : (k : ℕ) → k < word_bits → bit (get_or after (at + k / 8) 0) (k % 8) ≡ bit word k
  pub others : (j : ℕ) → (j < at) ⊎ (at + 8 ≤ j) → get_or after j 0 ≡ get_or before j 0

-- the members of s in the row, and no other row changed
pub record RowPut (row : ℕ) (s : ℕ → Bool) (before after : List ℕ) : Type 0 where
  pub size : length after ≡ length before
  pub here : (k : ℕ) → k < most_columns → entry_of row_bytes after row k ≡ s k
  pub others : (i k : ℕ) → i ≢ row → k < most_columns → entry_of row_bytes after i k ≡ entry_of row_bytes before i k

-- the columns at hand that v is a neighbour of, which set v of the table has; in a lower row v itself counts too
abbrev pub row_bit : List ℕ → (columns : ℕ → Bool) → Bool → ℕ → ℕ → Bool
row_bit transposed columns lower v k = (set_at transposed v k ⊕ (lower && eqb k v)) && columns k

-- the rows are those of the members, ascending
abbrev pub IsLaidOut : (rows : ℕ → Bool) (f : ℕ → ℕ → Bool) → List ℕ → Type 0
IsLaidOut rows f work = (v k : ℕ) → T (rows v) → k < most_columns → entry_of row_bytes work (count v rows) k ≡ f v k

-- ---- the graph by rows
-- set v of the table has the columns of the support that have v as a neighbour
pub record IsTransposed (g : List ℕ) (support : Support) (transposed : List ℕ) : Type 0 where
  pub size : length transposed ≡ table_words
  pub rows : (v k : ℕ) → set_at transposed v k ≡ member support.columns k && set_at g k v
  pub reach : (v k : ℕ) → T (set_at transposed v k) → T (member support.rows v)

-- a table for it, with nothing in it yet
abbrev pub IsBlank : List ℕ → Type 0
IsBlank transposed = (length transposed ≡ table_words) × ((v k : ℕ) → set_at transposed v k ≡ false)

-- of the columns all is known
abbrev pub Sees : (g : List ℕ) (columns : ℕ → Bool) (transposed : List ℕ) → Type 0
Sees g columns transposed = (v k : ℕ) → T (columns k) → set_at transposed v k ≡ set_at g k v

-- a row at which a column has a bit is one of `rows`
abbrev pub Reaches : (transposed : List ℕ) → Code.Context → List ℕ → Type 0
Reaches transposed s rows = (v k : ℕ) → T (member s.columns k) → T (set_at transposed v k) → T (member rows v)
