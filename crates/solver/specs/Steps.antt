-- What the solver's steps make of the bytes, turn by turn: the promises of private functions only.
-- The bytes of a row, w, are a parameter.
use Rattle.std.specs.Prelude.{ℕ, zero, suc, ◌+◌, ◌-◌, ◌*◌, ◌/◌, ◌%◌, ◌^◌, Bool, cond, ◌&&◌, List, eqb, leb, ltb, length, get_or, set}
use Rattle.std.proofs.Math.Option.{Option}
use Rattle.std.specs.Int.Bits.{bit_or, bit_xor}
use Rattle.nodes.specs.Row.{lowest_from}
use Rattle.solver.specs.Reduced.{lead, contradicts, leads, read_off}
use Rattle.nodes.specs.Lists.{list_of}
use Rattle.solver.specs.WorkMatrix.{entry_of, bytes_of}

-- what n turns of a loop make, where turn j does f j
unfoldable pub turns : {A : Type 0} → (ℕ → A → A) → ℕ → A → A
turns f zero a = a
turns f (suc n) a = f n (turns f n a)

-- the n bytes from d on are each xored with the byte as far into those from s on
abbrev pub xor_at : List ℕ → ℕ → ℕ → ℕ → ℕ → ℕ
xor_at l d s n k = cond (leb d k && ltb k (d + n)) (bit_xor (get_or l k 0) (get_or l (s + (k - d)) 0)) (get_or l k 0)

-- row s is added to row d
unfoldable pub xor_row : ℕ → List ℕ → ℕ → ℕ → List ℕ
xor_row w l d s = list_of (length l) (xor_at l (d * w) (s * w) w)

-- row p is added to the row at the rank, unless it is that row
unfoldable pub add_pivot_row : ℕ → List ℕ → ℕ → ℕ → List ℕ
add_pivot_row w l rank p = cond (eqb p rank) l (xor_row w l rank p)

-- row r is cleared in the column by the pivot's row, unless it is that row
unfoldable pub clear_one : ℕ → ℕ → ℕ → ℕ → List ℕ → List ℕ
clear_one w pivot col r l = cond (eqb r pivot) l (cond (entry_of w l r col) (xor_row w l r pivot) l)

unfoldable pub clear_column : ℕ → List ℕ → ℕ → ℕ → ℕ → List ℕ
clear_column w l rows pivot col = turns (clear_one w pivot col) rows l

-- the rank so far, and the rows
pub record State : Type 0 where
  pub rank : ℕ
  pub rows : List ℕ

-- the first row from the rank on that has the column, and n where there is none
abbrev pub find_pivot : ℕ → ℕ → ℕ → State → ℕ
find_pivot w n col s = lowest_from s.rank (n - s.rank) (λ i. entry_of w s.rows i col)

-- row p is added to the row at the rank and clears the column in all others
unfoldable pub pivot_to : ℕ → ℕ → ℕ → ℕ → ℕ → List ℕ → State
pivot_to w n col rank p l = record { rank = rank + 1; rows = clear_column w (add_pivot_row w l rank p) n rank col }

-- one column of n rows
unfoldable pub eliminate_column : ℕ → ℕ → ℕ → State → State
eliminate_column w n col s = cond (ltb (find_pivot w n col s) n) (pivot_to w n col s.rank (find_pivot w n col s) s.rows) s

-- all columns below cols
unfoldable pub eliminate_columns : ℕ → List ℕ → ℕ → ℕ → State
eliminate_columns w l n cols = turns (eliminate_column w n) cols (record { rank = 0; rows = l })

-- ---- reading off: the column `asked` has what each row asks for
-- row i is inconsistent: it asks for 1 and has no coefficient
abbrev pub inconsistent_row : ℕ → List ℕ → ℕ → ℕ → ℕ → Bool
inconsistent_row w l cols asked i = entry_of w l i asked && eqb (lead (entry_of w l) cols i) cols

abbrev pub no_solution : ℕ → List ℕ → ℕ → ℕ → ℕ → Bool
no_solution w l rows cols asked = contradicts rows cols (entry_of w l) (λ i. entry_of w l i asked)

abbrev pub read_column : ℕ → List ℕ → ℕ → ℕ → ℕ → Option (ℕ → Bool)
read_column w l rows cols asked = read_off rows cols (entry_of w l) (λ i. entry_of w l i asked)

-- the out bits with the first columns of the rows below `rows` that ask for 1
abbrev pub lead_bytes : ℕ → List ℕ → ℕ → ℕ → ℕ → List ℕ
lead_bytes w l cols asked rows = bytes_of w (leads rows cols (entry_of w l) (λ i. entry_of w l i asked))

-- bit k is set
abbrev pub set_bit : List ℕ → ℕ → List ℕ
set_bit l k = set l (k / 8) (bit_or (get_or l (k / 8) 0) (2 ^ (k % 8)))
