-- The work matrix: rows of bits in a list of bytes, lowest bit first. The bytes of a row, w, are a parameter.
use Rattle.std.specs.Prelude.{ℕ, ◌+◌, ◌*◌, ◌/◌, ◌%◌, Bool, true, not, ◌||◌, List, ltb, get_or}
use Rattle.nodes.specs.Bit.{bit, digits}
use Rattle.nodes.specs.Lists.{list_of}
use Rattle.nodes.specs.Row.{all_below}
use Rattle.solver.specs.System.{System}

-- the bit of row i in column k
unfoldable pub entry_of : ℕ → List ℕ → ℕ → ℕ → Bool
entry_of w l i k = bit (get_or l (i * w + k / 8) 0) (k % 8)

-- the equations that the first `rows` rows hold
abbrev pub system_of : ℕ → List ℕ → ℕ → System
system_of w l rows = record { rows = rows; row = λ i. true; column = λ k. true; entry = entry_of w l }

-- the right side of number `side`, behind the coefficient columns
abbrev pub side_of : ℕ → List ℕ → ℕ → ℕ → ℕ → Bool
side_of w l cols side i = entry_of w l i (cols + side)

-- row i has no bit at or beyond column `width`
abbrev pub row_within_width : ℕ → List ℕ → ℕ → ℕ → Bool
row_within_width w l width i = all_below (8 * w) (λ k. ltb k width || not (entry_of w l i k))

abbrev pub within_width : ℕ → List ℕ → ℕ → ℕ → Bool
within_width w l rows width = all_below rows (row_within_width w l width)

-- ---- a row of bits as w bytes
abbrev pub bytes_of : ℕ → (ℕ → Bool) → List ℕ
bytes_of w x = list_of w (λ q. digits 8 (λ t. x (8 * q + t)))
