-- Rows of bits in bytes: n rows of n bits, each padded with zeros to a whole byte, lowest bit first.
use Rattle.std.specs.Prelude.{ℕ, zero, suc, ◌+◌, ◌*◌, ◌/◌, ◌%◌, Bool, cond, ◌&&◌, List, [], ◌++◌, eqb, ltb, get_or}
use Rattle.nodes.specs.Bit.{bit, digits}
use Rattle.nodes.specs.Lists.{list_of}

-- the bits of a byte
abbrev pub byte_bits : ℕ
byte_bits = 8

-- the bytes of a row of n bits
abbrev pub row_width : ℕ → ℕ
row_width n = (n + 7) / byte_bits

-- so many rows of `width` bytes, one after the other; byte j k is byte k of row j
unfoldable pub rows : (width count : ℕ) → (byte : ℕ → ℕ → ℕ) → List ℕ
rows width zero byte = []
rows width (suc count) byte = list_of width (byte 0) ++ rows width count (λ j. byte (suc j))

-- byte k of a row of n bits
abbrev pub row_byte : (n : ℕ) → (ℕ → Bool) → (k : ℕ) → ℕ
row_byte n row k = digits byte_bits (λ d. ltb (byte_bits * k + d) n && row (byte_bits * k + d))

-- n rows of n bits; x j i is bit i of row j
unfoldable pub bit_rows : (n : ℕ) → (x : ℕ → ℕ → Bool) → List ℕ
bit_rows n x = rows (row_width n) n (λ j. row_byte n (x j))

-- a byte with its digit k made b
abbrev pub with_digit : (k : ℕ) → (b : Bool) → ℕ → ℕ
with_digit k b x = digits byte_bits (λ d. cond (eqb d k) b (bit x d))

-- the rows with bit i of each row j made x j; all other bits keep
unfoldable pub with_column : (n i : ℕ) → (x : ℕ → Bool) → List ℕ → List ℕ
with_column n i x l =
    let old : ℕ → ℕ → ℕ = λ j k. get_or l (row_width n * j + k) 0 in
    rows (row_width n) n (λ j k. cond (eqb k (i / byte_bits)) (with_digit (i % byte_bits) (x j) (old j k)) (old j k))
