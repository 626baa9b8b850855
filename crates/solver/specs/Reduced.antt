-- The reduced form of a matrix, and what can be read off a matrix: total, whatever the matrix is.
use Rattle.std.specs.Prelude.{ℕ, ◌<◌, ◌≡◌, Bool, false, cond, ◌&&◌, ◌≢◌, eqb, ltb}
use Rattle.std.proofs.Math.Option.{Option, none, some}
use Rattle.nodes.specs.Row.{any_below, lowest}

-- the first column below n at which row i has a bit, and n where it has none
abbrev pub lead : (ℕ → ℕ → Bool) → ℕ → ℕ → ℕ
lead m n i = lowest n (m i)

-- Reduced: a column in which some row has its first bit has no other bit.
abbrev pub IsReduced : ℕ → ℕ → (ℕ → ℕ → Bool) → Type 0
IsReduced r n m = (i q : ℕ) → i < r → q < r → i ≢ q → lead m n i < n → m q (lead m n i) ≡ false

-- some row without a bit in the first n columns has a bit in d
abbrev pub contradicts : ℕ → ℕ → (ℕ → ℕ → Bool) → (ℕ → Bool) → Bool
contradicts r n m d = any_below r (λ i. d i && eqb (lead m n i) n)

-- the columns at which the rows with a bit in d begin
abbrev pub leads : ℕ → ℕ → (ℕ → ℕ → Bool) → (ℕ → Bool) → ℕ → Bool
leads r n m d k = ltb k n && any_below r (λ i. d i && eqb (lead m n i) k)

-- Read off: no solution where a zero row asks for 1, and else the first columns of the rows that ask for 1.
abbrev pub read_off : ℕ → ℕ → (ℕ → ℕ → Bool) → (ℕ → Bool) → Option (ℕ → Bool)
read_off r n m d = cond (contradicts r n m d) none (some (leads r n m d))
