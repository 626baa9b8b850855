-- Bits: the binary digits of a number, lowest first, and the exclusive or.
use Rattle.std.specs.Prelude.{ℕ, zero, suc, ◌+◌, ◌*◌, ◌/◌, ◌%◌, ◌^◌, Bool, true, false, not}

-- the sum of two bits mod 2
infixl 33 ◌⊕◌
abbrev pub ◌⊕◌ : Bool → Bool → Bool
true ⊕ b = not b
false ⊕ b = b

abbrev pub is_one : ℕ → Bool
is_one zero = false
is_one (suc n) = true

-- the digit of n at place k
unfoldable pub bit : ℕ → ℕ → Bool
bit n k = is_one (n / 2 ^ k % 2)

abbrev pub one : Bool → ℕ
one true = 1
one false = 0

-- the number whose digits at the k lowest places are f
unfoldable pub digits : ℕ → (ℕ → Bool) → ℕ
digits zero f = 0
digits (suc k) f = one (f 0) + 2 * digits k (λ i. f (suc i))
