-- Of specs/Words: numbers digit by digit.
use Prim.Native.Nat.{ℕ, ◌+◌, ◌≤◌, ◌<◌}
use mathlib.Core.Path.{◌≡◌, refl, ap}
use mathlib.Core.Option.{Option, none}
use mathlib.Core.List.{List, [], ◌∷◌}
use lib.ListN.{length, get_or, drop, drop_of_length-le}
use Rattle.texts.specs.Words.{with_digit, with_digits}
use Rattle.texts.proofs.Parting.{rest}

-- once it is no number it never is
pub digits-none : (s : List ℕ) → with_digits none s ≡ none
unfolding with_digits
digits-none [] = refl
digits-none (c ∷ s) = digits-none s

pub digits_end : (v : Option ℕ) (s : List ℕ) (i : ℕ) → length s ≤ i → with_digits v (drop i s) ≡ v
unfolding with_digits
digits_end v s i h = ap (with_digits v) (drop_of_length-le s {i = i} h)

pub digits_next : (v : Option ℕ) (s : List ℕ) (i : ℕ) → i < length s → with_digits v (drop i s) ≡ with_digits (with_digit v (get_or s i 0)) (drop (i + 1) s)
unfolding with_digits
digits_next v s i h = ap (with_digits v) (rest s i h)
