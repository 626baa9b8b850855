-- A run of stores after another: serves the proofs of what is written piece by piece, as in texts.
use Prim.Native.Nat.{ℕ, suc, ◌+◌}
use mathlib.Core.Path.{◌≡◌, ap, ◌∙◌}
use mathlib.Core.List.{List, [], ◌∷◌, ◌++◌}
use native.Mathlib.Omega.{arith}
use lib.ListN.{length, set}
use lib.Seq.{sets}

pub sets-append : (l xs ys : List ℕ) (at : ℕ) → sets l at (xs ++ ys) ≡ sets (sets l at xs) (at + length xs) ys
sets-append l [] ys at = ap (λ (k : ℕ). sets l k ys) (none at)
  where
    none : (at : ℕ) → at ≡ at + 0
    none at = omega arith
sets-append l (x ∷ xs) ys at =
    sets-append (set l at x) xs ys (suc at) ∙ ap (λ (k : ℕ). sets (sets (set l at x) (suc at) xs) k ys) (move at (length xs))
  where
    move : (at n : ℕ) → suc at + n ≡ at + suc n
    move at n = omega arith
