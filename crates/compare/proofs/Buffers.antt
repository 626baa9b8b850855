-- A buffer that begins with the result, and the bytes behind it.
use Prim.Native.Nat.{ℕ, zero, suc, ◌+◌, ◌<◌, ◌≤◌}
use mathlib.Core.Path.{◌≡◌, refl, sym, ap, ap₂, ◌∙◌}
use mathlib.Core.Bool.{Bool, true, false, ◌&&◌}
use mathlib.Core.Logic.{◌≢◌}
use mathlib.Core.List.{List, [], ◌∷◌, ◌++◌}
use native.Mathlib.Omega.{arith}
use native.Mathlib.Nat.{not-suc-le-zero, le_of_suc-le-suc}
use borrow.Author.Tests.{le-leb}
use lib.Dec.{T, eqb, leb, eqb→eq, eqb_refl, leb→le}
use lib.ListN.{length, get_or, drop}
use Rattle.std.specs.List.{list_all}
use Rattle.std.proofs.Math.ListN.{get_or-append, get_or-eq_default}
use Rattle.std.proofs.lemmas.List.{get_or_default, get_or-append-add, length-append}
use Rattle.nodes.specs.Row.{all_below}
use Rattle.nodes.proofs.Logic.{is_true, is_false, and_l, and_r}
use Rattle.nodes.proofs.Row.{all_in, all_out, all_ext, all_split}
use Rattle.compare.specs.Buffers.{holds_at, holds_only}

and_true : (b : Bool) → b && true ≡ b
and_true true = refl
and_true false = refl

one : (k : ℕ) → 1 + k ≡ suc k
one k = omega arith

-- a test of each element, by index and by the list
all_at : (test : ℕ → Bool) (xs : List ℕ) → all_below (length xs) (λ k. test (get_or xs k 0)) ≡ list_all test xs
unfolding all_below
all_at test [] = refl
all_at test (x ∷ xs) = let s = λ (k : ℕ). test (get_or (x ∷ xs) k 0) in
    sym (ap (λ (n : ℕ). all_below n s) (one (length xs)))
    ∙ all_split 1 (length xs) s
    ∙ ap₂ ◌&&◌ (and_true (test x)) (all_ext (length xs) (λ k. s (1 + k)) (λ k. test (get_or xs k 0)) (λ k l. ap s (one k)) ∙ all_at test xs)

module _ (p rest : List ℕ) (fill : ℕ) where
  within : (k : ℕ) → k < length p → T (holds_at (p ++ rest) p fill k)
  within k l = rw (get_or-append p rest 0 k l, get_or_default p k 0 fill l) (eqb_refl (get_or p k fill))

  past : (k : ℕ) → k < length rest → holds_at (p ++ rest) p fill (length p + k) ≡ eqb (get_or rest k 0) fill
  past k l = ap₂ eqb (get_or-append-add p rest k 0) (get_or-eq_default p fill (omega arith))

  -- behind the result each byte is compared with the fill
  pub held : list_all (λ b. eqb b fill) rest ≡ holds_only (p ++ rest) p fill
  held = let f = holds_at (p ++ rest) p fill in
      sym (ap (λ (b : Bool). b && all_below (length (p ++ rest)) f) (le-leb (length p) (length (p ++ rest)) (omega (arith, length-append p rest)))
      ∙ ap (λ (n : ℕ). all_below n f) (length-append p rest)
      ∙ all_split (length p) (length rest) f
      ∙ ap₂ ◌&&◌ (is_true (all_below (length p) f) (all_in (length p) f within)) (all_ext (length rest) (λ k. f (length p + k)) (λ k. eqb (get_or rest k 0) fill) past)
      ∙ all_at (λ b. eqb b fill) rest)

prefix : (p s : List ℕ) (fill : ℕ) → length p ≤ length s → ((k : ℕ) → k < length p → get_or s k 0 ≡ get_or p k fill) → s ≡ p ++ drop (length p) s
prefix [] s fill h e = refl
prefix (x ∷ p) [] fill h e = absurd (not-suc-le-zero h)
prefix (x ∷ p) (y ∷ s) fill h e = ap₂ ◌∷◌ (e zero (omega arith)) (prefix p s fill (le_of_suc-le-suc h) (λ k l. e (suc k) (omega arith)))

pub not_held : (p s : List ℕ) (fill : ℕ) → ((rest : List ℕ) → s ≢ p ++ rest) → false ≡ holds_only s p fill
not_held p s fill other = sym (is_false (holds_only s p fill) (λ t. by t (leb→le (length p) (length s) (and_l (leb (length p) (length s)) _ t))))
  where
    by : T (holds_only s p fill) → length p ≤ length s → ⊥
    by t room = other (drop (length p) s) (prefix p s fill room (λ k l. eqb→eq _ _ (all_out (length s) (holds_at s p fill) (and_r (leb (length p) (length s)) _ t) k (omega arith))))
