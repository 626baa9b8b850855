-- Of specs/Message: how long a filled template is at most, and templates one after another.
use Prim.Native.Nat.{ℕ, ◌≤◌, ◌<◌}
use mathlib.Core.Path.{◌≡◌, refl, sym, ap, ◌∙◌}
use mathlib.Core.Bool.{Bool, true, false, cond}
use mathlib.Core.List.{List, [], ◌∷◌, ◌++◌, append_assoc}
use native.Mathlib.Nat.{zero-add}
use native.Mathlib.Omega.{arith}
use lib.Dec.{eqb}
use lib.ListN.{length, drop, length-append}
use lib.Seq.{sets, sets-eq}
use Prim.Native.Char.{code}
use Rattle.answers.specs.Answer.{Refusal}
use Rattle.answers.specs.Message.{decimal_in, in_decimal, spelled, filled, longest}
use Rattle.answers.proofs.Decimal.{decimal_most}

-- ---- bytes at the front
pub front_put : (bytes out : List ℕ) → length bytes ≤ length out → sets out 0 bytes ≡ bytes ++ drop (length bytes) out
front_put bytes out h =
    sets-eq bytes out 0 (omega arith) ∙ ap (λ (k : ℕ). bytes ++ drop k out) (zero-add (length bytes))

-- ---- lengths
either : (t : Bool) (x y u w : List ℕ) → length x ≤ length u → length y ≤ length w → length (cond t x y) ≤ length (cond t u w)
either true x y u w p q = p
either false x y u w p q = q

-- what the code's refusals have room for
abbrev pub IsSmall : Refusal → Type 0
IsSmall r = (r.number < 256) × (r.a < 256) × (r.b < 65536)

module _ (r : Refusal) (small : IsSmall r) where
  spelled_most : (c : ℕ) → length (spelled r c) ≤ length (spelled longest c)
  unfolding spelled decimal_in in_decimal
  spelled_most c =
      either (eqb c (code "N")) _ _ _ _ (decimal_most 2 r.number (omega (arith, small.0)))
      (either (eqb c (code "A")) _ _ _ _ (decimal_most 2 r.a (omega (arith, small.1)))
      (either (eqb c (code "B")) _ _ _ _ (decimal_most 4 r.b (omega (arith, small.2))) (omega arith)))

  pub filled_most : (t : List ℕ) → length (filled r t) ≤ length (filled longest t)
  unfolding filled
  filled_most [] = omega arith
  filled_most (c ∷ t) = omega (arith, length-append (spelled r c) (filled r t), length-append (spelled longest c) (filled longest t), spelled_most c, filled_most t)

pub filled-append : (r : Refusal) (s t : List ℕ) → filled r (s ++ t) ≡ filled r s ++ filled r t
unfolding filled
filled-append r [] t = refl
filled-append r (c ∷ s) t =
    ap (λ (x : List ℕ). spelled r c ++ x) (filled-append r s t) ∙ sym (append_assoc (spelled r c) (filled r s) (filled r t))
