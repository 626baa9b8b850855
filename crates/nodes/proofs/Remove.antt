-- A member is taken out of a set: what is left of its count, its sums and its list. Serves Row.
use Prim.Native.Nat.{ℕ, zero, suc, ◌+◌, ◌≤◌, ◌<◌}
use mathlib.Core.Path.{◌≡◌, refl, sym, ap, ap₂, ◌∙◌, subst, fun_ext}
use mathlib.Core.Bool.{Bool, true, false, cond, not, ◌&&◌}
use mathlib.Core.List.{List, ◌∷◌}
use mathlib.Core.Logic.{◌⊎◌, inl, inr, ◌≢◌}
use native.Mathlib.Decide.{ℕ_discrete}
use native.Mathlib.Nat.{not-suc-le-zero, eq-or-lt_of_le, le_of_suc-le-suc, le_refl}
use native.Mathlib.Omega.{arith}
use native.Mathlib.Numerals.{lt_of_le_of_ne}
use lib.Dec.{T, eqb}
use Rattle.nodes.specs.Bit.{◌⊕◌}
use Rattle.nodes.specs.Row.{parity, any_below, count, lowest_from, lowest, members_from, members}
use Rattle.nodes.proofs.Logic.{is_true, is_false, from_true, from_false, lt_or_ge, and_l, eqb_no, eqb_yes, and_none, and_all, not-not, ⊕_none}
use Rattle.nodes.proofs.Row.{parity_ext, parity-⊕, parity_one}
use Rattle.nodes.proofs.Count.{count_ext}
use Rattle.nodes.proofs.Members.{lowest_none, lowest_here, lowest_some, lowest_member}

-- s without v
abbrev pub removed : (ℕ → Bool) → ℕ → ℕ → Bool
removed s v u = s u && not (eqb u v)

pub removed_other : (s : ℕ → Bool) (v u : ℕ) → u ≢ v → removed s v u ≡ s u
removed_other s v u n = rw (eqb_no u v n) (and_all (s u))

pub removed_same : (s : ℕ → Bool) (v : ℕ) → removed s v v ≡ false
removed_same s v = rw (eqb_yes v) (and_none (s v))

-- v alone, which is what goes with it
pub least_alone : (s : ℕ → Bool) (v u : ℕ) → s u && not (removed s v u) ≡ s u && eqb u v
least_alone s v u = by (s u) (eqb u v)
  where
    by : (a b : Bool) → a && not (a && not b) ≡ a && b
    by true b = not-not b
    by false b = refl

pub count_remove : (n : ℕ) (s : ℕ → Bool) (v : ℕ) → v < n → T (s v) → count n s ≡ suc (count n (removed s v))
unfolding count
count_remove zero s v h t = absurd (not-suc-le-zero h)
count_remove (suc n) s v h t = go (eq-or-lt_of_le (le_of_suc-le-suc h)) (count_remove n s v)
  where
    go : (v ≡ n) ⊎ (v < n) → (v < n → T (s v) → count n s ≡ suc (count n (removed s v)))
        → cond (s n) (suc (count n s)) (count n s) ≡ suc (cond (removed s v n) (suc (count n (removed s v))) (count n (removed s v)))
    go (inl e) ih =
        ap (λ (b : Bool). cond b (suc (count n s)) (count n s)) (is_true (s n) (rw e at t))
        ∙ ap suc (count_ext n s (removed s v) (λ k l. sym (removed_other s v k (omega arith))))
        ∙ ap (λ (b : Bool). suc (cond b (suc (count n (removed s v))) (count n (removed s v)))) (sym (ap (removed s v) (sym e) ∙ removed_same s v))
    go (inr l) ih =
        ap (λ (c : ℕ). cond (s n) (suc c) c) (ih l t) ∙ out (s n)
        ∙ ap (λ (b : Bool). suc (cond b (suc (count n (removed s v))) (count n (removed s v)))) (sym (removed_other s v n (omega arith)))
      where
        out : (b : Bool) → cond b (suc (suc (count n (removed s v)))) (suc (count n (removed s v))) ≡ suc (cond b (suc (count n (removed s v))) (count n (removed s v)))
        out true = refl
        out false = refl

-- one visit: the least is taken out
pub count-lowest : (n : ℕ) (s : ℕ → Bool) → T (any_below n s) → count n s ≡ suc (count n (removed s (lowest n s)))
count-lowest n s t = count_remove n s (lowest n s) (lowest_some n s t) (lowest_member n s t)

-- a sum over the set
pub parity_remove : (n : ℕ) (s f : ℕ → Bool) (v : ℕ) → v < n → T (s v) → parity n (λ k. s k && f k) ≡ f v ⊕ parity n (λ k. removed s v k && f k)
parity_remove n s f v h t =
    parity_ext n (λ k. s k && f k) (λ k. (f k && eqb k v) ⊕ (removed s v k && f k)) (λ k l. go k (ℕ_discrete k v))
    ∙ parity-⊕ n (λ k. f k && eqb k v) (λ k. removed s v k && f k)
    ∙ ap (λ (b : Bool). b ⊕ parity n (λ k. removed s v k && f k)) (parity_one n v f h)
  where
    go : (k : ℕ) → Dec (k ≡ v) → s k && f k ≡ (f k && eqb k v) ⊕ (removed s v k && f k)
    go k (yes e) = rw (e, is_true (s v) t, eqb_yes v, and_all (f v)) (sym (⊕_none (f v)))
    go k (no n) = rw (eqb_no k v n, and_none (f k), and_all (s k))

pub parity-lowest : (n : ℕ) (s f : ℕ → Bool) → T (any_below n s) → parity n (λ k. s k && f k) ≡ f (lowest n s) ⊕ parity n (λ k. removed s (lowest n s) k && f k)
parity-lowest n s f t = parity_remove n s f (lowest n s) (lowest_some n s t) (lowest_member n s t)

-- ---- the list of the members: the least, and then those of the rest
from_ext : (k n : ℕ) (s t : ℕ → Bool) → ((j : ℕ) → k ≤ j → s j ≡ t j) → members_from k n s ≡ members_from k n t
unfolding members_from
from_ext k zero s t h = refl
from_ext k (suc n) s t h = ap₂ (λ (b : Bool) (l : List ℕ). cond b (k ∷ l) l) (h k (le_refl k)) (from_ext (k + 1) n s t (λ j l. h j (omega arith)))

from-cons : (k n : ℕ) (s : ℕ → Bool) → lowest_from k n s < k + n → members_from k n s ≡ lowest_from k n s ∷ members_from k n (removed s (lowest_from k n s))
unfolding members_from lowest_from
from-cons k zero s h = absurd (bad k h)
  where
    bad : (k : ℕ) → k < k + 0 → ⊥
    bad k h = omega arith
from-cons k (suc n) s h = go (s k) refl h (from-cons (k + 1) n s)
  where
    go : (c : Bool) → s k ≡ c → cond c k (lowest_from (k + 1) n s) < k + suc n
        → (lowest_from (k + 1) n s < k + 1 + n → members_from (k + 1) n s ≡ lowest_from (k + 1) n s ∷ members_from (k + 1) n (removed s (lowest_from (k + 1) n s)))
        → cond c (k ∷ members_from (k + 1) n s) (members_from (k + 1) n s)
        ≡ cond c k (lowest_from (k + 1) n s)
        ∷ cond (removed s (cond c k (lowest_from (k + 1) n s)) k) (k ∷ members_from (k + 1) n (removed s (cond c k (lowest_from (k + 1) n s)))) (members_from (k + 1) n (removed s (cond c k (lowest_from (k + 1) n s))))
    go true e l ih =
        ap (λ (xs : List ℕ). k ∷ xs)
        (from_ext (k + 1) n s (removed s k) (λ j g. sym (removed_other s k j (omega arith)))
        ∙ ap (λ (b : Bool). cond b (k ∷ members_from (k + 1) n (removed s k)) (members_from (k + 1) n (removed s k))) (sym (removed_same s k)))
    go false e l ih =
        ih (omega arith)
        ∙ ap (λ (b : Bool). lowest_from (k + 1) n s ∷ cond b (k ∷ members_from (k + 1) n (removed s (lowest_from (k + 1) n s))) (members_from (k + 1) n (removed s (lowest_from (k + 1) n s))))
        (sym (ap (λ (b : Bool). b && not (eqb k (lowest_from (k + 1) n s))) e))

pub members-cons : (n : ℕ) (s : ℕ → Bool) → lowest n s < n → members n s ≡ lowest n s ∷ members n (removed s (lowest n s))
members-cons n s h = from-cons 0 n s (omega arith)

-- the least member alone, which is there
pub least_one : (n : ℕ) (s r : ℕ → Bool) → T (any_below n s) → r ≡ (λ u. s u && eqb u (lowest n s)) → r ≡ (λ u. eqb u (lowest n s))
least_one n s r t e = e ∙ fun_ext (λ u. by u (ℕ_discrete u (lowest n s)))
  where
    by : (u : ℕ) → Dec (u ≡ lowest n s) → s u && eqb u (lowest n s) ≡ eqb u (lowest n s)
    by u (yes q) = ap (λ (b : Bool). b && eqb u (lowest n s)) (is_true (s u) (subst (λ (x : ℕ). T (s x)) (sym q) (lowest_member n s t)))
    by u (no d) = ap (λ (b : Bool). s u && b) (eqb_no u (lowest n s) d) ∙ and_none (s u) ∙ sym (eqb_no u (lowest n s) d)

-- the next one is above it, and there is none in between
pub lowest_next : (n : ℕ) (s r : ℕ → Bool) → T (any_below n s) → r ≡ removed s (lowest n s)
    → (lowest n s < lowest n r) × ((k : ℕ) → lowest n s < k → k < lowest n r → s k ≡ false)
lowest_next n s r t e = (
  above (lt_or_ge (lowest n s) (lowest n r)) (lt_or_ge (lowest n r) n),
  λ k l h. is_false (s k) (λ q. from_false (r k) (lowest_none n r k h) (subst (λ (f : ℕ → Bool). T (f k)) (sym e) (subst T (sym (removed_other s (lowest n s) k (λ z. absurd (omega arith)))) q))),
)
  where
    above : (lowest n s < lowest n r) ⊎ (lowest n r ≤ lowest n s) → (lowest n r < n) ⊎ (n ≤ lowest n r) → lowest n s < lowest n r
    above (inl l) d = l
    above (inr l) (inr g) = absurd (let h = lowest_some n s t in omega arith)
    above (inr l) (inl g) =
        let q : T (removed s (lowest n s) (lowest n r)) = subst (λ (f : ℕ → Bool). T (f (lowest n r))) e (from_true (r (lowest n r)) (lowest_here n r g)) in
        let d : lowest n r ≢ lowest n s = λ z. from_false (removed s (lowest n s) (lowest n r)) (ap (removed s (lowest n s)) z ∙ removed_same s (lowest n s)) q in
        absurd (from_false (s (lowest n r)) (lowest_none n s (lowest n r) (lt_of_le_of_ne l d)) (and_l (s (lowest n r)) (not (eqb (lowest n r) (lowest n s))) q))
