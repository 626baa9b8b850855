-- The least member of a set, and its members as a list. Serves Row.
use Prim.Native.Nat.{ℕ, zero, suc, ◌+◌, ◌-◌, ◌≤◌, ◌<◌}
use mathlib.Core.Path.{◌≡◌, refl, sym, ap, ap₂, ◌∙◌}
use mathlib.Core.Bool.{Bool, true, false, cond}
use mathlib.Core.List.{List, [], ◌∷◌, ◌++◌, append-nil}
use mathlib.Core.Logic.{◌⊎◌, inl, inr}
use native.Mathlib.Omega.{arith}
use native.Mathlib.Nat.{le_step, lt-suc_self, eq-or-lt_of_le, le_refl, add-zero, zero-add}
use lib.Dec.{T, ltb, ltb→lt}
use lib.ListN.{length, length-append}
use Rattle.nodes.specs.Row.{count, any_below, lowest_from, lowest, members_from, members}
use Rattle.nodes.proofs.Logic.{is_true, is_false, from_true, from_false, both_ways, dec, le_or_lt, lt_or_ge}
use Rattle.nodes.proofs.Row.{any_in, any_none, ltb_yes, ltb_no}
use Rattle.nodes.proofs.Count.{count_at, count_not}

-- ---- the least member
pub from_ge : (k n : ℕ) (s : ℕ → Bool) → k ≤ lowest_from k n s
unfolding lowest_from
from_ge k zero s = le_refl k
from_ge k (suc n) s = go (s k) (from_ge (k + 1) n s)
  where
    go : (c : Bool) → k + 1 ≤ lowest_from (k + 1) n s → k ≤ cond c k (lowest_from (k + 1) n s)
    go true h = le_refl k
    go false h = omega arith

pub from-le : (k n : ℕ) (s : ℕ → Bool) → lowest_from k n s ≤ k + n
unfolding lowest_from
from-le k zero s = omega arith
from-le k (suc n) s = go (s k) (from-le (k + 1) n s)
  where
    go : (c : Bool) → lowest_from (k + 1) n s ≤ k + 1 + n → cond c k (lowest_from (k + 1) n s) ≤ k + suc n
    go true h = omega arith
    go false h = omega arith

-- a number with nothing of s before it from k on, that is itself in s or past the end
pub from_unique : (k n : ℕ) (s : ℕ → Bool) (r : ℕ) → k ≤ r → r ≤ k + n → ((j : ℕ) → k ≤ j → j < r → s j ≡ false) → (r < k + n → s r ≡ true) → lowest_from k n s ≡ r
unfolding lowest_from
from_unique k zero s r a b f g = omega arith
from_unique k (suc n) s r a b f g = go (s k) refl (eq-or-lt_of_le a) (from_unique (k + 1) n s r)
  where
    go : (c : Bool) → s k ≡ c → (k ≡ r) ⊎ (k < r)
        → (k + 1 ≤ r → r ≤ k + 1 + n → ((j : ℕ) → k + 1 ≤ j → j < r → s j ≡ false) → (r < k + 1 + n → s r ≡ true) → lowest_from (k + 1) n s ≡ r)
        → cond c k (lowest_from (k + 1) n s) ≡ r
    go true e (inl p) ih = p
    go true e (inr l) ih = absurd (both_ways (s k) e (f k (le_refl k) l))
    go false e (inl p) ih = absurd (both_ways (s k) (ap s p ∙ g (omega arith)) e)
    go false e (inr l) ih = ih (omega arith) (omega arith) (λ j u v. f j (omega arith) v) (λ u. g (omega arith))

pub from_none : (k n : ℕ) (s : ℕ → Bool) (j : ℕ) → k ≤ j → j < lowest_from k n s → s j ≡ false
unfolding lowest_from
from_none k zero s j a b = absurd (apart j k a b)
  where
    apart : (j k : ℕ) → k ≤ j → j < k → ⊥
    apart j k p q = omega arith
from_none k (suc n) s j a b = go (s k) refl b (eq-or-lt_of_le a) (from_none (k + 1) n s j)
  where
    apart : (j k : ℕ) → k ≤ j → j < k → ⊥
    apart j k p q = omega arith

    go : (c : Bool) → s k ≡ c → j < cond c k (lowest_from (k + 1) n s) → (k ≡ j) ⊎ (k < j) → (k + 1 ≤ j → j < lowest_from (k + 1) n s → s j ≡ false) → s j ≡ false
    go true e h o ih = absurd (apart j k a h)
    go false e h (inl p) ih = ap s (sym p) ∙ e
    go false e h (inr l) ih = ih (omega arith) h

pub from_here : (k n : ℕ) (s : ℕ → Bool) → lowest_from k n s < k + n → s (lowest_from k n s) ≡ true
unfolding lowest_from
from_here k zero s h = absurd (apart k h)
  where
    apart : (k : ℕ) → k < k + 0 → ⊥
    apart k p = omega arith
from_here k (suc n) s h = go (s k) refl h (from_here (k + 1) n s)
  where
    go : (c : Bool) → s k ≡ c → cond c k (lowest_from (k + 1) n s) < k + suc n → (lowest_from (k + 1) n s < k + 1 + n → s (lowest_from (k + 1) n s) ≡ true) → s (cond c k (lowest_from (k + 1) n s)) ≡ true
    go true e h ih = e
    go false e h ih = ih (omega arith)

pub lowest-le : (n : ℕ) (s : ℕ → Bool) → lowest n s ≤ n
lowest-le n s = omega (arith, from-le 0 n s)

pub lowest_none : (n : ℕ) (s : ℕ → Bool) (k : ℕ) → k < lowest n s → s k ≡ false
lowest_none n s k h = from_none 0 n s k (omega arith) h

pub lowest_here : (n : ℕ) (s : ℕ → Bool) → lowest n s < n → s (lowest n s) ≡ true
lowest_here n s h = from_here 0 n s (omega arith)

-- the three facts determine it
pub lowest_unique : (n : ℕ) (s : ℕ → Bool) (r : ℕ) → r ≤ n → ((k : ℕ) → k < r → s k ≡ false) → (r < n → s r ≡ true) → lowest n s ≡ r
lowest_unique n s r b f g = from_unique 0 n s r (omega arith) (omega arith) (λ j u v. f j v) (λ l. g (omega arith))

pub lowest_ext : (n : ℕ) (s t : ℕ → Bool) → ((k : ℕ) → k < n → s k ≡ t k) → lowest n s ≡ lowest n t
lowest_ext n s t h =
    let b = lowest-le n t in
    lowest_unique n s (lowest n t) b (λ k l. h k (omega arith) ∙ lowest_none n t k l) (λ l. h (lowest n t) l ∙ lowest_here n t l)

-- there is a member where the least is below n
pub any_lowest : (n : ℕ) (s : ℕ → Bool) → any_below n s ≡ ltb (lowest n s) n
any_lowest n s = go (le_or_lt n (lowest n s))
  where
    go : (n ≤ lowest n s) ⊎ (lowest n s < n) → any_below n s ≡ ltb (lowest n s) n
    go (inl h) = any_none n s (λ k l. from_false (s k) (lowest_none n s k (omega arith))) ∙ sym (ltb_no (lowest n s) n h)
    go (inr h) = is_true (any_below n s) (any_in n s (lowest n s) h (from_true (s (lowest n s)) (lowest_here n s h))) ∙ sym (ltb_yes (lowest n s) n h)

pub lowest_some : (n : ℕ) (s : ℕ → Bool) → T (any_below n s) → lowest n s < n
lowest_some n s t = ltb→lt (lowest n s) n (from_true (ltb (lowest n s) n) (sym (any_lowest n s) ∙ is_true (any_below n s) t))

pub lowest_member : (n : ℕ) (s : ℕ → Bool) → T (any_below n s) → T (s (lowest n s))
lowest_member n s t = from_true (s (lowest n s)) (lowest_here n s (lowest_some n s t))

-- from the number 0, and the rest
from-suc : (k n : ℕ) (s : ℕ → Bool) → lowest_from (suc k) n s ≡ suc (lowest_from k n (λ i. s (suc i)))
unfolding lowest_from
from-suc k zero s = refl
from-suc k (suc n) s = go (s (suc k)) (ap (λ (x : ℕ). lowest_from x n s) next ∙ from-suc (k + 1) n s)
  where
    next : suc k + 1 ≡ suc (k + 1)
    next = omega arith

    go : (c : Bool) → lowest_from (suc k + 1) n s ≡ suc (lowest_from (k + 1) n (λ i. s (suc i)))
        → cond c (suc k) (lowest_from (suc k + 1) n s) ≡ suc (cond c k (lowest_from (k + 1) n (λ i. s (suc i))))
    go true e = refl
    go false e = e

pub lowest-suc : (n : ℕ) (s : ℕ → Bool) → lowest (suc n) s ≡ cond (s 0) 0 (suc (lowest n (λ k. s (suc k))))
unfolding lowest_from
lowest-suc n s = ap (λ (x : ℕ). cond (s 0) 0 x) (from-suc 0 n s)

-- the first m have the least, or none of them is in s
pub lowest_front : (m n : ℕ) (s : ℕ → Bool) → lowest m s < m → lowest (m + n) s ≡ lowest m s
lowest_front m n s h = lowest_unique (m + n) s (lowest m s) (omega arith) (lowest_none m s) (λ l. lowest_here m s h)

pub lowest_back : (m n : ℕ) (s : ℕ → Bool) → ((k : ℕ) → k < m → s k ≡ false) → lowest (m + n) s ≡ m + lowest n (λ k. s (m + k))
lowest_back m n s f =
    let b = lowest-le n (λ k. s (m + k)) in
    lowest_unique (m + n) s (m + lowest n (λ k. s (m + k))) (omega arith) (λ k l. none k l (lt_or_ge k m)) (λ l. lowest_here n (λ k. s (m + k)) (omega arith))
  where
    none : (k : ℕ) → k < m + lowest n (λ k. s (m + k)) → (k < m) ⊎ (m ≤ k) → s k ≡ false
    none k l (inl h) = f k h
    none k l (inr h) = let e : k ≡ m + (k - m) = omega arith in ap s e ∙ lowest_none n (λ k. s (m + k)) (k - m) (omega arith)

-- ---- the members as a list
-- one number more at the end
pub from_snoc : (k n : ℕ) (s : ℕ → Bool) → members_from k (suc n) s ≡ members_from k n s ++ cond (s (k + n)) ((k + n) ∷ []) []
unfolding members_from
from_snoc k zero s = ap (λ (x : ℕ). cond (s x) (x ∷ []) []) (sym (add-zero k))
from_snoc k (suc n) s = go (s k) (from_snoc (k + 1) n s)
  where
    last : k + 1 + n ≡ k + suc n
    last = omega arith

    go : (c : Bool) → members_from (k + 1) (suc n) s ≡ members_from (k + 1) n s ++ cond (s (k + 1 + n)) ((k + 1 + n) ∷ []) []
        → cond c (k ∷ members_from (k + 1) (suc n) s) (members_from (k + 1) (suc n) s)
        ≡ cond c (k ∷ members_from (k + 1) n s) (members_from (k + 1) n s) ++ cond (s (k + suc n)) ((k + suc n) ∷ []) []
    go true e = ap (λ (l : List ℕ). k ∷ l) (e ∙ ap (λ (x : ℕ). members_from (k + 1) n s ++ cond (s x) (x ∷ []) []) last)
    go false e = e ∙ ap (λ (x : ℕ). members_from (k + 1) n s ++ cond (s x) (x ∷ []) []) last

pub members_snoc : (n : ℕ) (s : ℕ → Bool) → members (suc n) s ≡ members n s ++ cond (s n) (n ∷ []) []
members_snoc n s = from_snoc 0 n s ∙ ap (λ (x : ℕ). members n s ++ cond (s x) (x ∷ []) []) (zero-add n)

pub members_in : (n : ℕ) (s : ℕ → Bool) → T (s n) → members (suc n) s ≡ members n s ++ (n ∷ [])
members_in n s t = members_snoc n s ∙ ap (λ (b : Bool). members n s ++ cond b (n ∷ []) []) (is_true (s n) t)

pub members_out : (n : ℕ) (s : ℕ → Bool) → (T (s n) → ⊥) → members (suc n) s ≡ members n s
members_out n s f = members_snoc n s ∙ ap (λ (b : Bool). members n s ++ cond b (n ∷ []) []) (is_false (s n) f) ∙ append-nil (members n s)

pub members-length : (n : ℕ) (s : ℕ → Bool) → length (members n s) ≡ count n s
unfolding count members_from
members-length zero s = refl
members-length (suc n) s = go (dec (s n)) (members-length n s)
  where
    go : T (s n) ⊎ (T (s n) → ⊥) → length (members n s) ≡ count n s → length (members (suc n) s) ≡ count (suc n) s
    go (inl t) ih = ap length (members_in n s t) ∙ length-append (members n s) (n ∷ []) ∙ omega (arith, count_at n s t)
    go (inr f) ih = ap length (members_out n s f) ∙ ih ∙ sym (count_not n s f)

pub members_ext : (n : ℕ) (s t : ℕ → Bool) → ((k : ℕ) → k < n → s k ≡ t k) → members n s ≡ members n t
unfolding members_from
members_ext zero s t h = refl
members_ext (suc n) s t h =
    members_snoc n s ∙ ap₂ (λ (l : List ℕ) (b : Bool). l ++ cond b (n ∷ []) []) (members_ext n s t (λ k l. h k (le_step l))) (h n (lt-suc_self n))
    ∙ sym (members_snoc n t)

-- a set with nothing from n on has its list within n
pub members_past : (n w : ℕ) (s : ℕ → Bool) → n ≤ w → ((k : ℕ) → n ≤ k → s k ≡ false) → members w s ≡ members n s
members_past n zero s h z = ap (λ (x : ℕ). members x s) (nothing n h)
  where
    nothing : (n : ℕ) → n ≤ 0 → 0 ≡ n
    nothing n h = omega arith
members_past n (suc w) s h z = go (eq-or-lt_of_le h) (members_past n w s)
  where
    go : (n ≡ suc w) ⊎ (n < suc w) → (n ≤ w → ((k : ℕ) → n ≤ k → s k ≡ false) → members w s ≡ members n s) → members (suc w) s ≡ members n s
    go (inl e) ih = ap (λ (x : ℕ). members x s) (sym e)
    go (inr l) ih = members_out w s (from_false (s w) (z w (omega arith))) ∙ ih (omega arith) z

pub members_none : (n : ℕ) (s : ℕ → Bool) → (T (any_below n s) → ⊥) → members n s ≡ []
unfolding members_from
members_none n s f =
    members_ext n s (λ k. false) (λ k l. is_false (s k) (λ t. f (any_in n s k l t))) ∙ members_past 0 n (λ k. false) (omega arith) (λ k l. refl)
