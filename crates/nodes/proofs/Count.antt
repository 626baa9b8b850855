-- How many numbers below n a set has, and the rank of a member: how many are below it. Serves Row.
use Prim.Native.Nat.{ℕ, zero, suc, ◌+◌, ◌%◌, ◌≤◌, ◌<◌, zero-le}
use mathlib.Core.Path.{◌≡◌, refl, sym, ap, ap₂, ◌∙◌}
use mathlib.Core.Bool.{Bool, true, false, cond, not}
use mathlib.Core.Logic.{◌⊎◌, inl, inr}
use native.Mathlib.Omega.{arith}
use native.Mathlib.Nat.{not-suc-le-zero, le_step, lt-suc_self, eq-or-lt_of_le, le_of_suc-le-suc, le_refl, add-zero, add-suc, mod-lt, zero-lt-suc}
use lib.Dec.{T}
use Rattle.nodes.specs.Bit.{◌⊕◌, is_one}
use Rattle.nodes.specs.Row.{parity, count, any_below}
use Rattle.nodes.proofs.Logic.{is_true, is_false, dec, le_or_lt}
use Rattle.nodes.proofs.Row.{any_in}

pub count-le : (n : ℕ) (s : ℕ → Bool) → count n s ≤ n
unfolding count
count-le zero s = le_refl 0
count-le (suc n) s = go (s n) (count-le n s)
  where
    go : (c : Bool) → count n s ≤ n → cond c (suc (count n s)) (count n s) ≤ suc n
    go true h = omega arith
    go false h = omega arith

pub count_ext : (n : ℕ) (s t : ℕ → Bool) → ((k : ℕ) → k < n → s k ≡ t k) → count n s ≡ count n t
unfolding count
count_ext zero s t h = refl
count_ext (suc n) s t h = ap₂ (λ (b : Bool) (x : ℕ). cond b (suc x) x) (h n (lt-suc_self n)) (count_ext n s t (λ k l. h k (le_step l)))

pub count_at : (n : ℕ) (c : ℕ → Bool) → T (c n) → count (suc n) c ≡ suc (count n c)
unfolding count
count_at n c t = rw (is_true (c n) t)

pub count_not : (n : ℕ) (c : ℕ → Bool) → (T (c n) → ⊥) → count (suc n) c ≡ count n c
unfolding count
count_not n c f = rw (is_false (c n) f)

pub count_none : (n : ℕ) (s : ℕ → Bool) → ((k : ℕ) → k < n → T (s k) → ⊥) → count n s ≡ 0
unfolding count
count_none zero s h = refl
count_none (suc n) s h = count_not n s (h n (lt-suc_self n)) ∙ count_none n s (λ k l. h k (le_step l))

pub count_empty : (n : ℕ) (s : ℕ → Bool) → (T (any_below n s) → ⊥) → count n s ≡ 0
count_empty n s f = count_none n s (λ k l t. f (any_in n s k l t))

-- the first m, and then n more
pub count_split : (m n : ℕ) (s : ℕ → Bool) → count (m + n) s ≡ count m s + count n (λ k. s (m + k))
unfolding count
count_split m zero s = ap (λ (x : ℕ). count x s) (add-zero m) ∙ sym (add-zero (count m s))
count_split m (suc n) s = ap (λ (x : ℕ). count x s) (add-suc m n) ∙ go (s (m + n)) (count_split m n s)
  where
    go : (c : Bool) → count (m + n) s ≡ count m s + count n (λ k. s (m + k))
        → cond c (suc (count (m + n) s)) (count (m + n) s) ≡ count m s + cond c (suc (count n (λ k. s (m + k)))) (count n (λ k. s (m + k)))
    go true e = ap suc e ∙ sym (add-suc (count m s) (count n (λ k. s (m + k))))
    go false e = e

-- an odd number of members
pub parity-count : (n : ℕ) (s : ℕ → Bool) → parity n s ≡ is_one (count n s % 2)
unfolding parity count
parity-count zero s = refl
parity-count (suc n) s = go (s n) (parity-count n s)
  where
    next : (c : ℕ) → not (is_one (c % 2)) ≡ is_one (suc c % 2)
    next c = by (c % 2) refl (mod-lt c (zero-lt-suc 1))
      where
        by : (d : ℕ) → c % 2 ≡ d → d < 2 → not (is_one (c % 2)) ≡ is_one (suc c % 2)
        by zero e l = let f : suc c % 2 ≡ 1 = omega arith in rw (e, f)
        by (suc d) e l = let f : suc c % 2 ≡ 0 = omega arith in rw (e, f)

    go : (b : Bool) → parity n s ≡ is_one (count n s % 2) → b ⊕ parity n s ≡ is_one (cond b (suc (count n s)) (count n s) % 2)
    go true e = ap not e ∙ next (count n s)
    go false e = e

pub count_mono : (k n : ℕ) (c : ℕ → Bool) → k ≤ n → count k c ≤ count n c
count_mono k zero c h = rw (nothing k h) (omega arith)
  where
    nothing : (k : ℕ) → k ≤ 0 → k ≡ 0
    nothing k h = omega arith
count_mono k (suc n) c h = go (eq-or-lt_of_le h) (count_mono k n c) (dec (c n))
  where
    go : (k ≡ suc n) ⊎ (k < suc n) → (k ≤ n → count k c ≤ count n c) → T (c n) ⊎ (T (c n) → ⊥) → count k c ≤ count (suc n) c
    go (inl e) ih d = rw e (omega arith)
    go (inr l) ih (inl t) = let h : count k c ≤ count n c = ih (omega arith) in rw (count_at n c t) (omega arith)
    go (inr l) ih (inr f) = rw (count_not n c f) (ih (omega arith))

pub count_pos : (n : ℕ) (s : ℕ → Bool) (u : ℕ) → u < n → T (s u) → 0 < count n s
count_pos n s u l t = let e = count_at u s t in let h = count_mono (suc u) n s l in omega arith

-- ---- a set within another
abbrev pub IsWithin : ℕ → (ℕ → Bool) → (ℕ → Bool) → Type 0
IsWithin n s t = (v : ℕ) → v < n → T (s v) → T (t v)

within_suc : (n : ℕ) (s t : ℕ → Bool) → IsWithin n s t → (T (s n) → T (t n)) → IsWithin (suc n) s t
within_suc n s t w f v l = go (eq-or-lt_of_le (le_of_suc-le-suc l))
  where
    go : (v ≡ n) ⊎ (v < n) → T (s v) → T (t v)
    go (inl e) = rw e f
    go (inr k) = w v k

-- it has fewer members, or the two are the same below n
pub grows : (n : ℕ) (s t : ℕ → Bool) → IsWithin n s t → (count n s < count n t) ⊎ ((count n s ≡ count n t) × IsWithin n t s)
unfolding count
grows zero s t w = inr (refl, λ v l. absurd (not-suc-le-zero l))
grows (suc n) s t w = go (s n) (t n) refl refl (w n (lt-suc_self n)) (grows n s t (λ v l. w v (le_step l)))
  where
    go : (a b : Bool) → s n ≡ a → t n ≡ b → (T a → T b) → (count n s < count n t) ⊎ ((count n s ≡ count n t) × IsWithin n t s)
        → (cond a (suc (count n s)) (count n s) < cond b (suc (count n t)) (count n t))
        ⊎ ((cond a (suc (count n s)) (count n s) ≡ cond b (suc (count n t)) (count n t)) × IsWithin (suc n) t s)
    go true true p q h (inl l) = inl (omega arith)
    go true true p q h (inr (e, k)) = inr (ap suc e, within_suc n t s k (λ z. rw p tt))
    go true false p q h o = absurd (h tt)
    go false true p q h (inl l) = inl (omega arith)
    go false true p q h (inr (e, k)) = inl (omega arith)
    go false false p q h (inl l) = inl l
    go false false p q h (inr (e, k)) = inr (e, within_suc n t s k (λ z. absurd (rw q at z)))

-- ---- ranks
-- a member's rank is below the ranks of larger ones
pub rank_lt : (k n : ℕ) (c : ℕ → Bool) → k < n → T (c k) → count k c < count n c
rank_lt k n c l t = let e = count_at k c t in let h = count_mono (suc k) n c l in omega arith

pub rank_inj : (k l : ℕ) (c : ℕ → Bool) → T (c k) → T (c l) → count k c ≡ count l c → k ≡ l
rank_inj k l c a b e = go (le_or_lt k l) (le_or_lt l k)
  where
    apart : (x y : ℕ) → x < y → x ≡ y → ⊥
    apart x y p q = omega arith

    go : (k ≤ l) ⊎ (l < k) → (l ≤ k) ⊎ (k < l) → k ≡ l
    go (inl p) (inl q) = omega arith
    go (inl p) (inr q) = absurd (apart (count k c) (count l c) (rank_lt k l c q a) e)
    go (inr p) o = absurd (apart (count l c) (count k c) (rank_lt l k c p b) (sym e))

pub rank_sur : (n : ℕ) (c : ℕ → Bool) (i : ℕ) → i < count n c → (v : ℕ) × (v < n) × T (c v) × (count v c ≡ i)
unfolding count
rank_sur zero c i h = absurd (not-suc-le-zero h)
rank_sur (suc n) c i h = go (dec (c n)) (rank_sur n c i)
  where
    go : T (c n) ⊎ (T (c n) → ⊥) → (i < count n c → (v : ℕ) × (v < n) × T (c v) × (count v c ≡ i)) → (v : ℕ) × (v < suc n) × T (c v) × (count v c ≡ i)
    go (inr f) ih = let (v, l, t, e) = ih (rw (count_not n c f) at h) in (v, le_step l, t, e)
    go (inl t) ih = by (eq-or-lt_of_le (le_of_suc-le-suc (rw (count_at n c t) at h)))
      where
        by : (i ≡ count n c) ⊎ (i < count n c) → (v : ℕ) × (v < suc n) × T (c v) × (count v c ≡ i)
        by (inl e) = (n, lt-suc_self n, t, sym e)
        by (inr l) = let (v, m, t, e) = ih l in (v, le_step m, t, e)

-- two sets without a common member
pub count_disjoint : (n : ℕ) (a b : ℕ → Bool) → ((k : ℕ) → k < n → T (a k) → T (b k) → ⊥) → count n a + count n b ≤ n
unfolding count
count_disjoint zero a b h = zero-le
count_disjoint (suc n) a b h = go (a n) (b n) (h n (lt-suc_self n)) (count_disjoint n a b (λ k l. h k (le_step l)))
  where
    go : (c d : Bool) → (T c → T d → ⊥) → count n a + count n b ≤ n → cond c (suc (count n a)) (count n a) + cond d (suc (count n b)) (count n b) ≤ suc n
    go true true f l = absurd (f tt tt)
    go true false f l = omega arith
    go false true f l = omega arith
    go false false f l = omega arith
