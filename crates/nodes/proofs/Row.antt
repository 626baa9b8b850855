-- Rows of bits of any width: sums mod 2, and tests over the numbers below a bound.
use Prim.Native.Nat.{ℕ, zero, suc, ◌+◌, ◌≤◌, ◌<◌}
use mathlib.Core.Path.{◌≡◌, refl, sym, ap, ap₂, ◌∙◌}
use mathlib.Core.Bool.{Bool, true, false, ◌&&◌, ◌||◌}
use mathlib.Core.Logic.{◌⊎◌, inl, inr}
use native.Mathlib.Omega.{arith}
use native.Mathlib.Nat.{le_of_suc-le-suc, not-suc-le-zero, le_step, lt-suc_self, eq-or-lt_of_le, add-zero, add-suc}
use lib.Dec.{T, eqb, ltb, ltb→lt, lt→ltb}
use Rattle.nodes.specs.Bit.{◌⊕◌}
use Rattle.nodes.specs.Row.{parity, dot, any_below, all_below}
use Rattle.nodes.proofs.Logic.{is_true, is_false, lt_or_ge, and_l, and_r, and_in, or_l, or_r, or_out, eqb_no, eqb_yes, and_none, and_all, and_comm, and_turn, or_false, or_turn, ⊕_none, ⊕_swap, &&-⊕, ⊕-&&}

-- equal below n: the parity is equal
pub parity_ext : (n : ℕ) (f g : ℕ → Bool) → ((k : ℕ) → k < n → f k ≡ g k) → parity n f ≡ parity n g
unfolding parity
parity_ext zero f g h = refl
parity_ext (suc n) f g h = rw (h n (lt-suc_self n), parity_ext n f g (λ k l. h k (le_step l)))

pub parity-⊕ : (n : ℕ) (f g : ℕ → Bool) → parity n (λ k. f k ⊕ g k) ≡ parity n f ⊕ parity n g
unfolding parity
parity-⊕ zero f g = refl
parity-⊕ (suc n) f g = rw (parity-⊕ n f g) (⊕_swap (f n) (g n) (parity n f) (parity n g))

pub parity_none : (n : ℕ) (f : ℕ → Bool) → ((k : ℕ) → k < n → f k ≡ false) → parity n f ≡ false
unfolding parity
parity_none zero f h = refl
parity_none (suc n) f h = rw (h n (lt-suc_self n)) (parity_none n f (λ k l. h k (le_step l)))

-- one place alone
pub parity_one : (n i : ℕ) (f : ℕ → Bool) → i < n → parity n (λ k. f k && eqb k i) ≡ f i
unfolding parity
parity_one zero i f h = absurd (not-suc-le-zero h)
parity_one (suc n) i f h = go (eq-or-lt_of_le (le_of_suc-le-suc h)) (parity_one n i f)
  where
    go : (i ≡ n) ⊎ (i < n) → (i < n → parity n (λ k. f k && eqb k i) ≡ f i) → (f n && eqb n i) ⊕ parity n (λ k. f k && eqb k i) ≡ f i
    go (inl e) ih =
        rw (e, eqb_yes n, parity_none n (λ k. f k && eqb k n) (λ k l. rw (eqb_no k n (omega arith)) (and_none (f k))), and_all (f n))
        (⊕_none (f n))
    go (inr l) ih = rw (eqb_no n i (omega arith), and_none (f n)) (ih l)

-- a factor that is the same at every place
pub parity-and : (n : ℕ) (b : Bool) (f : ℕ → Bool) → parity n (λ k. b && f k) ≡ b && parity n f
parity-and n true f = refl
parity-and n false f = parity_none n (λ k. false) (λ k l. refl)

-- a sum of sums, in either order
pub parity_swap : (m n : ℕ) (f : ℕ → ℕ → Bool) → parity m (λ i. parity n (f i)) ≡ parity n (λ k. parity m (λ i. f i k))
unfolding parity
parity_swap zero n f = sym (parity_none n (λ k. false) (λ k l. refl))
parity_swap (suc m) n f = ap (λ (b : Bool). parity n (f m) ⊕ b) (parity_swap m n f) ∙ sym (parity-⊕ n (f m) (λ k. parity m (λ i. f i k)))

pub ltb_no : (k n : ℕ) → n ≤ k → ltb k n ≡ false
ltb_no k n h = is_false (ltb k n) (λ t. let l : k < n = ltb→lt k n t in bad h l)
  where
    bad : n ≤ k → k < n → ⊥
    bad a b = omega arith

pub ltb_yes : (k n : ℕ) → k < n → ltb k n ≡ true
ltb_yes k n h = is_true (ltb k n) (lt→ltb k n h)

-- what is 0 from j on has its sum over the first j places
pub parity_prefix : (w j : ℕ) (f : ℕ → Bool) → j ≤ w → parity w (λ k. ltb k j && f k) ≡ parity j f
unfolding parity
parity_prefix zero j f h = rw (nothing j h)
  where
    nothing : (j : ℕ) → j ≤ 0 → j ≡ 0
    nothing j h = omega arith
parity_prefix (suc w) j f h = go (eq-or-lt_of_le h) (parity_prefix w j f)
  where
    go : (j ≡ suc w) ⊎ (j < suc w) → (j ≤ w → parity w (λ k. ltb k j && f k) ≡ parity j f) → (ltb w j && f w) ⊕ parity w (λ k. ltb k j && f k) ≡ parity j f
    go (inl e) ih = parity_ext (suc w) (λ k. ltb k j && f k) f (λ k l. ap (λ (b : Bool). b && f k) (ltb_yes k j (omega arith))) ∙ ap (λ (x : ℕ). parity x f) (sym e)
    go (inr l) ih = rw (ltb_no w j (omega arith)) (ih (omega arith))

pub parity_past : (n w : ℕ) (f : ℕ → Bool) → n ≤ w → ((k : ℕ) → n ≤ k → f k ≡ false) → parity w f ≡ parity n f
parity_past n w f h z = parity_ext w f (λ k. ltb k n && f k) (λ k l. go k (lt_or_ge k n)) ∙ parity_prefix w n f h
  where
    go : (k : ℕ) → (k < n) ⊎ (n ≤ k) → f k ≡ ltb k n && f k
    go k (inl l) = rw (ltb_yes k n l)
    go k (inr l) = rw (ltb_no k n l) (z k l)

-- ---- products
-- linear in x
pub dot-⊕ : (n : ℕ) (a x y : ℕ → Bool) → dot n a (λ k. x k ⊕ y k) ≡ dot n a x ⊕ dot n a y
dot-⊕ n a x y = parity_ext n (λ k. a k && (x k ⊕ y k)) (λ k. a k && x k ⊕ a k && y k) (λ k l. &&-⊕ (a k) (x k) (y k)) ∙ parity-⊕ n (λ k. a k && x k) (λ k. a k && y k)

-- linear in the row
pub dot_rows : (n : ℕ) (a b x : ℕ → Bool) → dot n (λ k. a k ⊕ b k) x ≡ dot n a x ⊕ dot n b x
dot_rows n a b x = parity_ext n (λ k. (a k ⊕ b k) && x k) (λ k. a k && x k ⊕ b k && x k) (λ k l. ⊕-&& (a k) (b k) (x k)) ∙ parity-⊕ n (λ k. a k && x k) (λ k. b k && x k)

pub dot_comm : (n : ℕ) (a x : ℕ → Bool) → dot n a x ≡ dot n x a
dot_comm n a x = parity_ext n (λ k. a k && x k) (λ k. x k && a k) (λ k l. and_comm (a k) (x k))

pub dot_ext : (n : ℕ) (a b x y : ℕ → Bool) → ((k : ℕ) → k < n → a k ≡ b k) → ((k : ℕ) → k < n → x k ≡ y k) → dot n a x ≡ dot n b y
dot_ext n a b x y p q = parity_ext n (λ k. a k && x k) (λ k. b k && y k) (λ k l. ap₂ ◌&&◌ (p k l) (q k l))

pub dot_prefix : (w j : ℕ) (a x : ℕ → Bool) → j ≤ w → dot w a (λ k. ltb k j && x k) ≡ dot j a x
dot_prefix w j a x h =
    parity_ext w (λ k. a k && (ltb k j && x k)) (λ k. ltb k j && (a k && x k)) (λ k l. and_turn (a k) (ltb k j) (x k))
    ∙ parity_prefix w j (λ k. a k && x k) h

-- one member alone
pub dot_one : (n i : ℕ) (a : ℕ → Bool) → i < n → dot n a (λ k. eqb k i) ≡ a i
dot_one n i a h = parity_one n i a h

-- ---- some, and all
pub any_in : (n : ℕ) (s : ℕ → Bool) (k : ℕ) → k < n → T (s k) → T (any_below n s)
unfolding any_below
any_in zero s k h t = absurd (not-suc-le-zero h)
any_in (suc n) s k h t = go (eq-or-lt_of_le (le_of_suc-le-suc h)) (any_in n s k)
  where
    go : (k ≡ n) ⊎ (k < n) → (k < n → T (s k) → T (any_below n s)) → T (s n || any_below n s)
    go (inl e) ih = or_l (s n) (any_below n s) (rw e at t)
    go (inr l) ih = or_r (s n) (any_below n s) (ih l t)

pub any_out : (n : ℕ) (s : ℕ → Bool) → T (any_below n s) → (k : ℕ) × (k < n) × T (s k)
unfolding any_below
any_out zero s t = absurd t
any_out (suc n) s t = go (or_out (s n) (any_below n s) t) (any_out n s)
  where
    go : T (s n) ⊎ T (any_below n s) → (T (any_below n s) → (k : ℕ) × (k < n) × T (s k)) → (k : ℕ) × (k < suc n) × T (s k)
    go (inl a) ih = (n, lt-suc_self n, a)
    go (inr a) ih = let (k, l, b) = ih a in (k, le_step l, b)

pub any_none : (n : ℕ) (s : ℕ → Bool) → ((k : ℕ) → k < n → T (s k) → ⊥) → any_below n s ≡ false
any_none n s h = is_false (any_below n s) (λ t. let (k, l, b) = any_out n s t in h k l b)

pub any_ext : (n : ℕ) (s t : ℕ → Bool) → ((k : ℕ) → k < n → s k ≡ t k) → any_below n s ≡ any_below n t
unfolding any_below
any_ext zero s t h = refl
any_ext (suc n) s t h = ap₂ ◌||◌ (h n (lt-suc_self n)) (any_ext n s t (λ k l. h k (le_step l)))

pub all_in : (n : ℕ) (s : ℕ → Bool) → ((k : ℕ) → k < n → T (s k)) → T (all_below n s)
unfolding all_below
all_in zero s h = tt
all_in (suc n) s h = and_in (s n) (all_below n s) (h n (lt-suc_self n)) (all_in n s (λ k l. h k (le_step l)))

pub all_out : (n : ℕ) (s : ℕ → Bool) → T (all_below n s) → (k : ℕ) → k < n → T (s k)
unfolding all_below
all_out zero s t k h = absurd (not-suc-le-zero h)
all_out (suc n) s t k h = go (eq-or-lt_of_le (le_of_suc-le-suc h)) (all_out n s)
  where
    go : (k ≡ n) ⊎ (k < n) → (T (all_below n s) → (k : ℕ) → k < n → T (s k)) → T (s k)
    go (inl e) ih = rw e (and_l (s n) (all_below n s) t)
    go (inr l) ih = ih (and_r (s n) (all_below n s) t) k l

pub all_ext : (n : ℕ) (s t : ℕ → Bool) → ((k : ℕ) → k < n → s k ≡ t k) → all_below n s ≡ all_below n t
unfolding all_below
all_ext zero s t h = refl
all_ext (suc n) s t h = ap₂ ◌&&◌ (h n (lt-suc_self n)) (all_ext n s t (λ k l. h k (le_step l)))

-- the first m, and then n more
pub any_split : (m n : ℕ) (s : ℕ → Bool) → any_below (m + n) s ≡ any_below m s || any_below n (λ k. s (m + k))
unfolding any_below
any_split m zero s = ap (λ (x : ℕ). any_below x s) (add-zero m) ∙ sym (or_false (any_below m s))
any_split m (suc n) s = ap (λ (x : ℕ). any_below x s) (add-suc m n) ∙ ap (λ (b : Bool). s (m + n) || b) (any_split m n s) ∙ or_turn (s (m + n)) (any_below m s) (any_below n (λ k. s (m + k)))

pub all_split : (m n : ℕ) (s : ℕ → Bool) → all_below (m + n) s ≡ all_below m s && all_below n (λ k. s (m + k))
unfolding all_below
all_split m zero s = ap (λ (x : ℕ). all_below x s) (add-zero m) ∙ sym (and_all (all_below m s))
all_split m (suc n) s = ap (λ (x : ℕ). all_below x s) (add-suc m n) ∙ ap (λ (b : Bool). s (m + n) && b) (all_split m n s) ∙ and_turn (s (m + n)) (all_below m s) (all_below n (λ k. s (m + k)))
