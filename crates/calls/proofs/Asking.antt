-- For the verifier's loops: questions asked of the nodes in order, by a loop or of the least member of a set.
use Prim.Native.Nat.{ℕ, zero, suc, ◌+◌, ◌-◌, ◌≤◌, ◌<◌, zero-le}
use mathlib.Core.Path.{◌≡◌, refl, sym, ap, ◌∙◌}
use mathlib.Core.Bool.{Bool, true, false, cond, ◌&&◌}
use mathlib.Core.Option.{Option, none, some}
use mathlib.Core.Logic.{◌⊎◌, inl, inr}
use native.Mathlib.Omega.{arith}
use native.Mathlib.Nat.{le_refl, eq-or-lt_of_le}
use lib.Dec.{T, leb, ltb, ltb→lt}
use borrow.Author.Tests.{le-leb, lt-ltb}
use Rattle.nodes.specs.Row.{any_below, lowest}
use Rattle.nodes.specs.NodeSet.{highest, capacity}
use Rattle.nodes.proofs.Logic.{is_true, is_false, from_true, from_false, and_l, and_r, lt_or_ge}
use Rattle.nodes.proofs.Row.{any_in}
use Rattle.nodes.proofs.Members.{lowest_none, lowest_member}
use Rattle.answers.specs.Answer.{Refusal}
use Rattle.verdicts.specs.Verdict.{ask, ◌next◌, each_from, each}
use Rattle.calls.specs.Loaded.{within, first_in}
use Rattle.verdicts.proofs.Questions.{each_in}

-- ---- a loop: what is asked of all nodes is what is asked of those left
pub each_start : (n : ℕ) (f : ℕ → Option Refusal) → each n f ≡ each_from 0 (n - 0) f
each_start n f = let e : n ≡ n - 0 = omega arith in ap (λ (m : ℕ). each_from 0 m f) e

module _ (n k : ℕ) (f : ℕ → Option Refusal) where
  pub each_end : n ≤ k → each_from k (n - k) f ≡ none
  unfolding each_from
  each_end h = let e : n - k ≡ 0 = omega arith in rw e

  pub each_step : k < n → each_from k (n - k) f ≡ (f k next each_from (k + 1) (n - (k + 1)) f)
  unfolding each_from
  each_step h = let e : n - k ≡ suc (n - (k + 1)) = omega arith in ap (λ (m : ℕ). each_from k m f) e

  pub each_no : k < n → (r : Refusal) → f k ≡ some r → each_from k (n - k) f ≡ some r
  each_no h r e = each_step h ∙ rw e

  pub each_yes : k < n → f k ≡ none → each_from k (n - k) f ≡ each_from (k + 1) (n - (k + 1)) f
  each_yes h e = each_step h ∙ rw e

-- ---- the same questions
from_ext : (i m : ℕ) (f g : ℕ → Option Refusal) → ((k : ℕ) → k < i + m → f k ≡ g k) → each_from i m f ≡ each_from i m g
unfolding each_from
from_ext i zero f g h = refl
from_ext i (suc m) f g h = rw (h i (omega arith), from_ext (i + 1) m f g (λ k l. h k (omega arith)))

pub each_ext : (n : ℕ) (f g : ℕ → Option Refusal) → ((k : ℕ) → k < n → f k ≡ g k) → each n f ≡ each n g
each_ext n f g h = from_ext 0 n f g (λ k l. h k (omega arith))

-- ---- the first node that is refused
from_at : (i m k : ℕ) (f : ℕ → Option Refusal) (r : Refusal) → i ≤ k → k < i + m → ((j : ℕ) → i ≤ j → j < k → f j ≡ none) → f k ≡ some r → each_from i m f ≡ some r
unfolding each_from
from_at i zero k f r a b h e = absurd (nothing i k a b)
  where
    nothing : (i k : ℕ) → i ≤ k → k < i + 0 → ⊥
    nothing i k a b = omega arith
from_at i (suc m) k f r a b h e = go (eq-or-lt_of_le a) (from_at (i + 1) m k f r)
  where
    go : (i ≡ k) ⊎ (i < k) → (i + 1 ≤ k → k < i + 1 + m → ((j : ℕ) → i + 1 ≤ j → j < k → f j ≡ none) → f k ≡ some r → each_from (i + 1) m f ≡ some r)
        → (f i next each_from (i + 1) m f) ≡ some r
    go (inl p) ih = rw (ap f p ∙ e)
    go (inr l) ih = rw (h i (le_refl i) l) (ih (omega arith) (omega arith) (λ j x y. h j (omega arith) y) e)

pub each_at : (n k : ℕ) (f : ℕ → Option Refusal) (r : Refusal) → k < n → ((j : ℕ) → j < k → f j ≡ none) → f k ≡ some r → each n f ≡ some r
each_at n k f r l h e = from_at 0 n k f r zero-le (omega arith) (λ j x y. h j y) e

pub within_yes : (n k : ℕ) → k < n → k < capacity → within n k ≡ true
within_yes n k l m = rw (lt-ltb k n l, le-leb k highest (omega arith))

-- p says which nodes are refused; none is past what a set can have, and d is the set of those below n
module _ (n : ℕ) (g : ℕ → Option Refusal) (d p : ℕ → Bool) (r : ℕ → Refusal)
    (e : (k : ℕ) → g k ≡ cond (p k) (some (r k)) none) (z : (k : ℕ) → capacity ≤ k → p k ≡ false) (f : (k : ℕ) → d k ≡ within n k && p k)
  where
    quiet : (k : ℕ) → k < n → d k ≡ false → g k ≡ none
    quiet k l h = e k ∙ ap (λ (b : Bool). cond b (some (r k)) none) (by (lt_or_ge k capacity))
      where
        by : (k < capacity) ⊎ (capacity ≤ k) → p k ≡ false
        by (inl c) = sym (f k ∙ ap (λ (b : Bool). b && p k) (within_yes n k l c)) ∙ h
        by (inr c) = z k c

    pub each_first : each n g ≡ first_in d r
    unfolding first_in
    each_first = by (any_below capacity d) refl
      where
        by : (b : Bool) → any_below capacity d ≡ b → each n g ≡ cond b (some (r (lowest capacity d))) none
        by true t =
            let low = lowest capacity d in
            let here : T (within n low && p low) = rw f at (lowest_member capacity d (from_true (any_below capacity d) t)) in
            let l : low < n = ltb→lt low n (and_l (ltb low n) (leb low highest) (and_l (within n low) (p low) here)) in
            each_at n low g (r low) l (λ j m. quiet j (omega arith) (lowest_none capacity d j m))
            (e low ∙ ap (λ (b : Bool). cond b (some (r low)) none) (is_true (p low) (and_r (within n low) (p low) here)))
        by false t = each_in n g (λ k l. quiet k l (out k (lt_or_ge k capacity)))
          where
            out : (k : ℕ) → (k < capacity) ⊎ (capacity ≤ k) → d k ≡ false
            out k (inl c) = is_false (d k) (λ x. from_false (any_below capacity d) t (any_in capacity d k c x))
            out k (inr c) = f k ∙ ap (λ (b : Bool). within n k && b) (z k c) ∙ none_in (within n k)
              where
                none_in : (b : Bool) → b && false ≡ false
                none_in true = refl
                none_in false = refl

-- what the code has of it
module _ (d : ℕ → Bool) (r : ℕ → Refusal) where
  pub first_none : any_below capacity d ≡ false → none ≡ first_in d r
  unfolding first_in
  first_none h = rw h

  pub first_some : any_below capacity d ≡ true → some (r (lowest capacity d)) ≡ first_in d r
  unfolding first_in
  first_some h = rw h

-- ---- one question, and one after another
pub ask_yes : (b : Bool) (q a k : ℕ) → b ≡ true → ask b q a k ≡ none
unfolding ask
ask_yes b q a k e = rw e

pub ask_no : (b : Bool) (q a k : ℕ) → b ≡ false → ask b q a k ≡ some (record { number = q; a = a; b = k })
unfolding ask
ask_no b q a k e = rw e

pub next_stops : (p q : Option Refusal) (r : Refusal) → p ≡ some r → (p next q) ≡ some r
next_stops p q r e = rw e

pub next_goes : (p q : Option Refusal) → p ≡ none → (p next q) ≡ q
next_goes p q e = rw e
