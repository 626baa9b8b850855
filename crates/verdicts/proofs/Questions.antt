-- Questions in order, `ask`, `next` and `each` of specs/Verdict: none is answered no exactly where each is passed.
use Prim.Native.Nat.{ℕ, zero, suc, ◌+◌, ◌≤◌, ◌<◌, zero-le}
use mathlib.Core.Path.{◌≡◌, refl, sym}
use mathlib.Core.Bool.{Bool, true, false, cond, not, ◌&&◌, ◌||◌, beq, true≢false, false≢true}
use mathlib.Core.Option.{Option, none, some, none-ne-some}
use mathlib.Core.Logic.{◌⊎◌, inl, inr, ◌↔◌}
use native.Mathlib.Omega.{arith}
use native.Mathlib.Nat.{eq-or-lt_of_le}
use lib.Dec.{T}
use Rattle.nodes.specs.Bit.{◌⊕◌}
use Rattle.answers.specs.Answer.{Refusal}
use Rattle.verdicts.specs.Verdict.{ask, ◌next◌, each_from, each}

pub ask_in : (c : Bool) (q a b : ℕ) → T c → ask c q a b ≡ none
unfolding ask
ask_in true q a b t = refl
ask_in false q a b t = absurd t

pub ask_out : (c : Bool) (q a b : ℕ) → ask c q a b ≡ none → T c
unfolding ask
ask_out true q a b e = tt
ask_out false q a b e = absurd (none-ne-some _ (sym e))

pub next_in : (p q : Option Refusal) → p ≡ none → q ≡ none → (p next q) ≡ none
next_in p q e f = rw (e, f)

pub next_l : (p q : Option Refusal) → (p next q) ≡ none → p ≡ none
next_l none q e = refl
next_l (some r) q e = e

pub next_r : (p q : Option Refusal) → (p next q) ≡ none → q ≡ none
next_r none q e = e
next_r (some r) q e = absurd (none-ne-some _ (sym e))

from_in : (i k : ℕ) (f : ℕ → Option Refusal) → ((v : ℕ) → i ≤ v → v < i + k → f v ≡ none) → each_from i k f ≡ none
unfolding each_from
from_in i zero f h = refl
from_in i (suc k) f h = next_in (f i) (each_from (i + 1) k f) (h i (omega arith) (omega arith)) (from_in (i + 1) k f (λ v l m. h v (omega arith) (omega arith)))

from_out : (i k : ℕ) (f : ℕ → Option Refusal) → each_from i k f ≡ none → (v : ℕ) → i ≤ v → v < i + k → f v ≡ none
unfolding each_from
from_out i zero f e v l m = absurd (nothing i v l m)
  where
    nothing : (i v : ℕ) → i ≤ v → v < i + 0 → ⊥
    nothing i v l m = omega arith
from_out i (suc k) f e v l m = go (eq-or-lt_of_le l) (from_out (i + 1) k f)
  where
    go : (i ≡ v) ⊎ (i < v) → (each_from (i + 1) k f ≡ none → (v : ℕ) → i + 1 ≤ v → v < i + 1 + k → f v ≡ none) → f v ≡ none
    go (inl p) ih = rw (← p) (next_l (f i) (each_from (i + 1) k f) e)
    go (inr p) ih = ih (next_r (f i) (each_from (i + 1) k f) e) v (omega arith) (omega arith)

pub each_in : (n : ℕ) (f : ℕ → Option Refusal) → ((v : ℕ) → v < n → f v ≡ none) → each n f ≡ none
each_in n f h = from_in 0 n f (λ v l m. h v (omega arith))

pub each_out : (n : ℕ) (f : ℕ → Option Refusal) → each n f ≡ none → (v : ℕ) → v < n → f v ≡ none
each_out n f e v l = from_out 0 n f e v zero-le (omega arith)

-- a question that is asked only where c is false
pub unless_in : (c : Bool) (p : Option Refusal) → ((T c → ⊥) → p ≡ none) → cond c none p ≡ none
unless_in true p h = refl
unless_in false p h = h (λ t. t)

pub unless_out : (c : Bool) (p : Option Refusal) → cond c none p ≡ none → (T c → ⊥) → p ≡ none
unless_out true p e f = absurd (f tt)
unless_out false p e f = e

-- ---- what the tests of the questions say
-- a node of the set is the node itself, later or excused
pub late_out : (a b c d : Bool) → T (not a || b || c || d) → T a → T b ⊎ (T c ⊎ T d)
late_out true true c d t p = inl tt
late_out true false true d t p = inr (inl tt)
late_out true false false d t p = inr (inr t)
late_out false b c d t p = absurd p

pub late_in : (a b c d : Bool) → (T a → T b ⊎ (T c ⊎ T d)) → T (not a || b || c || d)
late_in false b c d f = tt
late_in true true c d f = tt
late_in true false true d f = tt
late_in true false false d f = by (f tt)
  where
    by : ⊥ ⊎ (⊥ ⊎ T d) → T d
    by (inl x) = absurd x
    by (inr (inl x)) = absurd x
    by (inr (inr x)) = x

-- a node that is asked about is in both or in neither, the node itself, or later
pub both_out : (p s o b c : Bool) → T (not (p && (s ⊕ o)) || b || c) → T p → T b ⊎ (T c ⊎ (o ≡ s))
both_out true true true b c t q = inr (inr refl)
both_out true false false b c t q = inr (inr refl)
both_out true true false true c t q = inl tt
both_out true true false false c t q = inr (inl t)
both_out true false true true c t q = inl tt
both_out true false true false c t q = inr (inl t)
both_out false s o b c t q = absurd q

pub both_in : (p s o b c : Bool) → (T p → T b ⊎ (T c ⊎ (o ≡ s))) → T (not (p && (s ⊕ o)) || b || c)
both_in false s o b c f = tt
both_in true true true b c f = tt
both_in true false false b c f = tt
both_in true true false true c f = tt
both_in true false true true c f = tt
both_in true true false false c f = by (f tt)
  where
    by : ⊥ ⊎ (T c ⊎ (false ≡ true)) → T c
    by (inl x) = absurd x
    by (inr (inl x)) = x
    by (inr (inr e)) = absurd (false≢true e)
both_in true false true false c f = by (f tt)
  where
    by : ⊥ ⊎ (T c ⊎ (true ≡ false)) → T c
    by (inl x) = absurd x
    by (inr (inl x)) = x
    by (inr (inr e)) = absurd (true≢false e)

-- two tests agree
pub beq_out : (a b : Bool) → T (beq a (not b)) → T a ↔ (T b → ⊥)
beq_out true true t = absurd t
beq_out true false t = ((λ x y. y), λ x. tt)
beq_out false true t = ((λ x y. x), λ x. x tt)
beq_out false false t = absurd t

pub beq_in : (a b : Bool) → (T a → T b → ⊥) → ((T b → ⊥) → T a) → T (beq a (not b))
beq_in true true f g = f tt tt
beq_in true false f g = tt
beq_in false true f g = tt
beq_in false false f g = g (λ x. x)

-- a question that is asked only where c is true
pub when_in : (c : Bool) (p : Option Refusal) → (T c → p ≡ none) → cond c p none ≡ none
when_in true p h = h tt
when_in false p h = refl

pub when_out : (c : Bool) (p : Option Refusal) → cond c p none ≡ none → T c → p ≡ none
when_out true p e t = e
when_out false p e t = absurd t
