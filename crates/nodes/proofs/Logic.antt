-- Tests as facts, and the algebra of the sum mod 2. Serves every file of laws.
use Prim.Native.Nat.{ℕ, ◌≤◌, ◌<◌}
use mathlib.Core.Path.{◌≡◌, refl, sym, ap, ◌∙◌}
use mathlib.Core.Bool.{Bool, true, false, cond, not, ◌&&◌, ◌||◌, false≢true}
use mathlib.Core.Logic.{◌⊎◌, inl, inr, ◌≢◌}
use lib.Dec.{T, eqb, leb, eqb→eq, eqb_refl, leb→le, nleb→lt}
use Rattle.nodes.specs.Bit.{◌⊕◌}

pub is_true : (b : Bool) → T b → b ≡ true
is_true true t = refl
is_true false t = absurd t

pub is_false : (b : Bool) → (T b → ⊥) → b ≡ false
is_false true f = absurd (f tt)
is_false false f = refl

pub from_true : (b : Bool) → b ≡ true → T b
from_true b e = rw e tt

pub from_false : (b : Bool) → b ≡ false → T b → ⊥
from_false b e t = rw e at t

-- a test does not come out both ways
pub both_ways : (b : Bool) → b ≡ true → b ≡ false → ⊥
both_ways b p q = false≢true (sym q ∙ p)

pub dec : (b : Bool) → T b ⊎ (T b → ⊥)
dec true = inl tt
dec false = inr (λ t. t)

pub and_l : (a b : Bool) → T (a && b) → T a
and_l true b t = tt
and_l false b t = t

pub and_r : (a b : Bool) → T (a && b) → T b
and_r true b t = t
and_r false b t = absurd t

pub and_in : (a b : Bool) → T a → T b → T (a && b)
and_in true b s t = t
and_in false b s t = s

pub and_out : (a b : Bool) → a && b ≡ true → (a ≡ true) × (b ≡ true)
and_out true b e = (refl, e)
and_out false b e = absurd (false≢true e)

pub or_l : (a b : Bool) → T a → T (a || b)
or_l true b t = tt
or_l false b t = absurd t

pub or_r : (a b : Bool) → T b → T (a || b)
or_r true b t = tt
or_r false b t = t

pub or_out : (a b : Bool) → T (a || b) → T a ⊎ T b
or_out true b t = inl tt
or_out false b t = inr t

pub not_in : (b : Bool) → (T b → ⊥) → T (not b)
not_in true f = f tt
not_in false f = tt

pub not_out : (b : Bool) → T (not b) → T b → ⊥
not_out true f t = f
not_out false f t = t

-- r answers that a does not hold, and the code goes on where r is not so
pub unless_in : (r a : Bool) → r ≡ not a → not r ≡ true → T a
unless_in r true e f = tt
unless_in r false e f = absurd (false≢true (ap not (sym e) ∙ f))

pub unless_out : (r a : Bool) → r ≡ not a → not r ≡ false → T a → ⊥
unless_out r true e f t = false≢true (sym f ∙ ap not e)
unless_out r false e f t = t

pub eqb_no : (m n : ℕ) → m ≢ n → eqb m n ≡ false
eqb_no m n d = is_false (eqb m n) (λ t. d (eqb→eq m n t))

pub eqb_yes : (n : ℕ) → eqb n n ≡ true
eqb_yes n = is_true (eqb n n) (eqb_refl n)

pub eqb_comm : (m n : ℕ) → eqb m n ≡ eqb n m
eqb_comm m n = go (dec (eqb m n))
  where
    go : T (eqb m n) ⊎ (T (eqb m n) → ⊥) → eqb m n ≡ eqb n m
    go (inl t) = rw (eqb→eq m n t)
    go (inr f) = is_false (eqb m n) f ∙ sym (eqb_no n m (λ e. f (rw e (eqb_refl m))))

-- two tests that hold together are the same
pub beq_eq : (a b : Bool) → (T a → T b) → (T b → T a) → a ≡ b
beq_eq true true f g = refl
beq_eq true false f g = absurd (f tt)
beq_eq false true f g = absurd (g tt)
beq_eq false false f g = refl

pub cond_t : {A : Type 0} (c : Bool) (a b : A) → T c → cond c a b ≡ a
cond_t true a b t = refl
cond_t false a b t = absurd t

pub cond_f : {A : Type 0} (c : Bool) (a b : A) → (T c → ⊥) → cond c a b ≡ b
cond_f true a b f = absurd (f tt)
cond_f false a b f = refl

pub le_or_lt : (k n : ℕ) → (k ≤ n) ⊎ (n < k)
le_or_lt k n = go (leb k n) (leb→le k n) (nleb→lt k n)
  where
    go : (c : Bool) → (T c → k ≤ n) → (T (not c) → n < k) → (k ≤ n) ⊎ (n < k)
    go true f g = inl (f tt)
    go false f g = inr (g tt)

pub lt_or_ge : (k n : ℕ) → (k < n) ⊎ (n ≤ k)
lt_or_ge k n = go (le_or_lt n k)
  where
    go : (n ≤ k) ⊎ (k < n) → (k < n) ⊎ (n ≤ k)
    go (inl h) = inr h
    go (inr h) = inl h

pub and_none : (a : Bool) → a && false ≡ false
and_none true = refl
and_none false = refl

pub and_all : (a : Bool) → a && true ≡ a
and_all true = refl
and_all false = refl

pub and_self : (a : Bool) → a && a ≡ a
and_self true = refl
and_self false = refl

pub and_comm : (a b : Bool) → a && b ≡ b && a
and_comm true b = sym (and_all b)
and_comm false b = sym (and_none b)

pub and_assoc : (a b c : Bool) → (a && b) && c ≡ a && (b && c)
and_assoc true b c = refl
and_assoc false b c = refl

pub and_turn : (a b c : Bool) → a && (b && c) ≡ b && (a && c)
and_turn a b c = sym (and_assoc a b c) ∙ ap (λ (d : Bool). d && c) (and_comm a b) ∙ and_assoc b a c

pub or_false : (a : Bool) → a || false ≡ a
or_false true = refl
or_false false = refl

pub or_all : (a : Bool) → a || true ≡ true
or_all true = refl
or_all false = refl

pub or_comm : (a b : Bool) → a || b ≡ b || a
or_comm true b = sym (or_all b)
or_comm false b = sym (or_false b)

pub or_assoc : (a b c : Bool) → (a || b) || c ≡ a || (b || c)
or_assoc true b c = refl
or_assoc false b c = refl

pub or_turn : (a b c : Bool) → a || (b || c) ≡ b || (a || c)
or_turn a b c = sym (or_assoc a b c) ∙ ap (λ (d : Bool). d || c) (or_comm a b) ∙ or_assoc b a c

pub not-not : (a : Bool) → not (not a) ≡ a
not-not true = refl
not-not false = refl

pub not-or : (a b : Bool) → not (a || b) ≡ not a && not b
not-or true b = refl
not-or false b = refl

pub ⊕_none : (a : Bool) → a ⊕ false ≡ a
⊕_none true = refl
⊕_none false = refl

pub ⊕_all : (a : Bool) → a ⊕ true ≡ not a
⊕_all true = refl
⊕_all false = refl

pub ⊕_self : (a : Bool) → a ⊕ a ≡ false
⊕_self true = refl
⊕_self false = refl

pub ⊕_comm : (a b : Bool) → a ⊕ b ≡ b ⊕ a
⊕_comm true b = sym (⊕_all b)
⊕_comm false b = sym (⊕_none b)

not-⊕ : (a b : Bool) → not a ⊕ b ≡ not (a ⊕ b)
not-⊕ true b = sym (not-not b)
not-⊕ false b = refl

pub ⊕_assoc : (a b c : Bool) → (a ⊕ b) ⊕ c ≡ a ⊕ (b ⊕ c)
⊕_assoc true b c = not-⊕ b c
⊕_assoc false b c = refl

pub ⊕_swap : (a b c d : Bool) → a ⊕ b ⊕ (c ⊕ d) ≡ a ⊕ c ⊕ (b ⊕ d)
⊕_swap a b c d = ⊕_assoc a b (c ⊕ d) ∙ ap (λ (x : Bool). a ⊕ x) (sym (⊕_assoc b c d) ∙ ap (λ (x : Bool). x ⊕ d) (⊕_comm b c) ∙ ⊕_assoc c b d) ∙ sym (⊕_assoc a c (b ⊕ d))

-- a sum that is 0 has equal terms
pub ⊕_eq : (a b : Bool) → a ⊕ b ≡ false → a ≡ b
⊕_eq true true e = refl
⊕_eq true false e = e
⊕_eq false b e = sym e

pub &&-⊕ : (a b c : Bool) → a && (b ⊕ c) ≡ a && b ⊕ a && c
&&-⊕ true b c = refl
&&-⊕ false b c = refl

pub ⊕-&& : (a b c : Bool) → (a ⊕ b) && c ≡ a && c ⊕ b && c
⊕-&& a b c = and_comm (a ⊕ b) c ∙ &&-⊕ c a b ∙ ap (λ (x : Bool). x ⊕ c && b) (and_comm c a) ∙ ap (λ (x : Bool). a && c ⊕ x) (and_comm c b)
