-- For validate.rt and pflow.rt: the questions of the verifier as sets of the nodes that are refused, from which the code takes the least.
use Prim.Native.Nat.{ℕ, ◌+◌, ◌≤◌, ◌<◌}
use mathlib.Core.Path.{◌≡◌, refl, sym, ap, ap₂, ◌∙◌}
use mathlib.Core.Bool.{Bool, true, false, cond, not, ◌&&◌, ◌||◌, beq}
use mathlib.Core.Option.{none, some}
use mathlib.Core.Logic.{◌⊎◌, inl, inr}
use native.Mathlib.Omega.{arith}
use native.Mathlib.Decide.{ℕ_discrete}
use lib.Dec.{T, eqb, leb, ltb, ltb→lt}
use borrow.Author.Tests.{le-leb, lt-leb, lt-ltb, le-ltb, eq-eqb, ne_eqb}
use Rattle.nodes.specs.Bit.{◌⊕◌}
use Rattle.nodes.specs.Row.{any_below, parity}
use Rattle.nodes.specs.NodeSet.{highest, capacity}
use Rattle.nodes.proofs.Logic.{and_l, and_r, and_in, and_none, and_all, or_false, beq_eq, lt_or_ge, le_or_lt}
use Rattle.nodes.proofs.Row.{any_in, any_out, parity_ext, parity_past, parity_none}
use Rattle.answers.specs.Answer.{Refusal}
use Rattle.verdicts.specs.Verdict.{ask, each}
use Rattle.calls.specs.Loaded.{within, first_in}
use Rattle.calls.proofs.Asking.{within_yes, each_first}

abbrev refused : ℕ → ℕ → ℕ → Refusal
refused q a b = record { number = q; a = a; b = b }

-- ---- the nodes from 0 up to v whose byte suffices: one more
pub from_none : (byte : ℕ → ℕ) (low u : ℕ) → false ≡ within 0 u && leb low (byte u)
from_none byte low u = rw (le-ltb u 0 (omega arith))

pub from_more : (byte : ℕ → ℕ) (low v u : ℕ) → (within v u && leb low (byte u)) || (leb low (byte v) && (eqb u v && leb v highest)) ≡ within (v + 1) u && leb low (byte u)
from_more byte low v u = by (ℕ_discrete u v)
  where
    turn : (a b : Bool) → b && a ≡ a && b
    turn true b = and_all b
    turn false b = and_none b

    by : Dec (u ≡ v) → (within v u && leb low (byte u)) || (leb low (byte v) && (eqb u v && leb v highest)) ≡ within (v + 1) u && leb low (byte u)
    by (yes e) = rw (e, le-ltb v v (omega arith), lt-ltb v (v + 1) (omega arith), eq-eqb v v refl) (turn (leb v highest) (leb low (byte v)))
    by (no d) = rw (ne_eqb u v d, and_none (leb low (byte v)), or_false (within v u && leb low (byte u))) (side (lt_or_ge u v))
      where
        side : (u < v) ⊎ (v ≤ u) → within v u && leb low (byte u) ≡ within (v + 1) u && leb low (byte u)
        side (inl l) = rw (lt-ltb u v l, lt-ltb u (v + 1) (omega arith))
        side (inr l) = rw (le-ltb u v l, le-ltb u (v + 1) (omega arith))

-- ---- sets cut at n
pub any_within : (n : ℕ) (s : ℕ → Bool) → ((k : ℕ) → capacity ≤ k → s k ≡ false) → any_below capacity (λ k. s k && within n k) ≡ any_below n s
any_within n s z = beq_eq (any_below capacity (λ k. s k && within n k)) (any_below n s) to back
  where
    to : T (any_below capacity (λ k. s k && within n k)) → T (any_below n s)
    to t =
        let (k, l, b) = any_out capacity (λ k. s k && within n k) t in
        any_in n s k (under k (and_l (ltb k n) (leb k highest) (and_r (s k) (within n k) b))) (and_l (s k) (within n k) b)
      where
        under : (k : ℕ) → T (ltb k n) → k < n
        under k t = ltb→lt k n t

    back : T (any_below n s) → T (any_below capacity (λ k. s k && within n k))
    back t = let (k, l, b) = any_out n s t in go k l b (lt_or_ge k capacity)
      where
        go : (k : ℕ) → k < n → T (s k) → (k < capacity) ⊎ (capacity ≤ k) → T (any_below capacity (λ k. s k && within n k))
        go k l b (inl c) = any_in capacity (λ k. s k && within n k) k c (and_in (s k) (within n k) b (rw (within_yes n k l c) tt))
        go k l b (inr c) = absurd (rw (z k c) at b)

pub parity-within : (n : ℕ) (e s : ℕ → Bool) → ((k : ℕ) → capacity ≤ k → s k ≡ false) → parity capacity (λ k. e k && (s k && within n k)) ≡ parity n (λ k. e k && s k)
parity-within n e s z = by (le_or_lt n capacity)
  where
    out : (k : ℕ) → n ≤ k → e k && (s k && within n k) ≡ false
    out k l = rw (le-ltb k n l, and_none (s k)) (and_none (e k))

    in_n : (k : ℕ) → k < n → (k < capacity) → e k && (s k && within n k) ≡ e k && s k
    in_n k l c = rw (within_yes n k l c, and_all (s k))

    by : (n ≤ capacity) ⊎ (capacity < n) → parity capacity (λ k. e k && (s k && within n k)) ≡ parity n (λ k. e k && s k)
    by (inl h) =
        parity_past n capacity (λ k. e k && (s k && within n k)) h out
        ∙ parity_ext n (λ k. e k && (s k && within n k)) (λ k. e k && s k) (λ k l. in_n k l (omega arith))
    by (inr h) =
        parity_ext capacity (λ k. e k && (s k && within n k)) (λ k. e k && s k) (λ k l. in_n k (omega arith) l)
        ∙ sym (parity_past capacity n (λ k. e k && s k) (omega arith) (λ k l. ap (λ (b : Bool). e k && b) (z k l) ∙ and_none (e k)))

-- no node of Odd is past what a row can have
pub odd_past : (n : ℕ) (edge : ℕ → ℕ → Bool) (s : ℕ → Bool) → ((u k : ℕ) → capacity ≤ k → edge u k ≡ false) → (v : ℕ) → capacity ≤ v → parity n (λ k. edge k v && s k) ≡ false
odd_past n edge s z v h = parity_none n (λ k. edge k v && s k) (λ k l. ap (λ (b : Bool). b && s k) (z k v h))

-- ---- 13
input_ask : (u k : ℕ) (s i e : Bool) → ask (not s || not i || e) 13 u 0 ≡ cond ((s && i) && not e) (some (refused 13 u 0)) none
unfolding ask
input_ask u k false i e = refl
input_ask u k true false e = refl
input_ask u k true true true = refl
input_ask u k true true false = refl

input_cut : (s i w e : Bool) → ((s && i) && w) && not e ≡ w && ((s && i) && not e)
input_cut false i true e = refl
input_cut false i false e = refl
input_cut true false true e = refl
input_cut true false false e = refl
input_cut true true true e = refl
input_cut true true false e = refl

pub input_first : (n u : ℕ) (s i d : ℕ → Bool) → ((k : ℕ) → capacity ≤ k → s k ≡ false) → d ≡ (λ k. ((s k && i k) && within n k) && not (eqb k u))
    → each n (λ k. ask (not (s k) || not (i k) || eqb k u) 13 u 0) ≡ first_in d (λ k. refused 13 u 0)
input_first n u s i d z f =
    each_first n (λ k. ask (not (s k) || not (i k) || eqb k u) 13 u 0) d (λ k. (s k && i k) && not (eqb k u)) (λ k. refused 13 u 0)
    (λ k. input_ask u k (s k) (i k) (eqb k u))
    (λ k l. ap (λ (b : Bool). (b && i k) && not (eqb k u)) (z k l))
    (λ k. ap (λ (g : ℕ → Bool). g k) f ∙ input_cut (s k) (i k) (within n k) (eqb k u))

-- ---- 14
pub domain_test : (a b o : Bool) → a ≡ not b → not (beq a o) ≡ not (beq b (not o))
domain_test a true true e = rw e
domain_test a true false e = rw e
domain_test a false true e = rw e
domain_test a false false e = rw e

-- ---- 17
measured_ask : (u : ℕ) (e m : Bool) → ask (not e || not m) 17 u 0 ≡ cond (e && m) (some (refused 17 u 0)) none
unfolding ask
measured_ask u true true = refl
measured_ask u true false = refl
measured_ask u false m = refl

bare_cut : (e w m : Bool) → (e && w) && not (w && not m) ≡ w && (e && m)
bare_cut true true true = refl
bare_cut true true false = refl
bare_cut true false m = refl
bare_cut false true m = refl
bare_cut false false m = refl

one_leb : (m : ℕ) → leb 1 m ≡ not (eqb m 0)
one_leb m = by (ℕ_discrete m 0)
  where
    by : Dec (m ≡ 0) → leb 1 m ≡ not (eqb m 0)
    by (yes e) = rw e
    by (no d) = rw (ne_eqb m 0 d, le-leb 1 m (omega arith))

pub measured_first : (n : ℕ) (entry d : ℕ → Bool) (measured : ℕ → ℕ) → ((k : ℕ) → capacity ≤ k → entry k ≡ false)
    → d ≡ (λ k. (entry k && within n k) && not (within n k && leb 1 (measured k)))
    → each n (λ u. ask (not (entry u) || not (eqb (measured u) 0)) 17 u 0) ≡ first_in d (λ u. refused 17 u 0)
measured_first n entry d measured z f =
    each_first n (λ u. ask (not (entry u) || not (eqb (measured u) 0)) 17 u 0) d (λ u. entry u && eqb (measured u) 0) (λ u. refused 17 u 0)
    (λ k. measured_ask k (entry k) (eqb (measured k) 0))
    (λ k l. ap (λ (b : Bool). b && eqb (measured k) 0) (z k l))
    (λ k. ap (λ (g : ℕ → Bool). g k) f ∙ ap (λ (b : Bool). (entry k && within n k) && not (within n k && b)) (one_leb (measured k)) ∙ bare_cut (entry k) (within n k) (eqb (measured k) 0))

-- ---- 18
not-ltb : (a b : ℕ) → leb a b ≡ not (ltb b a)
not-ltb a b = by (le_or_lt a b)
  where
    by : (a ≤ b) ⊎ (b < a) → leb a b ≡ not (ltb b a)
    by (inl l) = rw (le-leb a b l, le-ltb b a l)
    by (inr l) = rw (lt-leb a b l, lt-ltb b a l)

order_ask : (i k : ℕ) (s e l x : Bool) → ask (not s || e || l || x) 18 i k ≡ cond ((s && (not l && not e)) && not x) (some (refused 18 i k)) none
unfolding ask
order_ask i k false e l x = refl
order_ask i k true true true x = refl
order_ask i k true true false x = refl
order_ask i k true false true x = refl
order_ask i k true false false true = refl
order_ask i k true false false false = refl

pub order_first : (n i : ℕ) (layer : ℕ → ℕ) (s x d : ℕ → Bool) → ((k : ℕ) → capacity ≤ k → s k ≡ false)
    → ((k : ℕ) → d k ≡ within n k && ((s k && (leb (layer i) (layer k) && not (eqb k i))) && not (x k)))
    → each n (λ k. ask (not (s k) || eqb k i || ltb (layer k) (layer i) || x k) 18 i k) ≡ first_in d (λ k. refused 18 i k)
order_first n i layer s x d z f =
    each_first n (λ k. ask (not (s k) || eqb k i || ltb (layer k) (layer i) || x k) 18 i k) d
    (λ k. (s k && (leb (layer i) (layer k) && not (eqb k i))) && not (x k)) (λ k. refused 18 i k)
    (λ k. order_ask i k (s k) (eqb k i) (ltb (layer k) (layer i)) (x k)
    ∙ ap (λ (b : Bool). cond ((s k && (b && not (eqb k i))) && not (x k)) (some (refused 18 i k)) none) (sym (not-ltb (layer i) (layer k))))
    (λ k l. ap (λ (b : Bool). (b && (leb (layer i) (layer k) && not (eqb k i))) && not (x k)) (z k l))
    f

-- nobody is excused
plain_cut : (s w l e : Bool) → s && ((w && l) && e) ≡ w && ((s && (l && e)) && true)
plain_cut true true l e = sym (and_all (l && e))
plain_cut true false l e = refl
plain_cut false true l e = refl
plain_cut false false l e = refl

pub order_plain : (n i : ℕ) (layer : ℕ → ℕ) (s d : ℕ → Bool) → ((k : ℕ) → capacity ≤ k → s k ≡ false)
    → ((k : ℕ) → d k ≡ s k && ((within n k && leb (layer i) (layer k)) && not (eqb k i)))
    → each n (λ k. ask (not (s k) || eqb k i || ltb (layer k) (layer i) || false) 18 i k) ≡ first_in d (λ k. refused 18 i k)
order_plain n i layer s d z f =
    order_first n i layer s (λ k. false) d z (λ k. f k ∙ plain_cut (s k) (within n k) (leb (layer i) (layer k)) (not (eqb k i)))

-- x is excused
excused_cut : (s w l e x : Bool) → s && (((w && l) && e) && not (w && x)) ≡ w && ((s && (l && e)) && not x)
excused_cut true true l e x = refl
excused_cut true false l e x = refl
excused_cut false true l e x = refl
excused_cut false false l e x = refl

pub order_excused : (n i : ℕ) (layer : ℕ → ℕ) (s x d : ℕ → Bool) → ((k : ℕ) → capacity ≤ k → s k ≡ false)
    → ((k : ℕ) → d k ≡ s k && (((within n k && leb (layer i) (layer k)) && not (eqb k i)) && not (within n k && x k)))
    → each n (λ k. ask (not (s k) || eqb k i || ltb (layer k) (layer i) || x k) 18 i k) ≡ first_in d (λ k. refused 18 i k)
order_excused n i layer s x d z f = order_first n i layer s x d z (λ k. f k ∙ excused_cut (s k) (within n k) (leb (layer i) (layer k)) (not (eqb k i)) (x k))

-- ---- 19, the Y nodes
y_ask : (i : ℕ) (y t e l : Bool) → ask (not (y && t) || e || l) 19 i 0 ≡ cond ((y && t) && (not l && not e)) (some (refused 19 i 0)) none
unfolding ask
y_ask i false t e l = refl
y_ask i true false e l = refl
y_ask i true true true true = refl
y_ask i true true true false = refl
y_ask i true true false true = refl
y_ask i true true false false = refl

y_cut : (t w y l e : Bool) → (t && (w && y)) && ((w && l) && e) ≡ w && ((y && t) && (l && e))
y_cut true true true l e = refl
y_cut true true false l e = refl
y_cut true false y l e = refl
y_cut false true true l e = refl
y_cut false true false l e = refl
y_cut false false y l e = refl

pub y_first : (n i : ℕ) (layer : ℕ → ℕ) (s o y d : ℕ → Bool) → ((k : ℕ) → capacity ≤ k → s k ≡ false) → ((k : ℕ) → capacity ≤ k → o k ≡ false)
    → ((k : ℕ) → d k ≡ ((s k ⊕ o k) && (within n k && y k)) && ((within n k && leb (layer i) (layer k)) && not (eqb k i)))
    → each n (λ k. ask (not (y k && (s k ⊕ o k)) || eqb k i || ltb (layer k) (layer i)) 19 i 0) ≡ first_in d (λ k. refused 19 i 0)
y_first n i layer s o y d z w f =
    each_first n (λ k. ask (not (y k && (s k ⊕ o k)) || eqb k i || ltb (layer k) (layer i)) 19 i 0) d
    (λ k. (y k && (s k ⊕ o k)) && (leb (layer i) (layer k) && not (eqb k i))) (λ k. refused 19 i 0)
    (λ k. y_ask i (y k) (s k ⊕ o k) (eqb k i) (ltb (layer k) (layer i))
    ∙ ap (λ (b : Bool). cond ((y k && (s k ⊕ o k)) && (b && not (eqb k i))) (some (refused 19 i 0)) none) (sym (not-ltb (layer i) (layer k))))
    (λ k l. ap₂ (λ (a b : Bool). (y k && (a ⊕ b)) && (leb (layer i) (layer k) && not (eqb k i))) (z k l) (w k l)
    ∙ ap (λ (b : Bool). b && (leb (layer i) (layer k) && not (eqb k i))) (and_none (y k)))
    (λ k. f k ∙ y_cut (s k ⊕ o k) (within n k) (y k) (leb (layer i) (layer k)) (not (eqb k i)))

-- ---- own measurement
pub unequal : (s o : Bool) → not (beq s o) ≡ s ⊕ o
unequal true true = refl
unequal true false = refl
unequal false true = refl
unequal false false = refl
