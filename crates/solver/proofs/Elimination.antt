-- What adding rows to each other keeps, and the state of an elimination after some of the columns. Serves Steps.
use Prim.Native.Nat.{ℕ, ◌+◌, ◌≤◌, ◌<◌}
use mathlib.Core.Path.{◌≡◌, refl, sym, ap, ◌∙◌}
use mathlib.Core.Bool.{Bool, true, false, cond, not, ◌&&◌}
use mathlib.Core.Option.{Option, none, some}
use mathlib.Core.Logic.{◌⊎◌, inl, inr, ◌≢◌}
use native.Mathlib.Omega.{arith}
use native.Mathlib.Nat.{not-suc-le-zero, le_refl}
use lib.Dec.{T, eqb, eqb→eq, ltb}
use Rattle.nodes.specs.Bit.{◌⊕◌}
use Rattle.nodes.specs.Row.{dot, any_below}
use Rattle.nodes.specs.Options.{is_some}
use Rattle.solver.specs.System.{Solves, IsDependent, IsBasicSolution, solve, pivot}
use Rattle.solver.specs.Reduced.{lead, IsReduced}
use Rattle.nodes.proofs.Logic.{is_false, both_ways, dec, eqb_no, eqb_yes, lt_or_ge, and_none, and_all, ⊕_none, ⊕_self, ⊕_eq}
use Rattle.nodes.proofs.Row.{parity-and, dot-⊕, dot_rows, dot_ext, dot_prefix, dot_one}
use Rattle.nodes.proofs.Members.{lowest_ext, lowest_here, lowest_unique}
use Rattle.solver.proofs.System.{IsRight, solve_is, solve_right}
use Rattle.solver.proofs.Reduced.{plain, lead_more, pivots_lead}

-- ---- the rows' common zeros, over w columns, right sides among them
abbrev pub IsZero : ℕ → ℕ → (ℕ → ℕ → Bool) → (ℕ → Bool) → Type 0
IsZero r w m y = (i : ℕ) → i < r → dot w (m i) y ≡ false

pub record Same (r w : ℕ) (m m' : ℕ → ℕ → Bool) : Type 0 where
  pub there : (y : ℕ → Bool) → IsZero r w m y → IsZero r w m' y
  pub back : (y : ℕ → Bool) → IsZero r w m' y → IsZero r w m y

pub same_refl : (r w : ℕ) (m : ℕ → ℕ → Bool) → Same r w m m
same_refl r w m = record { there = λ y z. z; back = λ y z. z }

pub same_sym : {r w : ℕ} {m m' : ℕ → ℕ → Bool} → Same r w m m' → Same r w m' m
same_sym s = record { there = s.back; back = s.there }

pub same_trans : {r w : ℕ} {a b c : ℕ → ℕ → Bool} → Same r w a b → Same r w b c → Same r w a c
same_trans s t = record { there = λ y z. t.there y (s.there y z); back = λ y z. s.back y (t.back y z) }

pub same_ext : (r w : ℕ) (m m' : ℕ → ℕ → Bool) → ((v k : ℕ) → v < r → k < w → m v k ≡ m' v k) → Same r w m m'
same_ext r w m m' h = record {
  there = λ y z i l. dot_ext w (m' i) (m i) y y (λ k g. sym (h i k l g)) (λ k g. refl) ∙ z i l;
  back = λ y z i l. dot_ext w (m i) (m' i) y y (λ k g. h i k l g) (λ k g. refl) ∙ z i l;
}

-- ---- each right side, and each column as a sum of earlier ones, keeps its solutions
-- y below n, and column c
abbrev with_side : ℕ → ℕ → (ℕ → Bool) → ℕ → Bool
with_side n c y k = (ltb k n && y k) ⊕ eqb k c

side_sum : (w n c : ℕ) (a y : ℕ → Bool) → n ≤ w → c < w → dot w a (with_side n c y) ≡ dot n a y ⊕ a c
side_sum w n c a y h l = dot-⊕ w a (λ k. ltb k n && y k) (λ k. eqb k c) ∙ rw (dot_prefix w n a y h, dot_one w c a l)

pub solutions_kept : (r w : ℕ) (m m' : ℕ → ℕ → Bool) → Same r w m m' → (n c : ℕ) → n ≤ w → c < w → (x : ℕ → Bool)
    → Solves (plain r m) n (λ i. m i c) x → Solves (plain r m') n (λ i. m' i c) x
solutions_kept r w m m' s n c h l x q i g t =
    ⊕_eq (dot n (m' i) x) (m' i c)
    (sym (side_sum w n c (m' i) x h l)
    ∙ s.there (with_side n c x) (λ v u. side_sum w n c (m v) x h l ∙ rw (q v u tt) (⊕_self (m v c))) i g)

pub dependent_kept : (r w : ℕ) (m m' : ℕ → ℕ → Bool) → Same r w m m' → (k : ℕ) → k < w → IsDependent (plain r m) k → IsDependent (plain r m') k
dependent_kept r w m m' s k l (y, q) = (y, solutions_kept r w m m' s k k (omega arith) l y q)

pub answer_kept : (r w : ℕ) (m m' : ℕ → ℕ → Bool) → Same r w m m' → (n c : ℕ) → n ≤ w → c < w → (x : ℕ → Bool)
    → IsBasicSolution (plain r m) n (λ i. m i c) x → IsBasicSolution (plain r m') n (λ i. m' i c) x
answer_kept r w m m' s n c h l x a = record {
  solves = solutions_kept r w m m' s n c h l x a.solves;
  avoids = λ j g t d. a.avoids j g t (dependent_kept r w m' m (same_sym s) j (omega arith) d);
  within = a.within;
}

pub solve_kept : (r w : ℕ) (m m' : ℕ → ℕ → Bool) → Same r w m m' → (n c : ℕ) → n ≤ w → c < w → solve (plain r m) n (λ i. m i c) ≡ solve (plain r m') n (λ i. m' i c)
solve_kept r w m m' s n c h l = sym (solve_is (plain r m') n (λ i. m' i c) (solve (plain r m) n (λ i. m i c)) (go (solve (plain r m) n (λ i. m i c)) (solve_right (plain r m) n (λ i. m i c))))
  where
    go : (o : Option (ℕ → Bool)) → IsRight (plain r m) n (λ i. m i c) o → IsRight (plain r m') n (λ i. m' i c) o
    go none f = λ x q. f x (solutions_kept r w m' m (same_sym s) n c h l x q)
    go (some x) a = answer_kept r w m m' s n c h l x a

pub pivots_kept : (r w : ℕ) (m m' : ℕ → ℕ → Bool) → Same r w m m' → (k : ℕ) → k < w → pivot (plain r m) k ≡ pivot (plain r m') k
pivots_kept r w m m' s k l = ap (λ o. not (is_some o)) (solve_kept r w m m' s k k (omega arith) l)

-- ---- adding rows
-- row p added to the rows that a has, itself not among them
pub multiples_same : (r w p : ℕ) (a : ℕ → Bool) (m m' : ℕ → ℕ → Bool) → p < r → a p ≡ false
    → ((v k : ℕ) → v < r → k < w → m' v k ≡ m v k ⊕ a v && m p k) → Same r w m m'
multiples_same r w p a m m' l e h = record {
  there = λ y z v g. at v y g ∙ rw (z v g, z p l) (and_none (a v));
  back = λ y z v g.
      ⊕_eq (dot w (m v) y) (a v && dot w (m p) y) (sym (at v y g) ∙ z v g) ∙ rw (row_p y z) (and_none (a v));
}
  where
    at : (v : ℕ) (y : ℕ → Bool) → v < r → dot w (m' v) y ≡ dot w (m v) y ⊕ a v && dot w (m p) y
    at v y g =
        dot_ext w (m' v) (λ k. m v k ⊕ a v && m p k) y y (λ k u. h v k g u) (λ k u. refl)
        ∙ dot_rows w (m v) (λ k. a v && m p k) y
        ∙ rw (scaled (a v))
      where
        scaled : (b : Bool) → dot w (λ k. b && m p k) y ≡ b && dot w (m p) y
        scaled true = refl
        scaled false = parity-and w false (λ k. false)

    row_p : (y : ℕ → Bool) → IsZero r w m' y → dot w (m p) y ≡ false
    row_p y z = sym (at p y l ∙ rw e (⊕_none (dot w (m p) y))) ∙ z p l

-- row i added to row q
abbrev pub add_row : ℕ → ℕ → (ℕ → ℕ → Bool) → ℕ → ℕ → Bool
add_row i q m v k = cond (eqb v q) (m q k ⊕ m i k) (m v k)

pub add_same : (r w i q : ℕ) (m : ℕ → ℕ → Bool) → i < r → q < r → i ≢ q → Same r w m (add_row i q m)
add_same r w i q m a b d = multiples_same r w i (λ v. eqb v q) m (add_row i q m) a (eqb_no i q d) (λ v k l g. at v k (dec (eqb v q)))
  where
    at : (v k : ℕ) → T (eqb v q) ⊎ (T (eqb v q) → ⊥) → add_row i q m v k ≡ m v k ⊕ eqb v q && m i k
    at v k (inl t) = rw (eqb→eq v q t, eqb_yes q)
    at v k (inr f) = rw (is_false (eqb v q) f) (sym (⊕_none (m v k)))

-- ---- an elimination after c columns: `rank` rows begin there, each alone at its place, and the rest is zero there
pub record IsPartly (r c rank : ℕ) (m : ℕ → ℕ → Bool) : Type 0 where
  pub fits : rank ≤ r
  pub rest : (i k : ℕ) → rank ≤ i → i < r → k < c → m i k ≡ false
  pub begun : (i : ℕ) → i < rank → lead m c i < c
  pub alone : (i q : ℕ) → i < rank → q < r → i ≢ q → m q (lead m c i) ≡ false

pub partly_start : (r : ℕ) (m : ℕ → ℕ → Bool) → IsPartly r 0 0 m
partly_start r m = record {
  fits = omega arith;
  rest = λ i k h l g. absurd (not-suc-le-zero g);
  begun = λ i g. absurd (not-suc-le-zero g);
  alone = λ i q g l d. absurd (not-suc-le-zero g);
}

-- only the columns before c matter
pub partly_ext : (r c rank : ℕ) (m m' : ℕ → ℕ → Bool) → ((v k : ℕ) → v < r → k < c → m v k ≡ m' v k) → IsPartly r c rank m → IsPartly r c rank m'
partly_ext r c rank m m' h p = record {
  fits = p.fits;
  rest = λ i k g l u. sym (h i k l u) ∙ p.rest i k g l u;
  begun = λ i g. rw (← lead_same i g) (p.begun i g);
  alone = λ i q g l d. rw (← lead_same i g) (sym (h q (lead m c i) l (p.begun i g)) ∙ p.alone i q g l d);
}
  where
    lead_same : (i : ℕ) → i < rank → lead m c i ≡ lead m' c i
    lead_same i g = let f : rank ≤ r = p.fits in lowest_ext c (m i) (m' i) (λ k u. h i k (omega arith) u)

-- a column without a bit in the rows at or past the rank
pub partly_skip : (r c rank : ℕ) (m : ℕ → ℕ → Bool) → IsPartly r c rank m → ((i : ℕ) → rank ≤ i → i < r → m i c ≡ false) → IsPartly r (c + 1) rank m
partly_skip r c rank m p z = record {
  fits = p.fits;
  rest = λ i k g l u. zero_at i k g l (lt_or_ge k c) u;
  begun = λ i g. let h : lead m c i < c = p.begun i g in rw (lead_more m c (c + 1) i (omega arith) h) (omega arith);
  alone = λ i q g l d. rw (lead_more m c (c + 1) i (omega arith) (p.begun i g)) (p.alone i q g l d);
}
  where
    zero_at : (i k : ℕ) → rank ≤ i → i < r → (k < c) ⊎ (c ≤ k) → k < c + 1 → m i k ≡ false
    zero_at i k g l (inl u) v = p.rest i k g l u
    zero_at i k g l (inr u) v = let e : k ≡ c = omega arith in rw e (z i g l)

module _ (r c rank w : ℕ) (m m' : ℕ → ℕ → Bool) (inside : c < w) (p : IsPartly r c rank m) (room : rank < r) (one : m rank c ≡ true)
    (cleared : (v k : ℕ) → v < r → k < w → m' v k ≡ m v k ⊕ (not (eqb v rank) && m v c) && m rank k) where
  -- the row at the rank is added to the others that have a bit in column c: the rows' common zeros stay
  pub pivot_same : Same r w m m'
  pivot_same = multiples_same r w rank (λ v. not (eqb v rank) && m v c) m m' room (rw (eqb_yes rank)) cleared

  earlier : (v k : ℕ) → v < r → k < c → m v k ≡ m' v k
  earlier v k l g =
      sym (cleared v k l (omega arith) ∙ rw (p.rest rank k (le_refl rank) room g, and_none (not (eqb v rank) && m v c)) (⊕_none (m v k)))

  others : (v : ℕ) → v < r → v ≢ rank → m' v c ≡ false
  others v l d = cleared v c l inside ∙ rw (eqb_no v rank d, one, and_all (m v c)) (⊕_self (m v c))

  own : m' rank c ≡ true
  own = cleared rank c room inside ∙ rw (eqb_yes rank, one)

  before : IsPartly r c rank m'
  before = partly_ext r c rank m m' earlier p

  lead_own : lead m' (c + 1) rank ≡ c
  lead_own = lowest_unique (c + 1) (m' rank) c (omega arith) (λ k g. before.rest rank k (le_refl rank) room g) (λ g. own)

  pub partly_pivot : IsPartly r (c + 1) (rank + 1) m'
  partly_pivot = record {
    fits = omega arith;
    rest = λ i k g l u. zero_at i k g l (lt_or_ge k c) u;
    begun = λ i g. begun_at i (lt_or_ge i rank) g;
    alone = λ i q g l d. alone_at i q (lt_or_ge i rank) g l d;
  }
    where
      same_lead : (i : ℕ) → i < rank → lead m' (c + 1) i ≡ lead m' c i
      same_lead i g = lead_more m' c (c + 1) i (omega arith) (before.begun i g)

      zero_at : (i k : ℕ) → rank + 1 ≤ i → i < r → (k < c) ⊎ (c ≤ k) → k < c + 1 → m' i k ≡ false
      zero_at i k g l (inl u) v = before.rest i k (omega arith) l u
      zero_at i k g l (inr u) v = let e : k ≡ c = omega arith in rw e (others i l (omega arith))

      begun_at : (i : ℕ) → (i < rank) ⊎ (rank ≤ i) → i < rank + 1 → lead m' (c + 1) i < c + 1
      begun_at i (inl g) v = let h : lead m' c i < c = before.begun i g in rw (same_lead i g) (omega arith)
      begun_at i (inr g) v = let e : i ≡ rank = omega arith in rw (e, lead_own) (omega arith)

      alone_at : (i q : ℕ) → (i < rank) ⊎ (rank ≤ i) → i < rank + 1 → q < r → i ≢ q → m' q (lead m' (c + 1) i) ≡ false
      alone_at i q (inl g) v l d = rw (same_lead i g) (before.alone i q g l d)
      alone_at i q (inr g) v l d = let e : i ≡ rank = omega arith in rw (e, lead_own) (others q l (omega arith))

-- a row further down that has a bit in column c is added to the row at the rank, which has none
module _ (r c rank w j : ℕ) (m m' : ℕ → ℕ → Bool) (inside : c < w) (p : IsPartly r c rank m) (after : rank < j) (room : j < r)
    (none_there : m rank c ≡ false) (one : m j c ≡ true)
    (added : (v k : ℕ) → v < r → k < w → m' v k ≡ add_row j rank m v k) where
  pub pivot_row_same : Same r w m m'
  pivot_row_same = same_trans (add_same r w j rank m room (omega arith) (omega arith)) (same_ext r w (add_row j rank m) m' (λ v k l g. sym (added v k l g)))

  pub pivot_row_keeps : IsPartly r c rank m'
  pivot_row_keeps = partly_ext r c rank m m' (λ v k l g. sym (added v k l (omega arith) ∙ at v k g (dec (eqb v rank)))) p
    where
      at : (v k : ℕ) → k < c → T (eqb v rank) ⊎ (T (eqb v rank) → ⊥) → add_row j rank m v k ≡ m v k
      at v k g (inl t) = rw (eqb→eq v rank t, eqb_yes rank, p.rest j k (omega arith) room g) (⊕_none (m rank k))
      at v k g (inr f) = rw (is_false (eqb v rank) f)

  pub pivot_row_one : m' rank c ≡ true
  pivot_row_one = added rank c (omega arith) inside ∙ rw (eqb_yes rank, none_there, one)

-- ---- after all columns
pub partly_reduced : (r n rank : ℕ) (m : ℕ → ℕ → Bool) → IsPartly r n rank m → IsReduced r n m
partly_reduced r n rank m p i q l g d h = go (lt_or_ge i rank)
  where
    go : (i < rank) ⊎ (rank ≤ i) → m q (lead m n i) ≡ false
    go (inl u) = p.alone i q u g d
    go (inr u) = absurd (both_ways (m i (lead m n i)) (lowest_here n (m i) h) (p.rest i (lead m n i) u l h))

-- so the answer of the equations at the start is read off at the end, and the pivots too
module _ (r w n rank : ℕ) (m m' : ℕ → ℕ → Bool) (s : Same r w m m') (p : IsPartly r n rank m') (fits : n ≤ w) where
  pub eliminated_pivots : (k : ℕ) → k < n → any_below r (λ i. eqb (lead m' n i) k) ≡ pivot (plain r m) k
  eliminated_pivots k l = sym (pivots_kept r w m m' s k (omega arith) ∙ pivots_lead r n m' (partly_reduced r n rank m' p) k l)
