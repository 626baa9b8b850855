-- The answer of a system: there is at most one, and `solve` finds it where there is a solution.
use Prim.Native.Nat.{ℕ, zero, suc, ◌+◌, ◌≤◌, ◌<◌}
use mathlib.Core.Path.{◌≡◌, refl, sym, ap, ◌∙◌, fun_ext}
use mathlib.Core.Bool.{Bool, true, false, cond, not, ◌&&◌, true≢false}
use mathlib.Core.Option.{Option, none, some}
use mathlib.Core.Logic.{◌⊎◌, inl, inr, ◌≢◌}
use native.Mathlib.Omega.{arith}
use native.Mathlib.Nat.{not-suc-le-zero, le_step, lt-suc_self, eq-or-lt_of_le, le_of_suc-le-suc, le_refl}
use lib.Dec.{T, eqb, eqb→eq}
use Rattle.nodes.specs.Bit.{◌⊕◌}
use Rattle.nodes.specs.Row.{parity, all_below}
use Rattle.nodes.specs.Options.{is_some, option_or}
use Rattle.solver.specs.System.{System, sum, Solves, IsDependent, Avoids, IsBasicSolution, taking, solve, pivot}
use Rattle.nodes.proofs.Logic.{is_true, is_false, from_true, dec, and_l, and_r, and_in, not_in, not_out, eqb_no, eqb_yes, beq_eq, and_none, ⊕_none, ⊕_self, ⊕_eq, ⊕_comm, ⊕_assoc}
use Rattle.nodes.proofs.Row.{parity_ext, parity-⊕, all_in, all_out}

-- ---- bits
⊕_off : (a b : Bool) → a ⊕ b ⊕ b ≡ a
⊕_off a b = ⊕_assoc a b b ∙ rw (⊕_self b) (⊕_none a)

⊕_over : (a d c : Bool) → a ⊕ d ≡ c → d ≡ c ⊕ a
⊕_over a d c e = rw (← e, ⊕_comm a d) (sym (⊕_off d a))

taken_same : (n : ℕ) (x : ℕ → Bool) → cond (eqb n n) true (x n) ≡ true
taken_same n x = rw (eqb_yes n)

taken_other : (n : ℕ) (x : ℕ → Bool) (k : ℕ) → k ≢ n → cond (eqb k n) true (x k) ≡ x k
taken_other n x k d = rw (eqb_no k n d)

module _ (s : System) where
  -- ---- sums
  pub sum_ext : (n i : ℕ) (x y : ℕ → Bool) → ((k : ℕ) → k < n → T (s.column k) → x k ≡ y k) → sum s n i x ≡ sum s n i y
  sum_ext n i x y h =
      parity_ext n (λ k. s.column k && (s.entry i k && x k)) (λ k. s.column k && (s.entry i k && y k)) (λ k l. go k l (dec (s.column k)))
    where
      go : (k : ℕ) → k < n → T (s.column k) ⊎ (T (s.column k) → ⊥) → s.column k && (s.entry i k && x k) ≡ s.column k && (s.entry i k && y k)
      go k l (inl t) = rw (h k l t)
      go k l (inr f) = rw (is_false (s.column k) f)

  pub sum-⊕ : (n i : ℕ) (x y : ℕ → Bool) → sum s n i (λ k. x k ⊕ y k) ≡ sum s n i x ⊕ sum s n i y
  sum-⊕ n i x y =
      parity_ext n (λ k. s.column k && (s.entry i k && (x k ⊕ y k))) (λ k. s.column k && (s.entry i k && x k) ⊕ s.column k && (s.entry i k && y k))
      (λ k l. split (s.column k) (s.entry i k) (x k) (y k))
      ∙ parity-⊕ n (λ k. s.column k && (s.entry i k && x k)) (λ k. s.column k && (s.entry i k && y k))
    where
      split : (c a x y : Bool) → c && (a && (x ⊕ y)) ≡ c && (a && x) ⊕ c && (a && y)
      split true true x y = refl
      split true false x y = refl
      split false a x y = refl

  -- the last column not at hand, or not taken
  pub sum_skip : (n i : ℕ) (x : ℕ → Bool) → (T (s.column n) → x n ≡ false) → sum s (suc n) i x ≡ sum s n i x
  unfolding parity
  sum_skip n i x h = rw (nothing (s.column n) (s.entry i n) (x n) h)
    where
      nothing : (c a v : Bool) → (T c → v ≡ false) → c && (a && v) ≡ false
      nothing true a v h = rw (h tt) (and_none a)
      nothing false a v h = refl

  -- the last column taken
  pub sum_take : (n i : ℕ) (x : ℕ → Bool) → T (s.column n) → x n ≡ true → sum s (suc n) i x ≡ s.entry i n ⊕ sum s n i x
  unfolding parity
  sum_take n i x t e = rw (is_true (s.column n) t, e) (one (s.entry i n) (sum s n i x))
    where
      one : (a b : Bool) → (a && true) ⊕ b ≡ a ⊕ b
      one true b = refl
      one false b = refl

  -- ---- at most one answer
  -- a sum of columns, none of which is a sum of earlier ones, is zero only where none is taken
  independent : (n : ℕ) (z : ℕ → Bool) → Solves s n (λ i. false) z → Avoids s n z → (k : ℕ) → k < n → T (s.column k) → z k ≡ false
  independent zero z h a k l t = absurd (not-suc-le-zero l)
  independent (suc n) z h a k l t = last (dec (s.column n)) (z n) refl (eq-or-lt_of_le (le_of_suc-le-suc l)) (independent n z)
    where
      last : T (s.column n) ⊎ (T (s.column n) → ⊥) → (c : Bool) → z n ≡ c → (k ≡ n) ⊎ (k < n)
          → (Solves s n (λ i. false) z → Avoids s n z → (k : ℕ) → k < n → T (s.column k) → z k ≡ false) → z k ≡ false
      last (inl u) true e o ih =
          absurd (true≢false (sym e ∙ a n (lt-suc_self n) u (z, λ i g r. sym (⊕_eq (s.entry i n) (sum s n i z) (sym (sum_take n i z u e) ∙ h i g r)))))
      last d false e (inl p) ih = rw p e
      last d false e (inr g) ih = ih (λ i q r. sym (sum_skip n i z (λ u. e)) ∙ h i q r) (λ j q u p. a j (le_step q) u p) k g t
      last (inr f) true e (inl p) ih = absurd (f (rw p at t))
      last (inr f) true e (inr g) ih = ih (λ i q r. sym (sum_skip n i z (λ u. absurd (f u))) ∙ h i q r) (λ j q u p. a j (le_step q) u p) k g t

  -- two solutions that take no column which is a sum of earlier ones, and columns at hand only, are equal
  pub unique : (n : ℕ) (b x y : ℕ → Bool) → Solves s n b x → Solves s n b y → Avoids s n x → Avoids s n y → ((k : ℕ) → T (x k) → (k < n) × T (s.column k)) → ((k : ℕ) → T (y k) → (k < n) × T (s.column k)) → x ≡ y
  unique n b x y sx sy ax ay wx wy = fun_ext (λ k. beq_eq (x k) (y k) (λ t. from_true (y k) (sym (same k (wx k t)) ∙ is_true (x k) t)) (λ t. from_true (x k) (same k (wy k t) ∙ is_true (y k) t)))
    where
      same : (k : ℕ) → (k < n) × T (s.column k) → x k ≡ y k
      same k (l, t) =
          ⊕_eq (x k) (y k)
          (independent n (λ j. x j ⊕ y j)
          (λ i g r. sum-⊕ n i x y ∙ rw (sx i g r, sy i g r) (⊕_self (b i)))
          (λ j g u d. rw (ax j g u d, ay j g u d)) k l t)

  pub answer_unique : (n : ℕ) (b x y : ℕ → Bool) → IsBasicSolution s n b x → IsBasicSolution s n b y → x ≡ y
  answer_unique n b x y a c = unique n b x y a.solves c.solves a.avoids c.avoids a.within c.within

  -- ---- what `solve` gives is right: none where there is no solution, and else the answer
  abbrev pub IsRight : ℕ → (ℕ → Bool) → Option (ℕ → Bool) → Type 0
  IsRight n b none = (x : ℕ → Bool) → Solves s n b x → ⊥
  IsRight n b (some x) = IsBasicSolution s n b x

  empty_right : (b : ℕ → Bool) (c : Bool) → all_below s.rows (λ i. not (s.row i && b i)) ≡ c → IsRight zero b (cond c (some (λ k. false)) none)
  unfolding parity
  empty_right b true e = record {
    solves = λ i l r. sym (is_false (b i) (λ t. not_out (s.row i && b i) (all_out s.rows (λ i. not (s.row i && b i)) (rw e tt) i l) (and_in (s.row i) (b i) r t)));
    avoids = λ j l u d. refl;
    within = λ k t. absurd t;
  }
  empty_right b false e = λ x h.
      true≢false
      (sym (is_true (all_below s.rows (λ i. not (s.row i && b i)))
      (all_in s.rows (λ i. not (s.row i && b i))
      (λ i l. not_in (s.row i && b i) (λ t. false_out (h i l (and_l (s.row i) (b i) t)) (and_r (s.row i) (b i) t)))))
      ∙ e)
    where
      false_out : {b : Bool} → false ≡ b → T b → ⊥
      false_out e t = rw (← e) at t

  -- the last column is not taken
  one_more : (n : ℕ) (b x : ℕ → Bool) → IsBasicSolution s n b x → IsBasicSolution s (suc n) b x
  one_more n b x h = record {
    solves = λ i l r. sum_skip n i x (λ u. outside (dec (x n))) ∙ h.solves i l r;
    avoids = λ j l u d. by (eq-or-lt_of_le (le_of_suc-le-suc l)) u d;
    within = λ k t. let (l, u) = h.within k t in (le_step l, u);
  }
    where
      past : (n < n) → ⊥
      past l = omega arith

      outside : T (x n) ⊎ (T (x n) → ⊥) → x n ≡ false
      outside (inl t) = absurd (past (h.within n t).0)
      outside (inr f) = is_false (x n) f

      by : {j : ℕ} → (j ≡ n) ⊎ (j < n) → T (s.column j) → IsDependent s j → x j ≡ false
      by (inl e) u d = rw e (outside (dec (x n)))
      by (inr l) u d = h.avoids _ l u d

  -- the last column is taken
  needed : (n : ℕ) (b x : ℕ → Bool) → T (s.column n) → IsRight n b none → IsBasicSolution s n (λ i. b i ⊕ s.entry i n) x → IsBasicSolution s (suc n) b (λ k. cond (eqb k n) true (x k))
  needed n b x u h a = record {
    solves = λ i l r.
        sum_take n i (λ k. cond (eqb k n) true (x k)) u (taken_same n x)
        ∙ rw (sum_ext n i (λ k. cond (eqb k n) true (x k)) x (λ k g t. taken_other n x k (omega arith)), a.solves i l r) (⊕_comm (s.entry i n) (b i ⊕ s.entry i n) ∙ ⊕_off (b i) (s.entry i n));
    avoids = λ j l v d. by j (eq-or-lt_of_le (le_of_suc-le-suc l)) v d;
    within = λ k t. in_all k t (dec (eqb k n));
  }
    where
      by : (j : ℕ) → (j ≡ n) ⊎ (j < n) → T (s.column j) → IsDependent s j → cond (eqb j n) true (x j) ≡ false
      by j (inl e) v d =
          let d' : IsDependent s n = rw e at d in
          absurd (h (λ k. x k ⊕ d'.0 k) (λ i l r. sum-⊕ n i x d'.0 ∙ rw (a.solves i l r, d'.1 i l r) (⊕_off (b i) (s.entry i n))))
      by j (inr l) v d = taken_other n x j (omega arith) ∙ a.avoids j l v d

      in_all : (k : ℕ) → T (cond (eqb k n) true (x k)) → T (eqb k n) ⊎ (T (eqb k n) → ⊥) → (k < suc n) × T (s.column k)
      in_all k t (inl e) = let q : k ≡ n = eqb→eq k n e in (omega arith, rw q u)
      in_all k t (inr f) = let (l, v) = a.within k (rw (is_false (eqb k n) f) at t) in (le_step l, v)

  pub solve_right : (n : ℕ) (b : ℕ → Bool) → IsRight n b (solve s n b)
  unfolding solve
  solve_right zero b = empty_right b (all_below s.rows (λ i. not (s.row i && b i))) refl
  solve_right (suc n) b = by (s.column n) refl (solve s n b) (solve_right n b) (solve s n (λ i. b i ⊕ s.entry i n)) (solve_right n (λ i. b i ⊕ s.entry i n))
    where
      no_solution : (x : ℕ → Bool) (c : Bool) → x n ≡ c → T (s.column n) → IsRight n b none → IsRight n (λ i. b i ⊕ s.entry i n) none → Solves s (suc n) b x → ⊥
      no_solution x false e u h k q = h x (λ i l r. sym (sum_skip n i x (λ u. e)) ∙ q i l r)
      no_solution x true e u h k q = k x (λ i l r. ⊕_over (s.entry i n) (sum s n i x) (b i) (sym (sum_take n i x u e) ∙ q i l r))

      step : (o : Option (ℕ → Bool)) → T (s.column n) → IsRight n b o → (p : Option (ℕ → Bool)) → IsRight n (λ i. b i ⊕ s.entry i n) p → IsRight (suc n) b (option_or o (taking n p))
      step (some x) u h p k = one_more n b x h
      step none u h none k = λ x q. no_solution x (x n) refl u h k q
      step none u h (some x) k = needed n b x u h k

      left_out : (o : Option (ℕ → Bool)) → s.column n ≡ false → IsRight n b o → IsRight (suc n) b o
      left_out (some x) e h = one_more n b x h
      left_out none e h = λ x q. h x (λ i l r. sym (sum_skip n i x (λ u. absurd (rw e at u))) ∙ q i l r)

      by : (c : Bool) → s.column n ≡ c → (o : Option (ℕ → Bool)) → IsRight n b o → (p : Option (ℕ → Bool)) → IsRight n (λ i. b i ⊕ s.entry i n) p
          → IsRight (suc n) b (cond c (option_or o (taking n p)) o)
      by true e o h p k = step o (rw e tt) h p k
      by false e o h p k = left_out o e h

  pub solve-some : (n : ℕ) (b x : ℕ → Bool) → IsBasicSolution s n b x → solve s n b ≡ some x
  solve-some n b x a = go (solve s n b) (solve_right n b)
    where
      go : (o : Option (ℕ → Bool)) → IsRight n b o → o ≡ some x
      go none h = absurd (h x a.solves)
      go (some y) h = ap some (answer_unique n b y x h a)

  pub solve-none : (n : ℕ) (b : ℕ → Bool) → ((x : ℕ → Bool) → Solves s n b x → ⊥) → solve s n b ≡ none
  solve-none n b f = go (solve s n b) (solve_right n b)
    where
      go : (o : Option (ℕ → Bool)) → IsRight n b o → o ≡ none
      go none h = refl
      go (some y) h = absurd (f y h.solves)

  -- an option that is right is what `solve` gives
  pub solve_is : (n : ℕ) (b : ℕ → Bool) (o : Option (ℕ → Bool)) → IsRight n b o → solve s n b ≡ o
  solve_is n b none h = solve-none n b h
  solve_is n b (some x) h = solve-some n b x h

  pub solve_answer : (n : ℕ) (b x : ℕ → Bool) → solve s n b ≡ some x → IsBasicSolution s n b x
  solve_answer n b x e = rw e at (solve_right n b)

  -- an answer is given exactly where there is a solution
  pub solvable_some : (n : ℕ) (b x : ℕ → Bool) → Solves s n b x → T (is_some (solve s n b))
  solvable_some n b x h = go (solve s n b) (solve_right n b)
    where
      go : (o : Option (ℕ → Bool)) → IsRight n b o → T (is_some o)
      go none f = f x h
      go (some y) a = tt

  pub some_solvable : (n : ℕ) (b : ℕ → Bool) → T (is_some (solve s n b)) → (x : ℕ → Bool) × Solves s n b x
  some_solvable n b t = go (solve s n b) (solve_right n b) t
    where
      go : (o : Option (ℕ → Bool)) → IsRight n b o → T (is_some o) → (x : ℕ → Bool) × Solves s n b x
      go none f t = absurd t
      go (some y) a t = (y, a.solves)

  -- a pivot is a column at hand that is no sum of earlier ones
  pub pivot_out : (k : ℕ) → T (pivot s k) → T (s.column k) × (IsDependent s k → ⊥)
  pivot_out k t = (
    and_l (s.column k) (not (is_some (solve s k (λ i. s.entry i k)))) t,
    λ d. not_out (is_some (solve s k (λ i. s.entry i k))) (and_r (s.column k) (not (is_some (solve s k (λ i. s.entry i k)))) t) (solvable_some k (λ i. s.entry i k) d.0 d.1),
  )

  pub pivot_in : (k : ℕ) → T (s.column k) → (IsDependent s k → ⊥) → T (pivot s k)
  pivot_in k u f =
      and_in (s.column k) (not (is_some (solve s k (λ i. s.entry i k)))) u
      (not_in (is_some (solve s k (λ i. s.entry i k))) (λ t. f (some_solvable k (λ i. s.entry i k) t)))

-- columns that are not at hand may be left away behind the last one that is
pub solve_past : (s : System) (n d : ℕ) (b : ℕ → Bool) → ((k : ℕ) → n ≤ k → s.column k ≡ false) → solve s (n + d) b ≡ solve s n b
unfolding solve
solve_past s n zero b h = let e : n + 0 ≡ n = omega arith in ap (λ (k : ℕ). solve s k b) e
solve_past s n (suc d) b h =
    let e : n + suc d ≡ suc (n + d) = omega arith in
    ap (λ (k : ℕ). solve s k b) e
    ∙ ap (λ (c : Bool). cond c (option_or (solve s (n + d) b) (taking (n + d) (solve s (n + d) (λ i. b i ⊕ s.entry i (n + d))))) (solve s (n + d) b)) (h (n + d) (omega arith))
    ∙ solve_past s n d b h

-- ---- systems that agree wherever it matters
-- the same rows and columns at hand, below n columns, and the same entries there
pub record Agree (s t : System) (n : ℕ) : Type 0 where
  pub rows : s.rows ≡ t.rows
  pub row : (i : ℕ) → i < s.rows → s.row i ≡ t.row i
  pub column : (k : ℕ) → k < n → s.column k ≡ t.column k
  pub entry : (i k : ℕ) → i < s.rows → k < n → T (s.row i) → T (s.column k) → s.entry i k ≡ t.entry i k

pub agree_sym : {s t : System} {n : ℕ} → Agree s t n → Agree t s n
agree_sym {s = s} {t = t} a = record {
  rows = sym a.rows;
  row = λ i l. sym (a.row i (rw a.rows l));
  column = λ k l. sym (a.column k l);
  entry = λ i k l h u v. sym (a.entry i k (rw a.rows l) h (rw (a.row i (rw a.rows l)) u) (rw (a.column k h) v));
}

module _ (s t : System) (n : ℕ) (a : Agree s t n) where
  pub sum_agree : (j i : ℕ) (x : ℕ → Bool) → j ≤ n → i < s.rows → T (s.row i) → sum s j i x ≡ sum t j i x
  sum_agree j i x h l r =
      parity_ext j (λ k. s.column k && (s.entry i k && x k)) (λ k. t.column k && (t.entry i k && x k)) (λ k g. go k (omega arith) (dec (s.column k)))
    where
      go : (k : ℕ) → k < n → T (s.column k) ⊎ (T (s.column k) → ⊥) → s.column k && (s.entry i k && x k) ≡ t.column k && (t.entry i k && x k)
      go k g (inl u) = rw (← a.column k g, a.entry i k l g r u)
      go k g (inr f) = rw (← a.column k g, is_false (s.column k) f)

  pub solves_agree : (j : ℕ) (b c x : ℕ → Bool) → j ≤ n → ((i : ℕ) → i < s.rows → T (s.row i) → b i ≡ c i) → Solves s j b x → Solves t j c x
  solves_agree j b c x h e q i l r = go i (rw a.rows l) (λ g. rw (a.row i g) r)
    where
      go : (i : ℕ) → i < s.rows → (i < s.rows → T (s.row i)) → sum t j i x ≡ c i
      go i l r = sym (sum_agree j i x h l (r l)) ∙ q i l (r l) ∙ e i l (r l)

  pub dependent_agree : (k : ℕ) → k < n → T (s.column k) → IsDependent s k → IsDependent t k
  dependent_agree k l u (y, q) = (y, solves_agree k (λ i. s.entry i k) (λ i. t.entry i k) y (omega arith) (λ i g r. a.entry i k g l r u) q)

module _ (s t : System) (n : ℕ) (a : Agree s t n) where
  pub answer_agree : (b c x : ℕ → Bool) → ((i : ℕ) → i < s.rows → T (s.row i) → b i ≡ c i) → IsBasicSolution s n b x → IsBasicSolution t n c x
  answer_agree b c x e h = record {
    solves = solves_agree s t n a n b c x (le_refl n) e h.solves;
    avoids = λ j l u d. h.avoids j l (rw (a.column j l) u) (dependent_agree t s n (agree_sym a) j l u d);
    within = λ k v. let (l, u) = h.within k v in (l, rw (← a.column k l) u);
  }

  pub solve_ext : (b c : ℕ → Bool) → ((i : ℕ) → i < s.rows → T (s.row i) → b i ≡ c i) → solve s n b ≡ solve t n c
  solve_ext b c e = sym (solve_is t n c (solve s n b) (go (solve s n b) (solve_right s n b)))
    where
      back : (i : ℕ) → i < t.rows → T (t.row i) → c i ≡ b i
      back i l r = sym (e i (rw a.rows l) (rw (a.row i (rw a.rows l)) r))

      go : (o : Option (ℕ → Bool)) → IsRight s n b o → IsRight t n c o
      go none f = λ x h. f x (solves_agree t s n (agree_sym a) n c b x (le_refl n) back h)
      go (some x) h = answer_agree b c x e h
