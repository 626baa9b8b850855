-- What is read off a reduced matrix is the answer of its equations, and its pivots are the columns at which rows begin.
use Prim.Native.Nat.{ℕ, ◌≤◌, ◌<◌}
use mathlib.Core.Path.{◌≡◌, refl, sym, ap, ◌∙◌}
use mathlib.Core.Bool.{Bool, true, false, cond, not, ◌&&◌, false≢true}
use mathlib.Core.Option.{none, some}
use mathlib.Core.Logic.{◌⊎◌, inl, inr, ◌≢◌}
use native.Mathlib.Omega.{arith}
use native.Mathlib.Nat.{le_refl, eq-or-lt_of_le}
use lib.Dec.{T, eqb, eqb→eq, eqb_refl, ltb, ltb→lt}
use Rattle.nodes.specs.Row.{dot, any_below}
use Rattle.nodes.specs.Options.{is_some}
use Rattle.solver.specs.System.{System, Solves, IsDependent, solve, pivot}
use Rattle.solver.specs.Reduced.{lead, IsReduced, contradicts, leads, read_off}
use Rattle.nodes.proofs.Logic.{is_true, is_false, from_true, both_ways, dec, and_l, and_r, and_in, eqb_yes, beq_eq, and_none, and_all}
use Rattle.nodes.proofs.Row.{parity_ext, parity_none, parity_one, any_in, any_out, any_ext, ltb_yes}
use Rattle.nodes.proofs.Members.{lowest-le, lowest_none, lowest_here, lowest_unique}
use Rattle.solver.proofs.System.{IsRight, solve_is}

-- the equations of the first r rows of a matrix, with all rows and columns at hand
abbrev pub plain : ℕ → (ℕ → ℕ → Bool) → System
plain r m = record { rows = r; row = λ i. true; column = λ k. true; entry = m }

-- ---- where rows begin
-- a row that begins among fewer columns begins at the same place among more
pub lead_more : (m : ℕ → ℕ → Bool) (k n i : ℕ) → k ≤ n → lead m k i < k → lead m n i ≡ lead m k i
lead_more m k n i h l = lowest_unique n (m i) (lead m k i) (omega arith) (λ j g. lowest_none k (m i) j g) (λ g. lowest_here k (m i) l)

pub reduced_fewer : (r k n : ℕ) (m : ℕ → ℕ → Bool) → k ≤ n → IsReduced r n m → IsReduced r k m
reduced_fewer r k n m h red i q a b d l = let e : lead m n i ≡ lead m k i = lead_more m k n i h l in rw e at (red i q a b d (rw e (omega arith)))

module _ (r n : ℕ) (m : ℕ → ℕ → Bool) (red : IsReduced r n m) (d : ℕ → Bool) where
  -- a column that is read off is where a row begins that asks for 1
  begins : (k : ℕ) → T (leads r n m d k) → (i : ℕ) × (i < r) × T (d i) × (lead m n i ≡ k)
  begins k t =
      let (i, l, h) = any_out r (λ i. d i && eqb (lead m n i) k) (and_r (ltb k n) (any_below r (λ i. d i && eqb (lead m n i) k)) t) in
      (i, l, and_l (d i) (eqb (lead m n i) k) h, eqb→eq (lead m n i) k (and_r (d i) (eqb (lead m n i) k) h))

  inside : (k : ℕ) → T (leads r n m d k) → k < n
  inside k t = ltb→lt k n (and_l (ltb k n) (any_below r (λ i. d i && eqb (lead m n i) k)) t)

  -- another row's first column is no bit of row i
  apart : (i k : ℕ) → i < r → T (leads r n m d k) → (lead m n i ≢ k) → m i k ≡ false
  apart i k l t f = go (begins k t) (inside k t)
    where
      go : (q : ℕ) × (q < r) × T (d q) × (lead m n q ≡ k) → k < n → m i k ≡ false
      go (q, g, u, e) h = rw e at (red q i g l (λ p. f (rw p at e)) (rw e h))

  -- at its own first column, what the row asks for
  own : (i : ℕ) → i < r → lead m n i < n → leads r n m d (lead m n i) ≡ d i
  own i l h =
      beq_eq (leads r n m d (lead m n i)) (d i) (λ t. there t (begins (lead m n i) t))
      (λ u. and_in (ltb (lead m n i) n) (any_below r (λ q. d q && eqb (lead m n q) (lead m n i))) (rw (ltb_yes (lead m n i) n h) tt)
      (any_in r (λ q. d q && eqb (lead m n q) (lead m n i)) i l (and_in (d i) (eqb (lead m n i) (lead m n i)) u (eqb_refl (lead m n i)))))
    where
      there : T (leads r n m d (lead m n i)) → (q : ℕ) × (q < r) × T (d q) × (lead m n q ≡ lead m n i) → T (d i)
      there t (q, g, u, e) = go (dec (eqb q i))
        where
          go : T (eqb q i) ⊎ (T (eqb q i) → ⊥) → T (d i)
          go (inl a) = rw (eqb→eq q i a) at u
          go (inr f) = absurd (both_ways (m i (lead m n i)) (lowest_here n (m i) h) (rw e at (red q i g l (λ p. f (rw p (eqb_refl i))) (rw e h))))

  -- row i, if it begins
  begun_row : (i : ℕ) → i < r → lead m n i < n → dot n (m i) (leads r n m d) ≡ d i
  begun_row i l h =
      parity_ext n (λ k. m i k && leads r n m d k) (λ k. leads r n m d k && eqb k (lead m n i)) (λ k g. at k (dec (eqb k (lead m n i))))
      ∙ parity_one n (lead m n i) (leads r n m d) h ∙ own i l h
    where
      at : (k : ℕ) → T (eqb k (lead m n i)) ⊎ (T (eqb k (lead m n i)) → ⊥) → m i k && leads r n m d k ≡ leads r n m d k && eqb k (lead m n i)
      at k (inl a) = rw (eqb→eq k (lead m n i) a, lowest_here n (m i) h, eqb_yes (lead m n i)) (sym (and_all (leads r n m d (lead m n i))))
      at k (inr f) = rw (is_false (eqb k (lead m n i)) f, and_none (leads r n m d k)) (other (dec (leads r n m d k)))
        where
          other : T (leads r n m d k) ⊎ (T (leads r n m d k) → ⊥) → m i k && leads r n m d k ≡ false
          other (inl t) = rw (apart i k l t (λ e. f (rw e (eqb_refl k))))
          other (inr g) = rw (is_false (leads r n m d k) g) (and_none (m i k))

  -- a row without a bit
  zero_row : (i : ℕ) (x : ℕ → Bool) → lead m n i ≡ n → dot n (m i) x ≡ false
  zero_row i x e = parity_none n (λ k. m i k && x k) (λ k g. rw (lowest_none n (m i) k (rw e g)))

  read_right : (c : Bool) → contradicts r n m d ≡ c → IsRight (plain r m) n d (cond c none (some (leads r n m d)))
  read_right true e = go (any_out r (λ i. d i && eqb (lead m n i) n) (rw e tt))
    where
      go : (i : ℕ) × (i < r) × T (d i && eqb (lead m n i) n) → (x : ℕ → Bool) → Solves (plain r m) n d x → ⊥
      go (i, l, t) x q =
          both_ways (d i) (is_true (d i) (and_l (d i) (eqb (lead m n i) n) t))
          (sym (q i l tt) ∙ zero_row i x (eqb→eq (lead m n i) n (and_r (d i) (eqb (lead m n i) n) t)))
  read_right false e = record {
    solves = λ i l t. row i l (eq-or-lt_of_le (lowest-le n (m i)));
    avoids = λ j l t p. is_false (leads r n m d j) (λ u. avoid j p (begins j u) (inside j u));
    within = λ k t. (inside k t, tt);
  }
    where
      row : (i : ℕ) → i < r → (lead m n i ≡ n) ⊎ (lead m n i < n) → dot n (m i) (leads r n m d) ≡ d i
      row i l (inr h) = begun_row i l h
      row i l (inl a) = zero_row i (leads r n m d) a ∙ sym (is_false (d i) (λ u. false≢true (sym e ∙ is_true (contradicts r n m d) (any_in r (λ q. d q && eqb (lead m n q) n) i l (and_in (d i) (eqb (lead m n i) n) u (rw a (eqb_refl n)))))))

      avoid : (j : ℕ) → IsDependent (plain r m) j → (i : ℕ) × (i < r) × T (d i) × (lead m n i ≡ j) → j < n → ⊥
      avoid j (y, q) (i, l, u, a) h =
          both_ways (m i j) (rw a at (lowest_here n (m i) (rw a h))) (sym (q i l tt) ∙ parity_none j (λ k. m i k && y k) (λ k g. rw (lowest_none n (m i) k (rw a g))))

  -- what is read off is the answer, or that there is none
  pub read_off_lem : read_off r n m d ≡ solve (plain r m) n d
  read_off_lem = sym (solve_is (plain r m) n d (read_off r n m d) (read_right (contradicts r n m d) refl))

-- a column is a pivot exactly if some row begins there
pub pivots_lead : (r n : ℕ) (m : ℕ → ℕ → Bool) → IsReduced r n m → (k : ℕ) → k < n → pivot (plain r m) k ≡ any_below r (λ i. eqb (lead m n i) k)
pivots_lead r n m red k l =
    ap (λ o. not (is_some o)) (sym (read_off_lem r k m (reduced_fewer r k n m (omega arith) red) (λ i. m i k)))
    ∙ not_read (contradicts r k m (λ i. m i k)) (leads r k m (λ i. m i k))
    ∙ any_ext r (λ i. m i k && eqb (lead m k i) k) (λ i. eqb (lead m n i) k) (λ i g. beq_eq (m i k && eqb (lead m k i) k) (eqb (lead m n i) k) (there i) (back i))
  where
    not_read : (c : Bool) (x : ℕ → Bool) → not (is_some (cond c none (some x))) ≡ c
    not_read true x = refl
    not_read false x = refl

    there : (i : ℕ) → T (m i k && eqb (lead m k i) k) → T (eqb (lead m n i) k)
    there i t =
        let e : lead m k i ≡ k = eqb→eq (lead m k i) k (and_r (m i k) (eqb (lead m k i) k) t) in
        rw (lowest_unique n (m i) k (omega arith) (λ j g. lowest_none k (m i) j (rw e g)) (λ g. is_true (m i k) (and_l (m i k) (eqb (lead m k i) k) t))) (eqb_refl k)

    back : (i : ℕ) → T (eqb (lead m n i) k) → T (m i k && eqb (lead m k i) k)
    back i t =
        let e : lead m n i ≡ k = eqb→eq (lead m n i) k t in
        and_in (m i k) (eqb (lead m k i) k) (from_true (m i k) (rw e at (lowest_here n (m i) (rw e l))))
        (rw (lowest_unique k (m i) k (le_refl k) (λ j g. lowest_none n (m i) j (rw e g)) (λ h. absurd (none h))) (eqb_refl k))
      where
        none : k < k → ⊥
        none h = omega arith
