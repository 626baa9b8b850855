-- One try of a branch: it gives a set exactly where some set fits, and the set that it gives fits.
use Prim.Native.Nat.{ℕ, ◌+◌, ◌-◌, ◌≤◌, ◌<◌}
use mathlib.Core.Path.{◌≡◌, refl, sym, ap, ◌∙◌}
use mathlib.Core.Bool.{Bool, true, false, cond, not, ◌&&◌, ◌||◌}
use mathlib.Core.Logic.{◌⊎◌, inl, inr}
use mathlib.Core.Option.{Option, none, some}
use native.Mathlib.Omega.{arith}
use native.Mathlib.Nat.{add-sub_cancel_left}
use lib.Dec.{T, eqb, ltb, eqb→eq, ltb→lt, nltb→le}
use Rattle.nodes.specs.Bit.{◌⊕◌}
use Rattle.nodes.specs.Row.{parity}
use Rattle.nodes.proofs.Logic.{is_true, is_false, from_true, dec, and_l, and_r, or_out, not_in, not_out, eqb_no, eqb_yes, and_none, and_all, and_comm, or_false, ⊕_none, ⊕-&&}
use Rattle.nodes.proofs.Row.{parity_ext, parity-⊕, parity_one, ltb_yes, ltb_no}
use Rattle.nodes.specs.Options.{is_some}
use Rattle.solver.specs.System.{Solves, IsBasicSolution, solve}
use Rattle.solver.proofs.System.{solvable_some}
use Rattle.flows.specs.Job.{Job, odd}
use Rattle.flows.specs.Branch.{Context, in_set, in_odd, entry_at, system_at, side_at, with_node, try_branch}

-- a bit with and without c
split_bit : (e a c : Bool) → e && a ≡ e && (a && not c) ⊕ (e && a && c)
split_bit true true true = refl
split_bit true true false = refl
split_bit true false c = refl
split_bit false a c = refl

drop_column : (c e x : Bool) → (T x → T c) → c && (e && x) ≡ e && x
drop_column true e x f = refl
drop_column false true true f = absurd (f tt)
drop_column false true false f = refl
drop_column false false x f = refl

-- taking out what was put in
pub put_out : (x c q : Bool) → (T q → x ≡ false) → (x || c && q) && not q ≡ x
put_out true c true f = sym (f tt)
put_out true c false f = refl
put_out false true true f = refl
put_out false true false f = refl
put_out false false q f = refl

⊕_move : (a b c : Bool) → c ≡ a ⊕ b → a ≡ c ⊕ b
⊕_move true true c e = rw e
⊕_move true false c e = rw e
⊕_move false true c e = rw e
⊕_move false false c e = rw e

⊕_around : (a c : Bool) → (a ⊕ c) ⊕ a ≡ c
⊕_around true true = refl
⊕_around true false = refl
⊕_around false true = refl
⊕_around false false = refl

⊕_solve : (o x c : Bool) → o ⊕ x ≡ c → o ⊕ c ≡ x
⊕_solve true true c e = rw (← e)
⊕_solve true false c e = rw (← e)
⊕_solve false true c e = rw (← e)
⊕_solve false false c e = rw (← e)

⊕_back : (c a : Bool) → c ⊕ a ⊕ a ≡ c
⊕_back true true = refl
⊕_back true false = refl
⊕_back false true = refl
⊕_back false false = refl

module _ (j : Job) where
  -- Odd of a set, with one member apart
  pub odd_split : (s : ℕ → Bool) (i v : ℕ) → i < j.nodes → odd j s v ≡ odd j (λ k. s k && not (eqb k i)) v ⊕ (s i && j.edge i v)
  odd_split s i v h =
      parity_ext j.nodes (λ k. j.edge k v && s k) (λ k. j.edge k v && (s k && not (eqb k i)) ⊕ (j.edge k v && s k && eqb k i)) (λ k l. split_bit (j.edge k v) (s k) (eqb k i))
      ∙ parity-⊕ j.nodes (λ k. j.edge k v && (s k && not (eqb k i))) (λ k. j.edge k v && s k && eqb k i)
      ∙ rw (parity_one j.nodes i (λ k. j.edge k v && s k) h, and_comm (j.edge i v) (s i))

  -- v and its neighbours
  pub odd_own : (x : ℕ → Bool) (v : ℕ) → v < j.nodes → parity j.nodes (λ k. (j.edge k v ⊕ eqb k v) && x k) ≡ odd j x v ⊕ x v
  odd_own x v h =
      parity_ext j.nodes (λ k. (j.edge k v ⊕ eqb k v) && x k) (λ k. j.edge k v && x k ⊕ (x k && eqb k v))
      (λ k l. ⊕-&& (j.edge k v) (eqb k v) (x k) ∙ rw (and_comm (eqb k v) (x k)))
      ∙ parity-⊕ j.nodes (λ k. j.edge k v && x k) (λ k. x k && eqb k v)
      ∙ rw (parity_one j.nodes v x h)

  module _ (c : Context) (u b : ℕ) where
    -- what a set of u must be
    pub record Fits (set : ℕ → Bool) : Type 0 where
      pub taken : (k : ℕ) → k < j.nodes → T (set k) → (k ≡ u) ⊎ T (c.column k)
      pub ups : (v : ℕ) → v < j.nodes → T (c.upper v) → odd j set v ≡ eqb v u && in_odd b
      pub lows : (v : ℕ) → v < j.nodes → T (c.lower v) → odd j set v ≡ set v
      pub self : set u ≡ in_set b

    -- the sums of an upper and of a lower row, for any x that takes columns only
    module _ (x : ℕ → Bool) (inside : (k : ℕ) → k < j.nodes → T (x k) → T (c.column k)) where
      upper_sum : (v : ℕ) → parity j.nodes (λ k. c.column k && (j.edge k v && x k)) ≡ odd j x v
      upper_sum v = parity_ext j.nodes (λ k. c.column k && (j.edge k v && x k)) (λ k. j.edge k v && x k) (λ k m. drop_column (c.column k) (j.edge k v) (x k) (inside k m))

      lower_sum : (v : ℕ) → v < j.nodes → parity j.nodes (λ k. c.column k && ((j.edge k v ⊕ eqb k v) && x k)) ≡ odd j x v ⊕ x v
      lower_sum v l =
          parity_ext j.nodes (λ k. c.column k && ((j.edge k v ⊕ eqb k v) && x k)) (λ k. (j.edge k v ⊕ eqb k v) && x k)
          (λ k m. drop_column (c.column k) (j.edge k v ⊕ eqb k v) (x k) (inside k m))
          ∙ odd_own x v l

    module _ (h : u < j.nodes) (no_lower : T (c.lower u) → ⊥) where
      not_u : (v : ℕ) → T (c.lower v) → eqb v u ≡ false
      not_u v t = is_false (eqb v u) (λ q. no_lower (rw (eqb→eq v u q) at t))

      no_row : (i : ℕ) → j.nodes ≤ i → eqb i u ≡ false
      no_row i g = eqb_no i u (omega arith)

      -- a set that fits, without u, solves the equations
      module _ (set : ℕ → Bool) (fits : Fits set) where
        abbrev x : ℕ → Bool
        x k = set k && not (eqb k u)

        x_inside : (k : ℕ) → k < j.nodes → T (set k && not (eqb k u)) → T (c.column k)
        x_inside k l t = go (fits.taken k l (and_l (set k) (not (eqb k u)) t))
          where
            go : (k ≡ u) ⊎ T (c.column k) → T (c.column k)
            go (inl e) = absurd (not_out (eqb k u) (and_r (set k) (not (eqb k u)) t) (rw e (from_true (eqb u u) (eqb_yes u))))
            go (inr q) = q

        odd_x : (v : ℕ) → odd j x v ≡ odd j set v ⊕ (in_set b && j.edge u v)
        odd_x v = ⊕_move (odd j x v) (in_set b && j.edge u v) (odd j set v) (odd_split set u v h ∙ rw fits.self)

        pub fits_solves : Solves (system_at j c) j.nodes (side_at j u b) x
        fits_solves i l = go (dec (ltb i j.nodes))
          where
            go : T (ltb i j.nodes) ⊎ (T (ltb i j.nodes) → ⊥) → T (cond (ltb i j.nodes) (c.upper i) (c.lower (i - j.nodes)))
                → parity j.nodes (λ k. c.column k && (entry_at j i k && x k)) ≡ (eqb i u && in_odd b) ⊕ (in_set b && entry_at j i u)
            go (inl t) =
                rw (is_true (ltb i j.nodes) t)
                (λ r. upper_sum x x_inside i ∙ odd_x i ∙ rw (fits.ups i (ltb→lt i j.nodes t) r))
            go (inr f) =
                let g : j.nodes ≤ i = nltb→le i j.nodes (not_in (ltb i j.nodes) f) in
                rw (is_false (ltb i j.nodes) f)
                (λ r. let m : i - j.nodes < j.nodes = omega arith in
                lower_sum x x_inside (i - j.nodes) m
                ∙ rw (odd_x (i - j.nodes), fits.lows (i - j.nodes) m r, not_u (i - j.nodes) r, and_all (set (i - j.nodes)), no_row i g, eqb_no u (i - j.nodes) (λ e. differ e r), ⊕_none (j.edge u (i - j.nodes)))
                (⊕_around (set (i - j.nodes)) (in_set b && j.edge u (i - j.nodes))))
              where
                differ : u ≡ i - j.nodes → T (c.lower (i - j.nodes)) → ⊥
                differ e r = no_lower (rw e r)

        pub fits_some : T (is_some (try_branch j c u b))
        fits_some = go (solve (system_at j c) j.nodes (side_at j u b)) (solvable_some (system_at j c) j.nodes (side_at j u b) x fits_solves)
          where
            go : (o : Option (ℕ → Bool)) → T (is_some o) → T (is_some (with_node (in_set b) u o))
            go none t = t
            go (some y) t = tt

      -- an answer, with u where the branch has it, fits
      module _ (no_column : T (c.column u) → ⊥) (x : ℕ → Bool) (a : IsBasicSolution (system_at j c) j.nodes (side_at j u b) x) where
        abbrev whole : ℕ → Bool
        whole k = x k || in_set b && eqb k u

        inside : (k : ℕ) → k < j.nodes → T (x k) → T (c.column k)
        inside k l t = (a.within k t).1

        x_u : x u ≡ false
        x_u = is_false (x u) (λ t. no_column (a.within u t).1)

        odd-whole : (v : ℕ) → odd j whole v ≡ odd j x v ⊕ (in_set b && j.edge u v)
        odd-whole v =
            odd_split whole u v h
            ∙ rw (
              parity_ext j.nodes (λ k. j.edge k v && ((x k || in_set b && eqb k u) && not (eqb k u))) (λ k. j.edge k v && x k)
                  (λ k m. ap (λ (q : Bool). j.edge k v && q) (put_out (x k) (in_set b) (eqb k u) (λ t. rw (eqb→eq k u t) x_u))),
              x_u,
              eqb_yes u,
              and_all (in_set b),
            )

        up_row : (v : ℕ) → v < j.nodes → T (c.upper v) → odd j x v ≡ eqb v u && in_odd b ⊕ in_set b && j.edge u v
        up_row v l t =
            let e : ltb v j.nodes ≡ true = ltb_yes v j.nodes l in
            let r : T (cond (ltb v j.nodes) (c.upper v) (c.lower (v - j.nodes))) = rw e t in
            sym (upper_sum x inside v) ∙ (rw e at (a.solves v (omega arith) r))

        low_row : (v : ℕ) → v < j.nodes → T (c.lower v) → odd j x v ⊕ x v ≡ in_set b && j.edge u v
        low_row v l t =
            let e : ltb (j.nodes + v) j.nodes ≡ false = ltb_no (j.nodes + v) j.nodes (omega arith) in
            let r : T (cond (ltb (j.nodes + v) j.nodes) (c.upper (j.nodes + v)) (c.lower (j.nodes + v - j.nodes))) = rw (e, add-sub_cancel_left j.nodes v) t in
            sym (lower_sum x inside v l)
            ∙ (rw (e, add-sub_cancel_left j.nodes v, no_row (j.nodes + v) (omega arith), eqb_no u v (λ q. no_lower (rw q t)), ⊕_none (j.edge u v)) at (a.solves (j.nodes + v) (omega arith) r))

        pub some_fits : Fits whole
        some_fits = record {
          taken = λ k l t. from k l (or_out (x k) (in_set b && eqb k u) t);
          ups = λ v l t. odd-whole v ∙ rw (up_row v l t) (⊕_back (eqb v u && in_odd b) (in_set b && j.edge u v));
          lows = λ v l t. odd-whole v ∙ ⊕_solve (odd j x v) (x v) (in_set b && j.edge u v) (low_row v l t) ∙ own v t;
          self = rw (x_u, eqb_yes u) (and_all (in_set b));
        }
          where
            from : (k : ℕ) → k < j.nodes → T (x k) ⊎ T (in_set b && eqb k u) → (k ≡ u) ⊎ T (c.column k)
            from k l (inl t) = inr (inside k l t)
            from k l (inr t) = inl (eqb→eq k u (and_r (in_set b) (eqb k u) t))

            own : (v : ℕ) → T (c.lower v) → x v ≡ x v || in_set b && eqb v u
            own v t = rw (not_u v t, and_none (in_set b), or_false (x v))
