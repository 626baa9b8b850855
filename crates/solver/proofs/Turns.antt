-- One turn more of a loop, and one number more looked at. Serves the loops of the solver.
use mathlib.Core.Path.{◌≡◌, refl, sym, ap, ◌∙◌}
use mathlib.Core.Bool.{Bool, true, false, cond}
use Prim.Native.Nat.{ℕ, suc, ◌+◌, ◌-◌, ◌<◌, ◌≤◌}
use native.Mathlib.Nat.{sub-eq-zero_of_le}
use native.Mathlib.Numerals.{add-one}
use native.Mathlib.Omega.{arith}
use borrow.Author.Tests.{lt-ltb, le-ltb}
use lib.Dec.{ltb}
use Rattle.nodes.specs.Row.{lowest_from, any_below, all_below}
use Rattle.nodes.proofs.Logic.{is_true, is_false, from_true, from_false}
use Rattle.nodes.proofs.Row.{any_in, all_out}
use Rattle.solver.specs.Steps.{turns, State, find_pivot, pivot_to, eliminate_column}

pub turns_none : {A : Type 0} (f : ℕ → A → A) (a : A) → a ≡ turns f 0 a
unfolding turns
turns_none f a = refl

pub turns_more : {A : Type 0} (f : ℕ → A → A) (n : ℕ) (a b : A) → b ≡ turns f n a → f n b ≡ turns f (n + 1) a
unfolding turns
turns_more f n a b e = rw add-one (ap (f n) e)

-- ---- a search from k on, below n
module _ (p : ℕ → Bool) where
  pub first_here : (k n : ℕ) → k < n → p k ≡ true → lowest_from k (n - k) p ≡ k
  unfolding lowest_from
  first_here k n l t =
      let e : n - k ≡ suc (n - (k + 1)) = omega arith in
      ap (λ (d : ℕ). lowest_from k d p) e ∙ ap (λ (b : Bool). cond b k (lowest_from (k + 1) (n - (k + 1)) p)) t

  pub first_next : (k n : ℕ) → k < n → p k ≡ false → lowest_from k (n - k) p ≡ lowest_from (k + 1) (n - (k + 1)) p
  unfolding lowest_from
  first_next k n l t =
      let e : n - k ≡ suc (n - (k + 1)) = omega arith in
      ap (λ (d : ℕ). lowest_from k d p) e ∙ ap (λ (b : Bool). cond b k (lowest_from (k + 1) (n - (k + 1)) p)) t

  pub first_none : (k n : ℕ) → n ≤ k → lowest_from k (n - k) p ≡ k
  unfolding lowest_from
  first_none k n l = ap (λ (d : ℕ). lowest_from k d p) (sub-eq-zero_of_le l)

-- ---- a question of each number below n
module _ (p : ℕ → Bool) where
  pub any_here : (n k : ℕ) → k < n → p k ≡ true → any_below n p ≡ true
  any_here n k l t = is_true (any_below n p) (any_in n p k l (from_true (p k) t))

  pub any_more : (k : ℕ) → any_below k p ≡ false → p k ≡ false → any_below (k + 1) p ≡ false
  unfolding any_below
  any_more k e t = rw (add-one k, t) e

  pub all_here_not : (n k : ℕ) → k < n → p k ≡ false → all_below n p ≡ false
  all_here_not n k l t = is_false (all_below n p) (λ a. from_false (p k) t (all_out n p a k l))

  pub all_more : (k : ℕ) → all_below k p ≡ true → p k ≡ true → all_below (k + 1) p ≡ true
  unfolding all_below
  all_more k e t = rw (add-one k, t) e

  pub any_start : any_below 0 p ≡ false
  unfolding any_below
  any_start = refl

  pub all_start : all_below 0 p ≡ true
  unfolding all_below
  all_start = refl

-- ---- one column, by the row that is found
module _ (w n col : ℕ) (s : State) (p : ℕ) (e : p ≡ find_pivot w n col s) where
  pub column_none : n ≤ p → s ≡ eliminate_column w n col s
  unfolding eliminate_column
  column_none h =
      sym (ap (λ (b : Bool). cond b (pivot_to w n col s.rank (find_pivot w n col s) s.rows) s) (ap (λ (k : ℕ). ltb k n) (sym e) ∙ le-ltb p n h))

  pub column_some : p < n → pivot_to w n col s.rank p s.rows ≡ eliminate_column w n col s
  unfolding eliminate_column
  column_some h =
      ap (λ (k : ℕ). pivot_to w n col s.rank k s.rows) e
      ∙ sym (ap (λ (b : Bool). cond b (pivot_to w n col s.rank (find_pivot w n col s) s.rows) s) (ap (λ (k : ℕ). ltb k n) (sym e) ∙ lt-ltb p n h))
