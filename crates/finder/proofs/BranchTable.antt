-- The branches of a measurement by its number. Serves `branches` and `try_for`.
use Prim.Native.Nat.{ℕ, zero, suc, ◌+◌, ◌-◌, ◌≤◌, ◌<◌}
use mathlib.Core.Path.{◌≡◌, refl, sym, ap, ◌∙◌}
use mathlib.Core.Bool.{Bool, true, false, cond, ◌&&◌}
use mathlib.Core.Logic.{◌⊎◌, inl, inr}
use mathlib.Core.Option.{Option, none, some}
use mathlib.Core.List.{List, [], ◌∷◌}
use native.Mathlib.Omega.{arith}
use lib.ListN.{length, get_or, drop, get_or-eq_default}
use lib.Dec.{leb, le→leb}
use Rattle.answers.specs.Answer.{Answer, gives, refuses, refusal, Refusal}
use Rattle.answers.proofs.Answer.{give_inj, never}
use Rattle.nodes.proofs.Logic.{is_true, and_in, lt_or_ge}
use Rattle.nodes.specs.Options.{option_or}
use Rattle.flows.specs.Job.{Job, plane_xy, pauli_z}
use Rattle.flows.specs.Numbers.{measurement_of}
use Rattle.flows.specs.Branch.{Context, branch_table, branches, try_branch, first_solvable}

none_below : (m : ℕ) → m < 1 → branches m ≡ []
unfolding branches
none_below m l = let e : m ≡ 0 = omega arith in rw e

none_above : (m : ℕ) → 6 < m → branches m ≡ []
unfolding branches
none_above zero l = absurd (bad l)
  where
    bad : 6 < 0 → ⊥
    bad l = omega arith
none_above (suc m) l = let h : length branch_table ≤ m = omega arith in get_or-eq_default branch_table [] h

-- a byte that is read as a measurement is its number
pub read_number : (x n : ℕ) → ◌≡◌ {A = Answer ℕ} (gives x) (measurement_of n) → x ≡ n
read_number x n e = by (leb plane_xy n && leb n pauli_z) e
  where
    by : (b : Bool) → ◌≡◌ {A = Answer ℕ} (gives x) (cond b (gives n) (refuses (refusal 7))) → x ≡ n
    by true e = give_inj e
    by false e = absurd (never (sym e))

-- one that is not has no branch
pub unread : (r : Refusal) (n : ℕ) → ◌≡◌ {A = Answer ℕ} (refuses r) (measurement_of n) → branches n ≡ []
unread r n e = by (lt_or_ge n 1) (lt_or_ge 6 n)
  where
    by : (n < 1) ⊎ (1 ≤ n) → (6 < n) ⊎ (n ≤ 6) → branches n ≡ []
    by (inl l) d = none_below n l
    by (inr l) (inl h) = none_above n h
    by (inr l) (inr h) =
        absurd (never (e ∙ ap (λ (b : Bool). cond b (gives n) (refuses (refusal 7))) (is_true (leb plane_xy n && leb n pauli_z) (and_in (leb plane_xy n) (leb n pauli_z) (le→leb 1 n l) (le→leb n 6 h)))))

-- ---- a walk through the branches, of which the first k have no solution
module _ (j : Job) (c : Context) (u : ℕ) where
  pub first_here : (bs : List ℕ) (k b : ℕ) → k < length bs → b ≡ get_or bs k 0 → first_solvable j c u (drop k bs) ≡ option_or (try_branch j c u b) (first_solvable j c u (drop (k + 1) bs))
  unfolding first_solvable
  first_here [] k b h e = absurd (omega arith)
  first_here (x ∷ bs) zero b h e = ap (λ (y : ℕ). option_or (try_branch j c u y) (first_solvable j c u bs)) (sym e)
  first_here (x ∷ bs) (suc k) b h e =
      let n : suc k + 1 ≡ suc (k + 1) = omega arith in
      first_here bs k b (omega arith) e ∙ ap (λ (i : ℕ). option_or (try_branch j c u b) (first_solvable j c u (drop i (x ∷ bs)))) (sym n)

  pub first_past : (bs : List ℕ) (k : ℕ) → length bs ≤ k → first_solvable j c u (drop k bs) ≡ none
  unfolding first_solvable
  first_past [] zero h = refl
  first_past [] (suc k) h = refl
  first_past (x ∷ bs) zero h = absurd (omega arith)
  first_past (x ∷ bs) (suc k) h = first_past bs k (omega arith)

pub alone : (o : Option (ℕ → Bool)) → option_or o none ≡ o
alone none = refl
alone (some x) = refl
