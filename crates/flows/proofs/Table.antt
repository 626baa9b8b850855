-- The rule of the table of branches in specs/Branch: row m lists, in the order XY, YZ, XZ, exactly the branches whose pair 'in its set,
-- in Odd' passes m's own measurement. It is tested over the whole table at once.
use Prim.Native.Nat.{ℕ, ◌<◌}
use mathlib.Core.Path.{◌≡◌, refl}
use mathlib.Core.Bool.{Bool, true, false, cond, not, ◌&&◌, ◌||◌}
use mathlib.Core.Logic.{◌⊎◌, inl, inr}
use mathlib.Core.List.{List, [], ◌∷◌}
use lib.Dec.{T, eqb, eqb→eq}
use Rattle.nodes.specs.Lists.{has, equal}
use Rattle.nodes.specs.Bit.{◌⊕◌}
use Rattle.nodes.specs.Row.{all_below}
use Rattle.nodes.proofs.Logic.{and_l, and_r, or_out, not_out}
use Rattle.nodes.proofs.Row.{all_out}
use Rattle.flows.specs.Job.{own, plane_xy, plane_yz, plane_xz}
use Rattle.flows.specs.Branch.{branches, in_set, in_odd}

-- the elements that pass
unfoldable pub keep : (ℕ → Bool) → List ℕ → List ℕ
keep p [] = []
keep p (b ∷ bs) = cond (p b) (b ∷ keep p bs) (keep p bs)

abbrev pub ruled : ℕ → List ℕ
ruled m = keep (λ b. own m (in_set b) (in_odd b)) (plane_xy ∷ plane_yz ∷ plane_xz ∷ [])

equal_eq : (l bs : List ℕ) → T (equal l bs) → l ≡ bs
unfolding equal
equal_eq [] [] t = refl
equal_eq [] (b ∷ bs) t = absurd t
equal_eq (a ∷ l) [] t = absurd t
equal_eq (a ∷ l) (b ∷ bs) t = rw (eqb→eq a b (and_l (eqb a b) (equal l bs) t), equal_eq l bs (and_r (eqb a b) (equal l bs) t))

-- the measurements are the numbers below 7
table_test : T (all_below 7 (λ m. equal (branches m) (ruled m)))
unfolding all_below equal branches keep own
table_test = tt

pub table_rule : (m : ℕ) → m < 7 → branches m ≡ ruled m
table_rule m l = equal_eq (branches m) (ruled m) (all_out 7 (λ m. equal (branches m) (ruled m)) table_test m l)

-- ---- what follows for a branch and for a pair
kept_passes : (p : ℕ → Bool) (bs : List ℕ) (b : ℕ) → T (has (keep p bs) b) → T (p b)
unfolding keep has
kept_passes p [] b t = absurd t
kept_passes p (a ∷ bs) b t = go (p a) refl t (kept_passes p bs b)
  where
    go : (c : Bool) → p a ≡ c → T (has (cond c (a ∷ keep p bs) (keep p bs)) b) → (T (has (keep p bs) b) → T (p b)) → T (p b)
    go false e t ih = ih t
    go true e t ih = by (or_out (eqb a b) (has (keep p bs) b) t)
      where
        by : T (eqb a b) ⊎ T (has (keep p bs) b) → T (p b)
        by (inl q) = rw (← eqb→eq a b q, e) tt
        by (inr q) = ih q

pub branch_own : (m b : ℕ) → m < 7 → T (has (branches m) b) → T (own m (in_set b) (in_odd b))
branch_own m b l t = kept_passes (λ b. own m (in_set b) (in_odd b)) (plane_xy ∷ plane_yz ∷ plane_xz ∷ []) b (rw (table_rule m l) at t)

-- the branch of a pair 'in its set, in Odd'; no measurement passes where both are false
abbrev pub branch_of : Bool → Bool → ℕ
branch_of true true = plane_xz
branch_of true false = plane_yz
branch_of false o = plane_xy

pairs : ℕ → Bool → Bool → Bool
pairs m s o = not (own m s o) || has (branches m) (branch_of s o) && (not (s ⊕ in_set (branch_of s o)) && not (o ⊕ in_odd (branch_of s o)))

pairs_test : T (all_below 7 (λ m. pairs m true true && pairs m true false && pairs m false true && pairs m false false))
unfolding all_below pairs branches has own
pairs_test = tt

pairs_at : (m : ℕ) (s o : Bool) → m < 7 → T (pairs m s o)
pairs_at m s o l = go s o (all_out 7 (λ m. pairs m true true && pairs m true false && pairs m false true && pairs m false false) pairs_test m l)
  where
    go : (s o : Bool) → T (pairs m true true && pairs m true false && pairs m false true && pairs m false false) → T (pairs m s o)
    go true true t = and_l (pairs m true true) (pairs m true false) (and_l (pairs m true true && pairs m true false) (pairs m false true) (and_l (pairs m true true && pairs m true false && pairs m false true) (pairs m false false) t))
    go true false t = and_r (pairs m true true) (pairs m true false) (and_l (pairs m true true && pairs m true false) (pairs m false true) (and_l (pairs m true true && pairs m true false && pairs m false true) (pairs m false false) t))
    go false true t = and_r (pairs m true true && pairs m true false) (pairs m false true) (and_l (pairs m true true && pairs m true false && pairs m false true) (pairs m false false) t)
    go false false t = and_r (pairs m true true && pairs m true false && pairs m false true) (pairs m false false) t

equal_bits : (a b : Bool) → T (not (a ⊕ b)) → a ≡ b
equal_bits true true t = refl
equal_bits true false t = absurd t
equal_bits false true t = absurd t
equal_bits false false t = refl

pub own_branch : (m : ℕ) (s o : Bool) → m < 7 → T (own m s o) → T (has (branches m) (branch_of s o)) × (s ≡ in_set (branch_of s o)) × (o ≡ in_odd (branch_of s o))
unfolding pairs
own_branch m s o l t = go (own m s o) (has (branches m) (branch_of s o)) (not (s ⊕ in_set (branch_of s o))) (not (o ⊕ in_odd (branch_of s o))) (equal_bits s (in_set (branch_of s o))) (equal_bits o (in_odd (branch_of s o))) t (pairs_at m s o l)
  where
    go : (a b c d : Bool) → (T c → s ≡ in_set (branch_of s o)) → (T d → o ≡ in_odd (branch_of s o)) → T a → T (not a || b && (c && d)) → T b × (s ≡ in_set (branch_of s o)) × (o ≡ in_odd (branch_of s o))
    go true true true true f g t q = (tt, f tt, g tt)
    go true true true false f g t q = absurd q
    go true true false d f g t q = absurd q
    go true false c d f g t q = absurd q
    go false b c d f g t q = absurd t

-- a right set has a member or an odd neighbour
none_test : T (all_below 7 (λ m. not (own m false false)))
unfolding all_below own
none_test = tt

pub needs_one : (m : ℕ) → m < 7 → T (own m false false) → ⊥
needs_one m l = not_out (own m false false) (all_out 7 (λ m. not (own m false false)) none_test m l)
