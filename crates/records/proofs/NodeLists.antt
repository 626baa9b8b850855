-- Lists of nodes: a list that rises is the list of its members, and one in any order has as many members as elements just where none stands twice.
use Prim.Native.Nat.{ℕ, suc, ◌+◌, ◌≤◌, ◌<◌}
use mathlib.Core.Path.{◌≡◌, refl, sym, ap, ap₂, ◌∙◌}
use mathlib.Core.Bool.{Bool, true, false, cond, not, ◌&&◌, ◌||◌}
use mathlib.Core.List.{List, [], ◌∷◌}
use native.Mathlib.Omega.{arith}
use native.Mathlib.Nat.{le_refl}
use native.Mathlib.Decide.{ℕ_discrete}
use borrow.Author.Tests.{ltb-true, lt-ltb, ne_eqb}
use mathlib.Core.Logic.{◌⊎◌, inl, inr}
use lib.Dec.{T, eqb, ltb, eqb→eq, eqb-suc-suc}
use lib.ListN.{length}
use Rattle.nodes.specs.Row.{count, members}
use Rattle.nodes.specs.Lists.{has, all}
use Rattle.nodes.proofs.Logic.{and_out, is_false, from_true, from_false, or_l, or_r, or_out, eqb_yes, and_none}
use Rattle.nodes.proofs.Count.{count_ext, count_none}
use Rattle.nodes.proofs.Remove.{removed, removed_same, removed_other, count_remove}
use Rattle.records.specs.JobFile.{nodes_below, rises}
use Rattle.records.specs.JobLists.{once}
use Rattle.records.proofs.JobFile.{rises_out, rises_in, has_below}
use Rattle.records.proofs.Writing.{members-has, members_rise}

-- ---- members of a list
first_in : (x : ℕ) (l : List ℕ) → T (has (x ∷ l) x)
unfolding has
first_in x l = or_l (eqb x x) (has l x) (from_true (eqb x x) (eqb_yes x))

-- what each member passes, all elements pass
pub has-all : (f : ℕ → Bool) (l : List ℕ) → ((u : ℕ) → T (has l u) → f u ≡ true) → all f l ≡ true
unfolding all has
has-all f [] h = refl
has-all f (x ∷ l) h = rw (h x (first_in x l), has-all f l (λ u t. h u (or_r (eqb x u) (has l u) t)))

-- ---- a list that rises is the list of its members
pub rises_least : (low : ℕ) (l : List ℕ) (u : ℕ) → rises low l ≡ true → T (has l u) → low ≤ u
unfolding has
rises_least low [] u r t = absurd t
rises_least low (x ∷ l) u r t =
    let (p, q) = rises_out low x l r in
    by p (or_out (eqb x u) (has l u) t) (rises_least (x + 1) l u q)
  where
    by : low ≤ x → T (eqb x u) ⊎ T (has l u) → (T (has l u) → x + 1 ≤ u) → low ≤ u
    by p (inl e) ih = rw (← eqb→eq x u e) p
    by p (inr e) ih = let h = ih e in omega arith

-- without its first element, which is less than all others
without_first : (x : ℕ) (l : List ℕ) → rises (x + 1) l ≡ true → (u : ℕ) → removed (has (x ∷ l)) x u ≡ has l u
unfolding has
without_first x l r u = by (ℕ_discrete u x)
  where
    by : Dec (u ≡ x) → removed (has (x ∷ l)) x u ≡ has l u
    by (yes e) = rw e (removed_same (has (x ∷ l)) x ∙ sym (is_false (has l x) (λ t. let h = rises_least (x + 1) l x r t in omega arith)))
    by (no n) = removed_other (has (x ∷ l)) x u n ∙ rw (ne_eqb x u (λ e. n (sym e)))

first_least : (low x : ℕ) (l : List ℕ) (u : ℕ) → rises low (x ∷ l) ≡ true → T (has (x ∷ l) u) → x ≤ u
first_least low x l u r t = rises_least x (x ∷ l) u (rises_in x x l (le_refl x) ∙ (rises_out low x l r).1) t

-- two lists that rise and have the same members are the same
pub rising_same : (low from : ℕ) (l m : List ℕ) → rises low l ≡ true → rises from m ≡ true → ((u : ℕ) → has l u ≡ has m u) → l ≡ m
unfolding has
rising_same low from [] [] r q h = refl
rising_same low from [] (y ∷ m) r q h = absurd (from_false (has (y ∷ m) y) (sym (h y)) (first_in y m))
rising_same low from (x ∷ l) [] r q h = absurd (from_false (has (x ∷ l) x) (h x) (first_in x l))
rising_same low from (x ∷ l) (y ∷ m) r q h =
    ap₂ ◌∷◌ same (rising_same (x + 1) (y + 1) l m (rises_out low x l r).1 (rises_out from y m q).1 rest)
  where
    same : x ≡ y
    same = omega (arith, first_least low x l y r (rw (h y) (first_in y m)), first_least from y m x q (rw (← h x) (first_in x l)))

    rest : (u : ℕ) → has l u ≡ has m u
    rest u =
        sym (without_first x l (rises_out low x l r).1 u)
        ∙ ap₂ (λ (b : Bool) (v : ℕ). b && not (eqb u v)) (h u) same
        ∙ without_first y m (rises_out from y m q).1 u

-- nodes below n are all among the members below n
pub members_same : (n : ℕ) (l : List ℕ) → nodes_below n l ≡ true → (u : ℕ) → has (members n (has l)) u ≡ has l u
members_same n l b u = members-has n (has l) u ∙ by (has l u) refl
  where
    by : (c : Bool) → has l u ≡ c → ltb u n && c ≡ c
    by true e = rw (lt-ltb u n (has_below n l u b (from_true (has l u) e)))
    by false e = and_none (ltb u n)

pub rising_members : (n : ℕ) (l : List ℕ) → nodes_below n l ≡ true → rises 0 l ≡ true → members n (has l) ≡ l
rising_members n l b r = rising_same 0 0 (members n (has l)) l (members_rise n (has l)) r (members_same n l b)

-- ---- how many members a list has
-- x is counted where it is new
count_more : (n x : ℕ) (s : ℕ → Bool) → x < n → count n (λ u. eqb x u || s u) ≡ cond (s x) (count n s) (suc (count n s))
count_more n x s h = by (s x) refl
  where
    by : (c : Bool) → s x ≡ c → count n (λ u. eqb x u || s u) ≡ cond c (count n s) (suc (count n s))
    by true e = count_ext n (λ u. eqb x u || s u) s (λ u l. same u (ℕ_discrete x u))
      where
        same : (u : ℕ) → Dec (x ≡ u) → eqb x u || s u ≡ s u
        same u (yes p) = rw (← p, eqb_yes x, e)
        same u (no d) = rw (ne_eqb x u d)
    by false e =
        count_remove n (λ u. eqb x u || s u) x h (rw (eqb_yes x) tt)
        ∙ ap suc (count_ext n (removed (λ u. eqb x u || s u) x) s (λ u l. same u (ℕ_discrete u x)))
      where
        same : (u : ℕ) → Dec (u ≡ x) → removed (λ u. eqb x u || s u) x u ≡ s u
        same u (yes p) = rw (p, removed_same (λ u. eqb x u || s u) x, e)
        same u (no d) = removed_other (λ u. eqb x u || s u) x u d ∙ rw (ne_eqb x u (λ p. d (sym p)))

-- as many as it has elements where it rises
pub has-count : (n low : ℕ) (l : List ℕ) → nodes_below n l ≡ true → rises low l ≡ true → count n (has l) ≡ length l
unfolding all has
has-count n low [] b r = count_none n (has []) (λ k h t. t)
has-count n low (x ∷ l) b r =
    let (p, q) = and_out (ltb x n) (nodes_below n l) b in
    let h = (rises_out low x l r).1 in
    let new : has l x ≡ false = is_false (has l x) (λ t. let k = rises_least (x + 1) l x h t in omega arith) in
    count_more n x (has l) (ltb-true x n p) ∙ rw new (ap suc (has-count n (x + 1) l q h))

-- at most as many as it has elements
pub count_most : (n : ℕ) (l : List ℕ) → nodes_below n l ≡ true → count n (has l) ≤ length l
unfolding has all
count_most n [] b = omega (arith, count_none n (has []) (λ k h t. t))
count_most n (x ∷ l) b = let (p, q) = and_out (ltb x n) (nodes_below n l) b in rw (count_more n x (has l) (ltb-true x n p)) (by (has l x) (count_most n l q))
  where
    by : (c : Bool) → count n (has l) ≤ length l → cond c (count n (has l)) (suc (count n (has l))) ≤ suc (length l)
    by true h = omega arith
    by false h = omega arith

-- just as many where none stands twice
pub once-count : (n : ℕ) (l : List ℕ) → nodes_below n l ≡ true → eqb (count n (has l)) (length l) ≡ once l
unfolding has all once
once-count n [] b = rw (count_none n (has []) (λ k h t. t))
once-count n (x ∷ l) b =
    let (p, q) = and_out (ltb x n) (nodes_below n l) b in
    rw (count_more n x (has l) (ltb-true x n p)) (by (has l x) (count_most n l q) (once-count n l q))
  where
    by : (c : Bool) → count n (has l) ≤ length l → eqb (count n (has l)) (length l) ≡ once l
        → eqb (cond c (count n (has l)) (suc (count n (has l)))) (suc (length l)) ≡ not c && once l
    by true h e = ne_eqb (count n (has l)) (suc (length l)) (λ z. omega arith)
    by false h e = eqb-suc-suc (count n (has l)) (length l) ∙ e
