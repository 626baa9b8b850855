-- A set is walked through, the least of what is left at a time, and a number counts along: it is the rank of the member at hand. Serves Row.
use Prim.Native.Nat.{ℕ, ◌+◌, ◌≤◌, ◌<◌}
use mathlib.Core.Path.{◌≡◌, sym, subst, ap, ◌∙◌}
use mathlib.Core.Bool.{Bool, not, true, false}
use mathlib.Core.Logic.{◌≢◌, ◌⊎◌, inl, inr}
use native.Mathlib.Omega.{arith}
use native.Mathlib.Nat.{zero-add}
use native.Mathlib.Numerals.{lt_of_le_of_ne}
use lib.Dec.{T, eqb}
use Rattle.nodes.specs.Row.{any_below, count, lowest}
use Rattle.nodes.proofs.Logic.{and_l, and_r, not_out, from_false, lt_or_ge, eqb_yes, unless_in, unless_out}
use Rattle.nodes.proofs.Count.{count_none, rank_lt}
use Rattle.nodes.proofs.Members.{lowest_none, lowest_some, lowest_member}
use Rattle.nodes.proofs.Remove.{removed, count_remove, count-lowest}
use Rattle.nodes.specs.NodeSet.{member, capacity}
use mathlib.Core.List.{List}
use Rattle.nodes.proofs.Row.{any_in}
use Rattle.nodes.proofs.NodeSet.{member-lt}

-- i members of `all` are done, `left` are the others
pub record IsWalk (all left : ℕ → Bool) (i : ℕ) : Type 0 where
  pub within : (u : ℕ) → T (left u) → T (all u)
  pub rank : (u : ℕ) → T (left u) → count u all ≡ i + count u left

pub walk_start : (all : ℕ → Bool) → IsWalk all all 0
walk_start all = record { within = λ u t. t; rank = λ u t. sym (zero-add (count u all)) }

module _ (n : ℕ) (all left : ℕ → Bool) (i : ℕ) (walk : IsWalk all left i) (some : T (any_below n left)) where
  abbrev v : ℕ
  v = lowest n left

  -- the member at hand
  pub walk_rank : count v all ≡ i
  walk_rank =
      let none : count v left ≡ 0 = count_none v left (λ k l t. from_false (left k) (lowest_none n left k l) t) in
      let at = walk.rank v (lowest_member n left some) in omega arith

  pub walk_room : i < count n all
  walk_room =
      let l = rank_lt v n all (lowest_some n left some) (walk.within v (lowest_member n left some)) in
      let e = walk_rank in omega arith

  pub walk_step : (rest : ℕ → Bool) → rest ≡ removed left v → IsWalk all rest (i + 1)
  walk_step rest e = subst (λ (f : ℕ → Bool). IsWalk all f (i + 1)) (sym e) record {
    within = λ u t. walk.within u (and_l (left u) (not (eqb u v)) t);
    rank = λ u t. by u (and_l (left u) (not (eqb u v)) t) (λ z. not_out (eqb u v) (and_r (left u) (not (eqb u v)) t) (subst (λ (x : ℕ). T (eqb u x)) z (same u))) (lt_or_ge v u);
  }
    where
      same : (u : ℕ) → T (eqb u u)
      same u = subst T (sym (eqb_yes u)) tt

      by : (u : ℕ) → T (left u) → u ≢ v → (v < u) ⊎ (u ≤ v) → count u all ≡ i + 1 + count u (removed left v)
      by u t d (inl l) = let a = walk.rank u t in let b = count_remove u left v l (lowest_member n left some) in omega arith
      by u t d (inr l) = absurd (from_false (left u) (lowest_none n left u (less d l)) t)
        where
          less : u ≢ v → u ≤ v → u < v
          less d l = lt_of_le_of_ne l d

-- ---- a loop over a set of nodes, where r is the code's test whether none is left
module _ (left : List ℕ) (r : Bool) (e : r ≡ not (any_below capacity (member left))) where
  pub left_none : not r ≡ false → (v : ℕ) → T (member left v) → ⊥
  left_none f v t = unless_out r (any_below capacity (member left)) e f (any_in capacity (member left) v (member-lt left v t) t)

  pub some_left : not r ≡ true → T (any_below capacity (member left))
  some_left f = unless_in r (any_below capacity (member left)) e f

  module _ (f : not r ≡ true) (u : ℕ) (l : u ≡ lowest capacity (member left)) where
    pub lowest_left : T (member left u)
    lowest_left = rw l (lowest_member capacity (member left) (some_left f))

    pub lowest_small : u < capacity
    lowest_small = member-lt left u lowest_left

    module _ (next : ℕ → Bool) (g : next ≡ removed (member left) (lowest capacity (member left))) where
      pub next-left : next ≡ removed (member left) u
      next-left = g ∙ ap (removed (member left)) (sym l)

      pub fewer_left : count capacity next < count capacity (member left)
      fewer_left = omega (arith, count-lowest capacity (member left) (some_left f), ap (count capacity) g)

      pub still_left : (v : ℕ) → T (next v) → T (member left v)
      still_left v t = and_l (member left v) (not (eqb v (lowest capacity (member left)))) (rw g at t)
