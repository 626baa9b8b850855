-- For the job writer: what is left to write of pairs and edges from here on makes the whole.
use Prim.Native.Nat.{ℕ, zero, suc, ◌+◌, ◌*◌, ◌≤◌, ◌<◌}
use mathlib.Core.Path.{◌≡◌, refl, sym, ap, ap₂, ◌∙◌}
use mathlib.Core.Bool.{Bool, true, false, cond, ◌&&◌}
use mathlib.Core.List.{List, [], ◌∷◌, ◌++◌}
use native.Mathlib.Omega.{arith}
use native.Mathlib.Nat.{mul-le-mul}
use borrow.Author.Tests.{le-leb}
use lib.Dec.{leb}
use lib.ListN.{length, length-append}
use Rattle.nodes.specs.Row.{count, members_from, members}
use Rattle.nodes.specs.NodeSet.{highest, capacity}
use Rattle.nodes.specs.Lists.{has}
use Rattle.nodes.proofs.Logic.{is_false, and_all, and_none}
use Rattle.nodes.proofs.Count.{count-le}
use Rattle.nodes.proofs.Members.{members-length, members_ext, members_past}
use Rattle.nodes.proofs.Row.{ltb_yes}
use Rattle.nodes.proofs.Left.{listed, has-members}
use Rattle.records.specs.JobFile.{nodes_below}
use Rattle.records.specs.JobLists.{keep, pairs_with, pairs_among}
use Rattle.records.specs.Splice.{splice}
use Rattle.records.proofs.JobFile.{has_below}
use Rattle.records.proofs.Splice.{splice_next, splice-cons}
use Rattle.records.proofs.PairLists.{with-length, among-length}

-- ---- a table of sets has room for no more
pub among_most : (edge : ℕ → ℕ → Bool) (s : ℕ → Bool) → length (pairs_among edge (members capacity s)) ≤ capacity * capacity
among_most edge s =
    let few : length (members capacity s) ≤ capacity = omega (arith, members-length capacity s, count-le capacity s) in
    omega (arith, among-length edge (members capacity s), mul-le-mul {n₁ = length (members capacity s)} {m₁ = length (members capacity s)} {n₂ = capacity} {m₂ = capacity} few few)

-- ---- of the members of a set those that are in p
keep_from : (p s : ℕ → Bool) (k n : ℕ) → keep p (members_from k n s) ≡ members_from k n (λ u. p u && s u)
unfolding keep members_from
keep_from p s k zero = refl
keep_from p s k (suc n) = by (s k) ∙ ap (λ (l : List ℕ). cond (p k && s k) (k ∷ l) l) (keep_from p s (k + 1) n)
  where
    rest : List ℕ
    rest = members_from (k + 1) n s

    by : (c : Bool) → keep p (cond c (k ∷ rest) rest) ≡ cond (p k && c) (k ∷ keep p rest) (keep p rest)
    by true = ap (λ (b : Bool). cond b (k ∷ keep p rest) (keep p rest)) (sym (and_all (p k)))
    by false = ap (λ (b : Bool). cond b (k ∷ keep p rest) (keep p rest)) (sym (and_none (p k)))

-- ---- no node is left
pub pairs_none : (a : ℕ) (items : List ℕ) → items ≡ [] → pairs_with a items ≡ []
unfolding pairs_with
pairs_none a items e = ap (pairs_with a) e

pub edges_none : (edge : ℕ → ℕ → Bool) (items : List ℕ) → items ≡ [] → pairs_among edge items ≡ []
unfolding pairs_among
edges_none edge items e = ap (pairs_among edge) e

-- ---- node x is visited, and the others are what is left then
module _ (x : ℕ) (items others : List ℕ) (visited : items ≡ x ∷ others) where
  pub pairs_step : (a p : ℕ) (out mid next : List ℕ) → p + 2 * length items ≤ length out → length mid ≡ length out
      → mid ≡ splice p (a ∷ []) out → next ≡ splice (p + 1) (x ∷ []) mid
      → splice (p + 2) (pairs_with a others) next ≡ splice p (pairs_with a items) out
  unfolding pairs_with
  pairs_step a p out mid next h l m n =
      ap (λ (k : ℕ). splice k left next) two ∙ splice-cons (p + 1) x left mid next (omega (arith, room)) n
      ∙ splice-cons p a (x ∷ left) out mid (omega (arith, room)) m ∙ ap (λ (b : List ℕ). splice p (pairs_with a b) out) (sym visited)
    where
      left : List ℕ
      left = pairs_with a others

      two : p + 2 ≡ p + 1 + 1
      two = omega arith

      room : length left + 2 ≡ 2 * length items
      room = omega (arith, with-length a others, ap length visited)

  -- its edges, and those among what is left, the members t of it; u are its neighbours there, of all its neighbours f
  module _ (edge : ℕ → ℕ → Bool) (r t f u : ℕ → Bool) (walk : others ≡ members capacity r) (rest : t ≡ listed others) (all : f ≡ edge x) (near : u ≡ (λ v. f v && t v)) where
    kept : keep (edge x) others ≡ members capacity u
    kept = ap (keep (edge x)) walk ∙ keep_from (edge x) r 0 capacity ∙ members_ext capacity (λ v. edge x v && r v) u same
      where
        left : (v : ℕ) → v < capacity → t v ≡ r v
        left v l = ap (λ (g : ℕ → Bool). g v) rest ∙ ap (λ (m : List ℕ). has m v) walk ∙ has-members capacity r v ∙ ap (λ (b : Bool). b && r v) (ltb_yes v capacity l)

        same : (v : ℕ) → v < capacity → (edge x v && r v) ≡ u v
        same v l = sym (ap (λ (g : ℕ → Bool). g v) near ∙ ap₂ ◌&&◌ (ap (λ (g : ℕ → Bool). g v) all) (left v l))

    edges_split : pairs_among edge items ≡ pairs_with x (members capacity u) ++ pairs_among edge others
    unfolding pairs_among
    edges_split = ap (pairs_among edge) visited ∙ ap (λ (l : List ℕ). pairs_with x l ++ pairs_among edge others) kept

    here : length (pairs_with x (members capacity u)) ≡ 2 * count capacity u
    here = omega (arith, with-length x (members capacity u), members-length capacity u)

    pub edges_length : length (pairs_among edge items) ≡ 2 * count capacity u + length (pairs_among edge others)
    edges_length = omega (arith, ap length edges_split, length-append (pairs_with x (members capacity u)) (pairs_among edge others), here)

    pub edges_step : (p q : ℕ) (out next : List ℕ) → q ≡ p + 2 * count capacity u → p + length (pairs_among edge items) ≤ length out
        → next ≡ splice p (pairs_with x (members capacity u)) out → splice q (pairs_among edge others) next ≡ splice p (pairs_among edge items) out
    edges_step p q out next d h n =
        splice_next p q (pairs_with x (members capacity u)) (pairs_among edge others) out next (omega (arith, here)) (omega (arith, edges_length)) n
        ∙ ap (λ (l : List ℕ). splice p l out) (sym edges_split)

-- ---- the nodes of a list as the code holds them, in a set
pub set_members : (n : ℕ) (l : List ℕ) → n ≤ capacity → nodes_below n l ≡ true → members capacity (λ u. has l u && leb u highest) ≡ members n (has l)
set_members n l h a =
    members_ext capacity (λ u. has l u && leb u highest) (has l) (λ u g. rw (le-leb u highest (omega arith)) (and_all (has l u)))
    ∙ members_past n capacity (has l) h (λ u g. is_false (has l u) (λ t. omega (arith, has_below n l u a t)))

pub set_count : (n : ℕ) (l : List ℕ) → n ≤ capacity → nodes_below n l ≡ true → count capacity (λ u. has l u && leb u highest) ≡ count n (has l)
set_count n l h a = sym (members-length capacity (λ u. has l u && leb u highest)) ∙ ap length (set_members n l h a) ∙ members-length n (has l)
