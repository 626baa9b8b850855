-- The search over any way to try a node, of specs/Search: it finds the least layering in which each node is solvable by the nodes of
-- smaller layers, and finds one wherever there is one. Asked of the try: a node that is solvable is so where more nodes are later.
use Prim.Native.Nat.{ℕ, ◌+◌, ◌≤◌, ◌<◌, zero-le}
use mathlib.Core.Path.{◌≡◌, refl, sym, ◌∙◌, subst}
use mathlib.Core.Bool.{Bool, true, false, cond, not}
use mathlib.Core.Logic.{◌⊎◌, inl, inr, ◌↔◌}
use mathlib.Core.Option.{Option, none, some, some-injective, none-ne-some}
use native.Mathlib.Omega.{arith}
use native.Mathlib.Nat.{not-suc-le-zero, le_refl}
use lib.Dec.{T}
use Rattle.nodes.specs.Row.{all_below, count}
use Rattle.nodes.proofs.Logic.{is_true, dec, not_in, not_out, and_none}
use Rattle.nodes.proofs.Row.{all_in, all_out, ltb_no}
use Rattle.nodes.proofs.Count.{IsWithin, count-le, grows}
use Rattle.nodes.specs.Options.{is_some}
use Rattle.flows.specs.Search.{Progress, no_node, start, solved_now, solves_some, rounds, first_round, begun, search_from, if_solved, later_than}
use Rattle.flows.proofs.Search.{rounds_end, rounds_enough, layers_below, IsSearched, step, searched_start, searched, IsSmallestTill, step_smallest, rounds_smallest}

-- a set within another has no more members
count_within : (n : ℕ) (s t : ℕ → Bool) → IsWithin n s t → count n s ≤ count n t
count_within n s t w = go (count n s) (count n t) (grows n s t w)
  where
    go : (a b : ℕ) → (a < b) ⊎ ((a ≡ b) × IsWithin n t s) → a ≤ b
    go a b (inl l) = omega arith
    go a b (inr (e, k)) = omega arith

module _ (from_zero : Bool) (try : (ℕ → Bool) → ℕ → Option (ℕ → Bool)) (n : ℕ) (output : ℕ → Bool) where
  -- each node is solvable by the nodes of smaller layers, from the first round on
  pub record IsLayering (layer : ℕ → ℕ) : Type 0 where
    pub least : (u : ℕ) → u < n → (T (output u) → ⊥) → first_round from_zero ≤ layer u
    pub solvable : (u : ℕ) → u < n → (T (output u) → ⊥) → T (is_some (try (later_than layer u) u))

  -- what a search that solves each node has found; no layer exceeds the number of the nodes that are no outputs
  pub record IsFoundBy (s : Progress) : Type 0 where
    pub output_layer : (u : ℕ) → T (output u) → s.layer u ≡ 0
    pub output_set : (u : ℕ) → T (output u) → s.set u ≡ no_node
    pub least : (u : ℕ) → u < n → (T (output u) → ⊥) → first_round from_zero ≤ s.layer u
    pub most : (u : ℕ) → u < n → s.layer u ≤ count n (λ u. not (output u))
    pub by_try : (u : ℕ) → u < n → (T (output u) → ⊥) → try (later_than s.layer u) u ≡ some (s.set u)

  abbrev pub ended : Progress
  ended = search_from from_zero try n output

  -- the end is a fixpoint: one more round would solve nothing; the bound on rounds is never what ends the search
  pub fixpoint : solves_some try n ended ≡ false
  fixpoint = rounds_end try n n 1 (begun from_zero try output) (count-le n (λ u. not ((begun from_zero try output).solved u)))

  begun_searched : IsSearched n output try (first_round from_zero) 1 (begun from_zero try output)
  begun_searched = go from_zero
    where
      go : (c : Bool) → IsSearched n output try (first_round c) 1 (begun c try output)
      go true =
          step n output try 0 no_node 0 zero-le (start output) (searched_start n output try 0)
          (λ v l. sym (rw (ltb_no 0 0 zero-le) (and_none (output v))))
      go false = searched_start n output try 1

  -- before round 1 no more nodes are unsolved than are no outputs
  unsolved_most : count n (λ u. not ((begun from_zero try output).solved u)) ≤ count n (λ u. not (output u))
  unsolved_most = count_within n (λ u. not ((begun from_zero try output).solved u)) (λ u. not (output u)) (λ u l a. not_in (output u) (λ o. not_out ((begun from_zero try output).solved u) a (begun_searched.outputs u o)))

  -- so that there are no more rounds than those, and round 0
  ended-rounds : rounds try n (count n (λ u. not (output u))) 1 (begun from_zero try output) ≡ ended
  ended-rounds = rounds_enough try n (count n (λ u. not (output u))) n 1 (begun from_zero try output) unsolved_most (count-le n (λ u. not ((begun from_zero try output).solved u)))

  ended_searched : IsSearched n output try (first_round from_zero) (1 + count n (λ u. not (output u))) ended
  ended_searched =
      subst (IsSearched n output try (first_round from_zero) (1 + count n (λ u. not (output u)))) ended-rounds
      (searched n output try (first_round from_zero) (count n (λ u. not (output u))) 1 (one_first from_zero) (begun from_zero try output) begun_searched)
    where
      one_first : (c : Bool) → first_round c ≤ 1
      one_first true = zero-le
      one_first false = le_refl 1

  -- no layer exceeds the number of the nodes that are no outputs, found or not
  pub most_layer : (u : ℕ) → ended.layer u ≤ count n (λ u. not (output u))
  most_layer u =
      omega (arith, subst (λ (s : Progress). s.layer u < 1 + count n (λ u. not (output u))) ended-rounds (layers_below try n (count n (λ u. not (output u))) 1 (begun from_zero try output) (begun_layer from_zero) u))
    where
      zero_either : (c : Bool) → cond c 0 0 < 1
      zero_either true = omega arith
      zero_either false = omega arith

      begun_layer : (c : Bool) (v : ℕ) → (begun c try output).layer v < 1
      begun_layer true v = zero_either (solved_now (try no_node) (start output) v)
      begun_layer false v = omega arith

  found_out : (s t : Progress) → if_solved n s ≡ some t → T (all_below n s.solved) × (s ≡ t)
  found_out s t e = go (all_below n s.solved) e
    where
      go : (c : Bool) → cond c (some s) none ≡ some t → T c × (s ≡ t)
      go true e = (tt, some-injective _ _ e)
      go false e = absurd (none-ne-some _ e)

  -- ---- what is found, where a try depends on the later nodes below n only
  module _ (local : (later later' : ℕ → Bool) → ((v : ℕ) → v < n → later v ≡ later' v) → (u : ℕ) → try later u ≡ try later' u) where
    pub found_by : (s : Progress) → if_solved n ended ≡ some s → IsFoundBy s
    found_by s e = go (found_out ended s e)
      where
        make : T (all_below n ended.solved) → IsFoundBy ended
        make a = record {
          output_layer = ended_searched.output_layer;
          output_set = ended_searched.output_set;
          least = λ u l o. ended_searched.above u l o (solved u l);
          most = λ u l. most_layer u;
          by_try = λ u l o.
              let t = ended_searched.tried u l o (solved u l) in
              local (later_than ended.layer u) t.later (λ v m. sym (t.smaller v m ∙ rw (is_true (ended.solved v) (solved v m)))) u ∙ t.gave;
        }
          where
            solved : (u : ℕ) → u < n → T (ended.solved u)
            solved u l = all_out n ended.solved a u l

        go : T (all_below n ended.solved) × (ended ≡ s) → IsFoundBy s
        go (a, p) = subst IsFoundBy p (make a)

  -- it is a layering
  pub found_layering : (s : Progress) → IsFoundBy s → IsLayering s.layer
  found_layering s f = record { least = f.least; solvable = λ u l o. rw (f.by_try u l o) tt }

  -- ---- no layering has a smaller layer
  module _ (monotone : (s t : ℕ → Bool) → IsWithin n s t → (u : ℕ) → u < n → (T (output u) → ⊥) → T (is_some (try s u)) → T (is_some (try t u))) where
    module _ (layer : ℕ → ℕ) (right : IsLayering layer) where
      abbrev IsSmallestAt : ℕ → Progress → Type 0
      IsSmallestAt = IsSmallestTill n output try monotone layer right.solvable

      start_smallest : (r : ℕ) → ((u : ℕ) → u < n → layer u < r → T (output u)) → IsSmallestAt r (start output)
      start_smallest r h = record { outputs = λ u l o. o; solved = h; smallest = λ u l t. zero-le }

      begun_smallest : IsSmallestAt 1 (begun from_zero try output)
      begun_smallest = go from_zero right.least
        where
          go : (c : Bool) → ((u : ℕ) → u < n → (T (output u) → ⊥) → first_round c ≤ layer u) → IsSmallestAt 1 (begun c try output)
          go true h =
              step_smallest n output try monotone layer right.solvable no_node 0 (start output)
              (start_smallest 0 (λ u l q. absurd (not-suc-le-zero q))) (λ v l q. absurd (not-suc-le-zero q))
          go false h = start_smallest 1 (λ u l q. by u l q (dec (output u)))
            where
              none_of : (a : ℕ) → 1 ≤ a → a < 1 → ⊥
              none_of a p q = omega arith

              by : (u : ℕ) → u < n → layer u < 1 → T (output u) ⊎ (T (output u) → ⊥) → T (output u)
              by u l q (inl t) = t
              by u l q (inr f) = absurd (none_of (layer u) (h u l f) q)

      pub least_layering : (s : Progress) × (if_solved n ended ≡ some s) × ((u : ℕ) → u < n → s.layer u ≤ layer u)
      least_layering =
          let f = rounds_smallest n output try monotone layer right.solvable n 1 (begun from_zero try output) begun_smallest (count-le n (λ u. not ((begun from_zero try output).solved u))) in (
            ended,
            rw (is_true (all_below n ended.solved) (all_in n ended.solved f.all)),
            f.smallest,
          )

    -- nothing is found exactly where there is no layering
    pub none_layering : ((later later' : ℕ → Bool) → ((v : ℕ) → v < n → later v ≡ later' v) → (u : ℕ) → try later u ≡ try later' u)
        → (if_solved n ended ≡ none ↔ ((layer : ℕ → ℕ) → IsLayering layer → ⊥))
    none_layering local = (
      (λ e layer right. let (s, f, l) = least_layering layer right in none-ne-some _ (sym e ∙ f)),
      λ h. go h (if_solved n ended) refl,
    )
      where
        go : ((layer : ℕ → ℕ) → IsLayering layer → ⊥) → (o : Option Progress) → if_solved n ended ≡ o → o ≡ none
        go h none e = refl
        go h (some s) e = absurd (h s.layer (found_layering s (found_by local s e)))
