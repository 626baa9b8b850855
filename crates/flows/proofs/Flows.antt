-- Both searches, as one: what they find is right, each set by the first solvable branch of its round, and every right layering
-- gives each node at least the layer found.
use Prim.Native.Nat.{ℕ, ◌≤◌, ◌<◌, zero-le}
use mathlib.Core.Path.{◌≡◌, refl, sym, ap, ◌∙◌, subst}
use mathlib.Core.Bool.{Bool, true, false, not}
use mathlib.Core.Logic.{◌↔◌}
use mathlib.Core.Option.{Option, none, some}
use lib.Dec.{T}
use Rattle.nodes.specs.Row.{count}
use Rattle.nodes.proofs.Count.{IsWithin}
use Rattle.nodes.specs.Options.{is_some}
use Rattle.flows.specs.Job.{Job}
use Rattle.flows.specs.Branch.{Context, branches, try_node}
use Rattle.flows.specs.Conditions.{corrects}
use Rattle.flows.specs.Search.{Progress, start, first_round, search_from, if_solved, later_than}
use Rattle.flows.specs.Tries.{context_at, try_at}
use Rattle.flows.specs.Planes as Planes
use Rattle.flows.specs.Flows.{find_at}
use Rattle.flows.proofs.Tries.{planes_context, IsFirstOf, try_first, try_sound, try_complete, try_monotone, try_ext}
use Rattle.flows.proofs.Search.{rounds_ext}
use Rattle.flows.proofs.Rank.{IsLayering, IsFoundBy, found_by, least_layering, none_layering}

abbrev pub ended_at : Job → Bool → Progress
ended_at j pauli = search_from pauli (try_at j pauli) j.nodes j.output

-- ---- the tries of an unsolved node for planes are the joint ones
pub planes_ended : (j : Job) → Planes.progress j ≡ ended_at j false
planes_ended j = rounds_ext (Planes.try j) (try_at j false) j.nodes (λ s u f. sym (ap (λ (c : Context). try_node j c u) (planes_context j s.solved u f))) j.nodes 1 (start j.output)

pub find_ended : (j : Job) (pauli : Bool) → find_at j pauli ≡ if_solved j.nodes (ended_at j pauli)
find_ended j true = refl
find_ended j false = ap (if_solved j.nodes) (planes_ended j)

-- ---- what is found
abbrev pub IsFoundAt : Job → Bool → Progress → Type 0
IsFoundAt j pauli = IsFoundBy pauli (try_at j pauli) j.nodes j.output

pub found_flow_lem : (j : Job) (pauli : Bool) (s : Progress) → find_at j pauli ≡ some s → IsFoundAt j pauli s
found_flow_lem j pauli s e = found_by pauli (try_at j pauli) j.nodes j.output (try_ext j pauli) s (sym (find_ended j pauli) ∙ e)

-- no layer of a found flow exceeds the number of measured nodes
pub found_most_layer : (j : Job) (pauli : Bool) (s : Progress) → find_at j pauli ≡ some s → (u : ℕ) → u < j.nodes → s.layer u ≤ count j.nodes (λ u. not (j.output u))
found_most_layer j pauli s e = (found_flow_lem j pauli s e).most

-- each set is right, by the nodes of smaller layers
pub found_corrects : (j : Job) (pauli : Bool) → ((u : ℕ) → u < j.nodes → j.measured u < 7) → (s : Progress) → IsFoundAt j pauli s
    → (u : ℕ) → u < j.nodes → (T (j.output u) → ⊥) → T (corrects j pauli (later_than s.layer u) (s.set u) u)
found_corrects j pauli m s f u l o = try_sound j pauli (later_than s.layer u) u l (m u l) (s.set u) (f.by_try u l o)

-- each set is that of the first solvable branch in u's row of the table, in the context of u's round
pub found_first : (j : Job) (pauli : Bool) (s : Progress) → IsFoundAt j pauli s
    → (u : ℕ) → u < j.nodes → (T (j.output u) → ⊥) → IsFirstOf j (context_at j pauli (later_than s.layer u) u) u (branches (j.measured u)) (s.set u)
found_first j pauli s f u l o = try_first j pauli (later_than s.layer u) u (s.set u) (f.by_try u l o)

-- ---- no layering has a smaller layer
abbrev pub IsLayeringAt : Job → Bool → (ℕ → ℕ) → Type 0
IsLayeringAt j pauli = IsLayering pauli (try_at j pauli) j.nodes j.output

module _ (j : Job) (pauli : Bool) (measured : (u : ℕ) → u < j.nodes → j.measured u < 7) where
  monotone : (s t : ℕ → Bool) → IsWithin j.nodes s t → (u : ℕ) → u < j.nodes → (T (j.output u) → ⊥) → T (is_some (try_at j pauli s u)) → T (is_some (try_at j pauli t u))
  monotone s t w u l o a = try_monotone j pauli s t w u l (measured u l) a

  pub find_least : (layer : ℕ → ℕ) → IsLayeringAt j pauli layer → (s : Progress) × (find_at j pauli ≡ some s) × ((u : ℕ) → u < j.nodes → s.layer u ≤ layer u)
  find_least layer right =
      let (s, e, l) = least_layering pauli (try_at j pauli) j.nodes j.output monotone layer right in
      (s, find_ended j pauli ∙ e, l)

  pub find_none : find_at j pauli ≡ none ↔ ((layer : ℕ → ℕ) → IsLayeringAt j pauli layer → ⊥)
  find_none =
      subst (λ (o : Option Progress). o ≡ none ↔ ((layer : ℕ → ℕ) → IsLayeringAt j pauli layer → ⊥)) (sym (find_ended j pauli))
      (none_layering pauli (try_at j pauli) j.nodes j.output monotone (try_ext j pauli))

  -- right sets make a layering
  module _
      (layer : ℕ → ℕ)
      (set : ℕ → ℕ → Bool)
      (above : pauli ≡ false → (u : ℕ) → u < j.nodes → (T (j.output u) → ⊥) → 0 < layer u)
      (right : (u : ℕ) → u < j.nodes → (T (j.output u) → ⊥) → T (corrects j pauli (later_than layer u) (set u) u))
    where
      pub right_layering : IsLayeringAt j pauli layer
      right_layering = record { least = λ u l o. first_le pauli (layer u) (λ e. above e u l o); solvable = λ u l o. try_complete j pauli (later_than layer u) u l (measured u l) (set u) (right u l o) }
        where
          first_le : (c : Bool) (a : ℕ) → (c ≡ false → 0 < a) → first_round c ≤ a
          first_le true a h = zero-le
          first_le false a h = h refl

      pub found_smallest : (s : Progress) × (find_at j pauli ≡ some s) × ((u : ℕ) → u < j.nodes → s.layer u ≤ layer u)
      found_smallest = find_least layer right_layering
