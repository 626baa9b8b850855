use Rattle.std.proofs.Common.{◌≡◌, ℕ, Bool, List, ◌∷◌, sym, ap, ◌∙◌}
use mathlib.Core.Path.{fun_ext}
use Rattle.nodes.specs.Bit.{◌⊕◌}
use Rattle.nodes.specs.Row.{members}
use Rattle.nodes.specs.NodeSet.{capacity, member}
use Rattle.nodes.specs.SetTable.{set_at}
use Rattle.nodes.proofs.Logic.{⊕_none, ⊕_assoc}
use Rattle.nodes.proofs.Left.{odd_over, odd-members}
use Rattle.nodes.proofs.utils.odd_neighbors.Goals as goal

-- one set is added, and is the first of those that are left
add_step : (t odd row both : List ℕ) (k v : ℕ) (items others : List ℕ) (all : Bool)
    → member both ≡ (λ u. member odd u ⊕ member row u) → member row ≡ set_at t k → items ≡ k ∷ others
    → member odd v ⊕ odd_over (λ j. set_at t j v) items ≡ all → member both v ⊕ odd_over (λ j. set_at t j v) others ≡ all
add_step t odd row both k v items others all e f g h =
    ap (λ (s : ℕ → Bool). s v ⊕ odd_over (λ j. set_at t j v) others) e
    ∙ ap (λ (s : ℕ → Bool). (member odd v ⊕ s v) ⊕ odd_over (λ j. set_at t j v) others) f
    ∙ ⊕_assoc (member odd v) (set_at t k v) (odd_over (λ j. set_at t j v) others)
    ∙ ap (λ (l : List ℕ). member odd v ⊕ odd_over (λ j. set_at t j v) l) (sym g) ∙ h

pub loop-k-preserved : goal.loop-k-preserved
loop-k-preserved c =
    record { can = tt; ends = tt; so_far = λ v. add_step c.args.g.now c.loop-k.odd c.set_at.result c.xor-odd.result _ v _ _ _ c.xor-odd.ensures c.set_at.ensures c.in-Some.ensures.steps (c.loop-k.invariant.so_far v) }

pub returns : goal.returns
returns c =
    fun_ext (λ v. sym (⊕_none (member c.loop-k.odd v)) ∙ ap (λ (l : List ℕ). member c.loop-k.odd v ⊕ odd_over (λ k. set_at c.args.g.now k v) l) (sym c.in-None.ensures.steps.0)
    ∙ c.loop-k.invariant.so_far v ∙ odd-members _ _ _)
