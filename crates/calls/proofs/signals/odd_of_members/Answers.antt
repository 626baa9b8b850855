use Prim.Native.Nat.{ℕ, ◌+◌}
use mathlib.Core.Path.{refl, sym, ap, ◌∙◌, fun_ext}
use mathlib.Core.Bool.{Bool}
use mathlib.Core.List.{List}
use native.Mathlib.Omega.{arith}
use lib.ListN.{get_or, drop}
use Rattle.nodes.specs.Bit.{◌⊕◌}
use Rattle.nodes.specs.NodeSet.{member}
use Rattle.nodes.specs.SetTable.{set_at}
use Rattle.nodes.proofs.Logic.{⊕_none, ⊕_assoc}
use Rattle.records.proofs.ReadingLoops.{rest_none, rest_cons}
use Rattle.calls.specs.Loaded.{odd_among}
use Rattle.calls.proofs.signals.odd_of_members.Goals as goal

pub loop-k-init : goal.loop-k-init
loop-k-init c = λ v. rw c.empty-odd.ensures refl

pub loop-k-preserved : goal.loop-k-preserved
unfolding odd_among
loop-k-preserved c =
    let l = c.loop-k in
    let a = c.args in
    let p = a.members.now in
    let edge = set_at a.graph.now in
    let row = c.set_at.ensures ∙ ap edge c.from.ensures in
    λ v. l.invariant v ∙ ap (λ (m : List ℕ). member l.odd v ⊕ odd_among (λ u. edge u v) m) (rest_cons p l.k-index (omega arith))
    ∙ sym (⊕_assoc (member l.odd v) (edge (get_or p l.k-index 0) v) (odd_among (λ u. edge u v) (drop (l.k-index + 1) p)))
    ∙ ap (λ (f : ℕ → Bool). (member l.odd v ⊕ f v) ⊕ odd_among (λ u. edge u v) (drop (l.k-index + 1) p)) (sym row)
    ∙ ap (λ (f : ℕ → Bool). f v ⊕ odd_among (λ u. edge u v) (drop (l.k-index + 1) p)) (sym c.xor-odd.ensures)

pub returns : goal.returns
unfolding odd_among
returns c =
    let l = c.loop-k in
    let a = c.args in
    fun_ext (λ v. sym (l.invariant v ∙ ap (λ (m : List ℕ). member l.odd v ⊕ odd_among (λ u. set_at a.graph.now u v) m) (rest_none a.members.now l.k-index (omega arith)) ∙ ⊕_none (member l.odd v)))
