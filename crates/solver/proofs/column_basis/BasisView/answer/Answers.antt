use Rattle.std.proofs.Common.{◌≡◌, ℕ, Bool, not, ◌&&◌, List, ap, ◌∙◌, arith}
use mathlib.Core.Bool.{true, false, cond}
use mathlib.Core.Option.{some}
use Rattle.nodes.specs.Bit.{◌⊕◌}
use Rattle.nodes.specs.Row.{all_below, parity}
use Rattle.nodes.specs.NodeSet.{capacity, member}
use Rattle.nodes.specs.SetTable.{set_at}
use Rattle.solver.specs.Basis.{moved, answer_from}
use Rattle.solver.specs.BasisCalls.{Echelon, form_of, form_in}
use Rattle.solver.proofs.BasisForms.{answer_not, answer_goes, adjusts, moved-none, moved-some, same_bits, other_bits, turned}
use Rattle.solver.proofs.column_basis.BasisView.answer.Goals as goal

-- the side is reached: the answer is the sum, or with another bit than asked what the mover makes of it
goes : (ch : Echelon) (reduced preimage kernel : List ℕ) (side asked s n x z : List ℕ) (odd same d : Bool)
    → member s ≡ (λ u. member side u && member ch.pivots u)
    → member n ≡ (λ v. parity capacity (λ k. set_at reduced k v && member s k))
    → same ≡ all_below capacity (λ u. not (member n u ⊕ member side u))
    → same ≡ true
    → member x ≡ (λ v. parity capacity (λ k. set_at preimage k v && member s k))
    → member z ≡ (λ u. member x u && member asked u)
    → d ≡ parity capacity (member z)
    → (o : Bool) → d ⊕ odd ≡ o
    → cond o (moved capacity (form_of ch reduced preimage kernel) (member asked) (member x)) (some (member x)) ≡ answer_from capacity (form_of ch reduced preimage kernel) (member side) (member asked) odd
goes ch reduced preimage kernel side asked s n x z odd same d hs hn hg y hx hz hd o h =
    adjusts (form_of ch reduced preimage kernel) asked x z odd d hz hd o h ∙ answer_goes ch reduced preimage kernel side asked s n odd same hs hn hg y x hx

pub returns-then-not-same : goal.returns-then-not-same
returns-then-not-same c =
    let a = c.args in
    let b = a.self.now in
    answer_not (record { pivots = b.pivots; free = b.free }) b.reduced.now b.preimage.now b.kernel.now a.side a.asked c.intersection-s.result c.odd_neighbors.result a.odd c.same.result c.intersection-s.ensures c.odd_neighbors.ensures c.same.ensures (turned _ (ap not c.if-not-same.true))

pub returns-then-is_odd-odd : goal.returns-then-is_odd-odd
returns-then-is_odd-odd c =
    let a = c.args in
    let b = a.self.now in
    goes (record { pivots = b.pivots; free = b.free }) b.reduced.now b.preimage.now b.kernel.now a.side a.asked c.intersection-s.result c.odd_neighbors.result c.odd_neighbors-x.result c.intersection.result a.odd c.same.result c.is_odd.result
    c.intersection-s.ensures c.odd_neighbors.ensures c.same.ensures (turned _ (ap not c.if-not-same.false)) c.odd_neighbors-x.ensures c.intersection.ensures c.is_odd.ensures false (same_bits c.is_odd.result a.odd c.if-is_odd-odd.true)

pub returns-then-c-ge-CAPACITY : goal.returns-then-c-ge-CAPACITY
returns-then-c-ge-CAPACITY c =
    let a = c.args in
    let b = a.self.now in
    moved-none (form_in b.pivots b.free b.reduced.now b.preimage.now b.kernel.now) a.asked c.odd_neighbors-x.result c.first_mover-c.result c.first_mover-c.ensures (omega (arith, c.if-c-ge-CAPACITY.true))
    ∙ goes (record { pivots = b.pivots; free = b.free }) b.reduced.now b.preimage.now b.kernel.now a.side a.asked c.intersection-s.result c.odd_neighbors.result c.odd_neighbors-x.result c.intersection.result a.odd c.same.result c.is_odd.result
    c.intersection-s.ensures c.odd_neighbors.ensures c.same.ensures (turned _ (ap not c.if-not-same.false)) c.odd_neighbors-x.ensures c.intersection.ensures c.is_odd.ensures true (other_bits c.is_odd.result a.odd c.if-is_odd-odd.false)

pub returns : goal.returns
returns c =
    let a = c.args in
    let b = a.self.now in
    moved-some (form_in b.pivots b.free b.reduced.now b.preimage.now b.kernel.now) a.asked c.odd_neighbors-x.result c.first_mover-c.result c.first_mover-c.ensures (omega (arith, c.if-c-ge-CAPACITY.false)) c.set_at.result c.xor.result c.set_at.ensures c.xor.ensures
    ∙ goes (record { pivots = b.pivots; free = b.free }) b.reduced.now b.preimage.now b.kernel.now a.side a.asked c.intersection-s.result c.odd_neighbors.result c.odd_neighbors-x.result c.intersection.result a.odd c.same.result c.is_odd.result
    c.intersection-s.ensures c.odd_neighbors.ensures c.same.ensures (turned _ (ap not c.if-not-same.false)) c.odd_neighbors-x.ensures c.intersection.ensures c.is_odd.ensures true (other_bits c.is_odd.result a.odd c.if-is_odd-odd.false)
