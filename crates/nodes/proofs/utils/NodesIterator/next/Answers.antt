use Rattle.std.proofs.Common.{◌≡◌, ◌≢◌, ℕ, ◌+◌, ◌-◌, ◌*◌, ◌^◌, ◌<◌, List, [], ◌∷◌, length, sym, ap, ◌∙◌, arith, rules}
use lib.Bits.{bit_and}
use lib.Count.{count_trailing_zeros}
use Rattle.nodes.specs.Row.{members}
use Rattle.nodes.specs.NodeSet.{places, left_of}
use Rattle.nodes.proofs.Left.{left_advance, left_end, left_lowest}
use Rattle.nodes.proofs.utils.NodesIterator.next.Goals as goal

-- nothing is left of the last word
at_end : (words : ℕ) (ws other : List ℕ) (at left from more : ℕ) → left_of ws at left ≡ left_of other from more → left ≡ 0 → at + 1 ≡ words
    → (members (places words) (left_of other from more) ≡ []) × (members (places words) (left_of ws at left) ≡ [])
at_end words ws other at left from more e z l =
    let m = ap (λ (x : ℕ). members (places words) (left_of ws at x)) z ∙ left_end words ws at l in
    (ap (members (places words)) (sym e) ∙ m, m)

pub returns-then-self-clause-steps : goal.returns-then-self-clause-steps
returns-then-self-clause-steps g c = at_end g.row.WORDS _ _ _ _ _ _ c.loop-self.invariant c.loop-self-test.true c.if-self.true

pub loop-self-preserved : goal.loop-self-preserved
loop-self-preserved g c =
    rw c.word-self.ensures (sym (left_advance _ _) ∙ ap (λ (x : ℕ). left_of c.loop-self.self.set c.loop-self.self.at x) (sym c.loop-self-test.true) ∙ c.loop-self.invariant)

-- the lowest of the word is taken
taken : (words : ℕ) (ws other : List ℕ) (at left from more : ℕ) → left_of ws at left ≡ left_of other from more → at < words → left ≢ 0 → left < 2 ^ 64
    → members (places words) (left_of other from more) ≡ (64 * at + count_trailing_zeros 64 left) ∷ members (places words) (left_of ws at (bit_and left (left - 1)))
taken words ws other at left from more e h p l = ap (members (places words)) (sym e) ∙ left_lowest words ws at left h p l

pub returns-clause-steps : goal.returns-clause-steps
returns-clause-steps g c =
    let l : c.loop-self.self.left < 2 ^ 64 = search (rules, arith) in
    taken g.row.WORDS _ _ _ _ _ _ c.loop-self.invariant (omega arith) c.loop-self-test.false l

pub returns-clause-goes : goal.returns-clause-goes
returns-clause-goes g c = let e = ap length (returns-clause-steps g c) in search (rules, arith, e)
