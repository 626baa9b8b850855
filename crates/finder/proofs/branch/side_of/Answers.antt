use mathlib.Core.Path.{sym, ◌∙◌}
use Rattle.nodes.specs.NodeSet.{member}
use Rattle.flows.specs.Numbers.{branch_number}
use Rattle.finder.proofs.Tries.{side_in, side_out}
use Rattle.finder.proofs.branch.side_of.Goals as goal

pub returns-then-in_set : goal.returns-then-in_set
returns-then-in_set c =
    let call-odd-of = c.odd_of-odd in
    let a = c.args in side_in a.graph.now a.u (branch_number a.b) (member call-odd-of.result) (member c.set_at.result) (member c.xor.result) call-odd-of.ensures (sym c.in_set.ensures ∙ c.if-in_set.true) c.set_at.ensures c.xor.ensures

pub returns : goal.returns
returns c = let a = c.args in side_out a.graph.now a.u (branch_number a.b) (member c.odd_of-odd.result) c.odd_of-odd.ensures (sym c.in_set.ensures ∙ c.if-in_set.false)
