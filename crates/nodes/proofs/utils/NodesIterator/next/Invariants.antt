use Rattle.std.proofs.Common.{◌≡◌, ◌-◌}
use Rattle.nodes.specs.NodeSet.{left_of}
use Rattle.nodes.proofs.utils.NodesIterator.next.Given as goal

abbrev pub invariant-loop-self : goal.invariant-loop-self
invariant-loop-self g l = left_of l.self.set l.self.at l.self.left ≡ left_of l.fn.self.set l.fn.self.at l.fn.self.left

abbrev pub decreases-loop-self : goal.decreases-loop-self
decreases-loop-self g l = g.row.WORDS - l.self.at
