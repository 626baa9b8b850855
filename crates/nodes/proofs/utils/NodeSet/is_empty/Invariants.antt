use Rattle.nodes.proofs.NodeSetCount.{IsNoneBefore}
use Rattle.nodes.proofs.utils.NodeSet.is_empty.Given as goal

abbrev pub invariant-loop-i : goal.invariant-loop-i
invariant-loop-i g l = IsNoneBefore l.words l.i
