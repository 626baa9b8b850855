use Rattle.std.proofs.Common.{◌≡◌}
use Rattle.nodes.proofs.NodeSetCount.{IsNoneBefore}
use Rattle.nodes.proofs.utils.NodeSet.without_lowest.Given as goal

abbrev pub invariant-loop-i : goal.invariant-loop-i
invariant-loop-i g l = record { same : l.self ≡ l.fn.self; none : IsNoneBefore l.self l.i }
