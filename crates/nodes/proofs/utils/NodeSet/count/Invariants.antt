use Rattle.std.proofs.Common.{◌≡◌, ◌≤◌}
use Rattle.nodes.specs.Row.{count}
use Rattle.nodes.specs.NodeSet.{places, member_of}
use Rattle.nodes.proofs.utils.NodeSet.count.Given as goal

abbrev pub invariant-loop-i : goal.invariant-loop-i
invariant-loop-i g l = record { so_far : l.total ≡ count (places l.i) (member_of l.words); few : l.total ≤ places l.i }
