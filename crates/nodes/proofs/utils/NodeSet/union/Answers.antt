use Rattle.std.proofs.Common.{arith}
use Rattle.nodes.proofs.NodeSet.{member_or}
use Rattle.nodes.proofs.utils.NodeSet.union.Goals as goal

pub returns : goal.returns
returns g c = rw (← c.self.view_is, ← c.o.view_is) (member_or _ _ _ _ (λ i h. c.loop-i.invariant.done i (omega arith)))
