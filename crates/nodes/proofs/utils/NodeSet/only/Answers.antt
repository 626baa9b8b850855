use Rattle.std.proofs.Common.{arith}
use Rattle.nodes.proofs.NodeSet.{member_only}
use Rattle.nodes.proofs.utils.NodeSet.only.Goals as goal

pub returns : goal.returns
returns g c = member_only g.row.WORDS (omega arith) _ _ _ c.mask-digit.ensures (λ q h. c.loop-i.invariant.done q (omega arith))
