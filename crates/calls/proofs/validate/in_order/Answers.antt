use native.Mathlib.Omega.{arith}
use Rattle.nodes.specs.NodeSet.{member, capacity}
use Rattle.nodes.proofs.Members.{lowest-le}
use Rattle.calls.proofs.validate.in_order.Goals as goal

pub overflow_cast-result-2 : goal.overflow_cast-result-2
overflow_cast-result-2 c = omega (arith, c.lowest.ensures, lowest-le capacity (member c.args.early))
