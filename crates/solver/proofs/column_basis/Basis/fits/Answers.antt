use native.Mathlib.Omega.{arith}
use Rattle.nodes.specs.NodeSet.{capacity, member}
use Rattle.nodes.proofs.Count.{count-le}
use Rattle.solver.proofs.column_basis.Basis.fits.Goals as goal

pub overflow_add-count : goal.overflow_add-count
overflow_add-count c = omega (arith, c.count.ensures, c.count-2.ensures, count-le capacity (member c.args.upper), count-le capacity (member c.args.lower))

pub overflow_mul-count : goal.overflow_mul-count
overflow_mul-count c = omega (arith, c.count.ensures, c.count-2.ensures, count-le capacity (member c.args.upper), count-le capacity (member c.args.lower))
