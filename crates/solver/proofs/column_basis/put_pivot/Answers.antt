use Rattle.solver.proofs.BasisTables.{pivoted}
use Rattle.solver.proofs.column_basis.put_pivot.Goals as goal

pub returns : goal.returns
returns c = pivoted c.args.table.now c.add_to.new.table c.put_set.new.table c.args.q c.args.having c.args.x c.requires.0 c.requires.1 c.add_to.ensures c.put_set.ensures
