use Rattle.std.proofs.Common.{ℕ, Bool}
use Rattle.nodes.specs.Row.{members}
use Rattle.nodes.specs.NodeSet.{capacity, member, left_of}
use Rattle.nodes.proofs.Walk.{IsWalk}
use Rattle.nodes.proofs.Left.{listed}
use Rattle.solver.specs.WorkMatrix.{entry_of}
use Rattle.solver.specs.Solver.{row_bytes}
use Rattle.solver.specs.BasisCalls.{Plus}
use Rattle.solver.proofs.BasisTables.{loaded}
use Rattle.solver.proofs.column_basis.load.Given as goal

abbrev pub invariant-loop-v : goal.invariant-loop-v
invariant-loop-v l =
    let left : ℕ → Bool = listed (members capacity (left_of l.v-iterator.set l.v-iterator.at l.v-iterator.left)) in record {
      can : goal.iterator-loop-v.can_next l.v-iterator;
      ends : goal.iterator-loop-v.is_finite l.v-iterator;
      walk : IsWalk (member l.fn.rows) left l.i;
      plus : Plus (loaded (member l.fn.rows) left (entry_of row_bytes l.matrix)) l.fn.table l.table;
    }
