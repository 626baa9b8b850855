use mathlib.Core.Bool.{Bool}
use Prim.Native.Nat.{ℕ}
use Rattle.nodes.specs.Row.{members}
use Rattle.nodes.specs.NodeSet.{capacity, member, left_of}
use Rattle.nodes.proofs.Left.{listed}
use Rattle.finder.specs.WorkMatrix.{row_bit}
use Rattle.finder.proofs.WorkMatrix.{IsLaying}
use Rattle.finder.proofs.matrix.put_rows.Given as goal

abbrev pub invariant-loop-v : goal.invariant-loop-v
invariant-loop-v l = record {
  can : goal.iterator-loop-v.can_next l.v-iterator;
  ends : goal.iterator-loop-v.is_finite l.v-iterator;
  laying : IsLaying (member l.fn.rows) (listed (members capacity (left_of l.v-iterator.set l.v-iterator.at l.v-iterator.left))) (row_bit l.transposed (member l.columns) l.lower) l.i l.fn.work l.work;
}
