use mathlib.Core.Bool.{not, ◌&&◌}
use Rattle.nodes.specs.Row.{members}
use Rattle.nodes.specs.NodeSet.{capacity, member, left_of}
use Rattle.nodes.proofs.Left.{listed}
use Rattle.finder.proofs.WorkMatrix.{IsGrowing}
use Rattle.finder.proofs.matrix.transpose.Given as goal

abbrev pub invariant-loop-k : goal.invariant-loop-k
invariant-loop-k l = record {
  can : goal.iterator-loop-k.can_next l.k-iterator;
  ends : goal.iterator-loop-k.is_finite l.k-iterator;
  growing : IsGrowing l.graph (member l.known) (λ k. member l.fn.columns k && not (member l.known k)) (listed (members capacity (left_of l.k-iterator.set l.k-iterator.at l.k-iterator.left))) l.rows l.transposed;
}
