use Rattle.std.proofs.Common.{◌≡◌, ℕ}
use Rattle.nodes.specs.Bit.{◌⊕◌}
use Rattle.nodes.specs.Row.{members}
use Rattle.nodes.specs.NodeSet.{capacity, member, left_of}
use Rattle.nodes.specs.SetTable.{set_at}
use Rattle.nodes.proofs.Left.{odd_over}
use Rattle.nodes.proofs.utils.odd_neighbors.Given as goal

abbrev pub invariant-loop-k : goal.invariant-loop-k
invariant-loop-k l = record {
  can : goal.iterator-loop-k.can_next l.k-iterator;
  ends : goal.iterator-loop-k.is_finite l.k-iterator;
  so_far : (v : ℕ) → member l.odd v ⊕ odd_over (λ k. set_at l.g k v) (members capacity (left_of l.k-iterator.set l.k-iterator.at l.k-iterator.left))
      ≡ odd_over (λ k. set_at l.g k v) (members capacity (member l.fn.kset));
}
