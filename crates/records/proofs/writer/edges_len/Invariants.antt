use Prim.Native.Nat.{ℕ, ◌+◌}
use mathlib.Core.Path.{◌≡◌}
use mathlib.Core.List.{List}
use lib.ListN.{length}
use Rattle.nodes.specs.Row.{members}
use Rattle.nodes.specs.NodeSet.{capacity, member, left_of}
use Rattle.nodes.specs.SetTable.{set_at}
use Rattle.nodes.proofs.Left.{listed}
use Rattle.records.specs.JobLists.{pairs_among}
use Rattle.records.proofs.writer.edges_len.Given as goal

abbrev pub invariant-loop-a : goal.invariant-loop-a
invariant-loop-a l =
    let items : List ℕ = members capacity (left_of l.a-iterator.set l.a-iterator.at l.a-iterator.left) in record {
      can : goal.iterator-loop-a.can_next l.a-iterator;
      ends : goal.iterator-loop-a.is_finite l.a-iterator;
      rest : member l.left ≡ listed items;
      sum : l.len + length (pairs_among (set_at l.graph) items) ≡ length (pairs_among (set_at l.graph) (members capacity (member l.fn.nodes)));
    }
