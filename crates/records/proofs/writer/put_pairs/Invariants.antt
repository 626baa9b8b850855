use Prim.Native.Nat.{ℕ, ◌+◌, ◌*◌}
use mathlib.Core.Path.{◌≡◌}
use mathlib.Core.List.{List}
use lib.ListN.{length}
use Rattle.nodes.specs.Row.{count, members}
use Rattle.nodes.specs.NodeSet.{capacity, member, left_of}
use Rattle.records.specs.JobLists.{pairs_with}
use Rattle.records.specs.Splice.{splice}
use Rattle.records.proofs.writer.put_pairs.Given as goal

abbrev pub invariant-loop-b : goal.invariant-loop-b
invariant-loop-b l =
    let items : List ℕ = members capacity (left_of l.b-iterator.set l.b-iterator.at l.b-iterator.left) in record {
      can : goal.iterator-loop-b.can_next l.b-iterator;
      ends : goal.iterator-loop-b.is_finite l.b-iterator;
      size : length l.out ≡ length l.fn.out;
      place : l.p + 2 * length items ≡ l.fn.at + 2 * count capacity (member l.fn.s);
      bytes : splice l.p (pairs_with l.a items) l.out ≡ splice l.fn.at (pairs_with l.a (members capacity (member l.fn.s))) l.fn.out;
    }
