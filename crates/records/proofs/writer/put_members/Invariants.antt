use Prim.Native.Nat.{ℕ, ◌+◌}
use mathlib.Core.Path.{◌≡◌}
use mathlib.Core.List.{List}
use lib.ListN.{length}
use Rattle.nodes.specs.Row.{count, members}
use Rattle.nodes.specs.NodeSet.{capacity, member, left_of}
use Rattle.records.specs.Splice.{splice}
use Rattle.records.proofs.writer.put_members.Given as goal

abbrev pub invariant-loop-k : goal.invariant-loop-k
invariant-loop-k l =
    let items : List ℕ = members capacity (left_of l.k-iterator.set l.k-iterator.at l.k-iterator.left) in record {
      can : goal.iterator-loop-k.can_next l.k-iterator;
      ends : goal.iterator-loop-k.is_finite l.k-iterator;
      size : length l.out ≡ length l.fn.out;
      place : l.p + length items ≡ l.fn.at + count capacity (member l.fn.s);
      bytes : splice l.p items l.out ≡ splice l.fn.at (members capacity (member l.fn.s)) l.fn.out;
    }
