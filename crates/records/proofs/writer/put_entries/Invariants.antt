use Prim.Native.Nat.{ℕ, ◌+◌}
use mathlib.Core.Path.{◌≡◌}
use mathlib.Core.List.{List}
use lib.ListN.{length}
use Rattle.nodes.specs.Row.{members}
use Rattle.nodes.specs.NodeSet.{capacity, member, left_of}
use Rattle.nodes.specs.SetTable.{set_at}
use Rattle.records.specs.Splice.{splice}
use Rattle.records.specs.Writing.{set_bytes}
use Rattle.records.proofs.writer.put_entries.Given as goal

abbrev pub invariant-loop-u : goal.invariant-loop-u
invariant-loop-u l =
    let items : List ℕ = members capacity (left_of l.u-iterator.set l.u-iterator.at l.u-iterator.left) in record {
      can : goal.iterator-loop-u.can_next l.u-iterator;
      ends : goal.iterator-loop-u.is_finite l.u-iterator;
      size : length l.out ≡ length l.fn.out;
      place : l.p + length (set_bytes capacity (set_at l.sets) items) ≡ l.fn.at + length (set_bytes capacity (set_at l.sets) (members capacity (member l.fn.nodes)));
      bytes : splice l.p (set_bytes capacity (set_at l.sets) items) l.out ≡ splice l.fn.at (set_bytes capacity (set_at l.sets) (members capacity (member l.fn.nodes))) l.fn.out;
    }
