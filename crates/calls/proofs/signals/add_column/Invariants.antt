use mathlib.Core.Path.{◌≡◌}
use mathlib.Core.Bool.{Bool}
use Prim.Native.Nat.{ℕ}
use lib.Dec.{T}
use lib.ListN.{length}
use Rattle.nodes.specs.Row.{members}
use Rattle.nodes.specs.NodeSet.{capacity, member, left_of}
use Rattle.nodes.proofs.Left.{listed}
use Rattle.calls.specs.Loaded.{set_bits}
use Rattle.calls.proofs.signals.add_column.Given as goal

abbrev pub invariant-loop-j : goal.invariant-loop-j
invariant-loop-j l =
    let left : ℕ → Bool = left_of l.j-iterator.set l.j-iterator.at l.j-iterator.left in record {
      can : goal.iterator-loop-j.can_next l.j-iterator;
      ends : goal.iterator-loop-j.is_finite l.j-iterator;
      size : length l.list ≡ length l.fn.list;
      within : (v : ℕ) → T (listed (members capacity left) v) → T (member l.fn.s v);
      bits : set_bits l.width l.fn.i (members capacity left) l.list ≡ set_bits l.width l.fn.i (members capacity (member l.fn.s)) l.fn.list;
    }
