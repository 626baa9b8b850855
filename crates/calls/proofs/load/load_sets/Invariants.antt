use mathlib.Core.Path.{◌≡◌}
use mathlib.Core.Bool.{true, ◌||◌}
use Prim.Native.Nat.{ℕ}
use lib.ListN.{length}
use Rattle.nodes.specs.NodeSet.{member, capacity}
use Rattle.nodes.specs.SetTable.{set_at, table_words}
use Rattle.records.specs.FlowFile.{entries_of, listed, all_entries, entry_below, set_in, entry_in}
use Rattle.calls.proofs.load.load_sets.Given as goal

abbrev pub invariant-loop-e : goal.invariant-loop-e
invariant-loop-e l = (length l.table ≡ table_words) × (all_entries (entry_below capacity) (listed (entries_of l.e-iterator.rest.now)) ≡ true)
    × ((u v : ℕ) → set_in (listed (entries_of l.sets)) u v ≡ set_at l.table u v || set_in (listed (entries_of l.e-iterator.rest.now)) u v)
    × ((u : ℕ) → entry_in (listed (entries_of l.sets)) u ≡ member l.entries u || entry_in (listed (entries_of l.e-iterator.rest.now)) u)
