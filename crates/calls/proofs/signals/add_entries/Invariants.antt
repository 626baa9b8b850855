use mathlib.Core.Path.{◌≡◌}
use mathlib.Core.Bool.{true, false}
use Rattle.nodes.specs.SetTable.{set_at}
use Rattle.records.specs.FlowFile.{entries_of, listed}
use Rattle.calls.proofs.BuildingSignals.{IsEntered, list_up_to}
use Rattle.calls.proofs.signals.add_entries.Given as goal

abbrev pub invariant-loop-e : goal.invariant-loop-e
invariant-loop-e l = IsEntered l.n (listed (entries_of l.sets)) (listed (entries_of l.e-iterator.rest.now)) × (l.rows ≡ list_up_to l.n (set_at l.graph) false (listed (entries_of l.sets)) (listed (entries_of l.e-iterator.rest.now)))
    × (l.odds ≡ list_up_to l.n (set_at l.graph) true (listed (entries_of l.sets)) (listed (entries_of l.e-iterator.rest.now)))
