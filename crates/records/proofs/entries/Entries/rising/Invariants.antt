use mathlib.Core.Path.{◌≡◌}
use Rattle.records.specs.FlowFile.{entries_of, listed, entries_rise}
use Rattle.records.proofs.entries.Entries.rising.Given as goal

abbrev pub invariant-loop-e : goal.invariant-loop-e
invariant-loop-e l = entries_rise l.low (listed (entries_of l.e-iterator.rest.now)) ≡ entries_rise 0 (listed (entries_of l.self.rest.now))
