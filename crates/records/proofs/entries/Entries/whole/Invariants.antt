use mathlib.Core.Path.{◌≡◌}
use lib.ListN.{length}
use Rattle.nodes.specs.Options.{is_some}
use Rattle.records.specs.FlowFile.{entries_of}
use Rattle.records.proofs.entries.Entries.whole.Given as goal

abbrev pub invariant-loop-behind : goal.invariant-loop-behind
invariant-loop-behind l = is_some (entries_of l.rest) ≡ is_some (entries_of l.sets)

abbrev pub decreases-loop-behind : goal.decreases-loop-behind
decreases-loop-behind l = length l.rest
