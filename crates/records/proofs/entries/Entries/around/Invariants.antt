use lib.ListN.{length}
use Rattle.records.proofs.Around.{IsUpTo}
use Rattle.records.proofs.entries.Entries.around.Given as goal

abbrev pub invariant-loop-entry : goal.invariant-loop-entry
invariant-loop-entry l = IsUpTo l.sets l.rest l.u

abbrev pub decreases-loop-entry : goal.decreases-loop-entry
decreases-loop-entry l = length l.rest
