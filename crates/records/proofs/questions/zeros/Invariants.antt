use mathlib.Core.Path.{◌≡◌}
use Rattle.nodes.specs.Row.{count}
use Rattle.records.proofs.ReadingMeasurements.{zero_at}
use Rattle.records.proofs.questions.zeros.Given as goal

abbrev pub invariant-loop-byte : goal.invariant-loop-byte
invariant-loop-byte l = l.found ≡ count l.byte-index (zero_at l.bytes)
