use mathlib.Core.Path.{◌≡◌}
use lib.ListN.{drop}
use Rattle.nodes.specs.Lists.{all}
use Rattle.records.proofs.ReadingMeasurements.{zero_at}
use Rattle.records.proofs.questions.zero_at.Given as goal

abbrev pub invariant-loop-u : goal.invariant-loop-u
invariant-loop-u l = all (zero_at l.bytes) l.nodes ≡ all (zero_at l.bytes) (drop l.u-index l.nodes)
