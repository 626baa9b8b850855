use mathlib.Core.Path.{◌≡◌}
use mathlib.Core.List.{◌++◌}
use lib.ListN.{drop}
use Rattle.nodes.specs.Lists.{list_of}
use Rattle.angles.proofs.AngleRecord.{inferred_at}
use Rattle.angles.proofs.infer_each.Given as goal

abbrev pub invariant-loop-u : goal.invariant-loop-u
invariant-loop-u l = l.out ≡ list_of l.u (inferred_at l.planes l.angles) ++ drop l.u l.initial.out
