use mathlib.Core.Path.{◌≡◌}
use mathlib.Core.Bool.{true}
use Rattle.nodes.specs.Row.{all_below}
use Rattle.nodes.specs.NodeSet.{member}
use Rattle.angles.proofs.AngleRecord.{allowed_at}
use Rattle.angles.proofs.all_allowed.Given as goal

abbrev pub invariant-loop-u : goal.invariant-loop-u
invariant-loop-u l = all_below l.u (allowed_at (member l.outputs) l.angles) ≡ true
