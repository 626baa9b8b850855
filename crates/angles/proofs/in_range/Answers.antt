use lib.Ieee.{of_bits}
use Rattle.angles.specs.Angle.{in_range}
use Rattle.angles.proofs.in_range.Goals as goal

pub returns-then-not-x : goal.returns-then-not-x
unfolding in_range of_bits
returns-then-not-x c = simp c.if-not-x.true

pub returns-else-not-x : goal.returns-else-not-x
unfolding in_range of_bits
returns-else-not-x c = simp c.if-not-x.false
