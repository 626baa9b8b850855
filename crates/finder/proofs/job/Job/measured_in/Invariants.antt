use mathlib.Core.Path.{◌≡◌}
use mathlib.Core.Bool.{◌||◌, ◌&&◌}
use lib.Dec.{eqb, ltb}
use lib.ListN.{get_or}
use Rattle.nodes.specs.NodeSet.{member}
use Rattle.finder.proofs.job.Job.measured_in.Given as goal

abbrev pub invariant-loop-u : goal.invariant-loop-u
invariant-loop-u l = member l.found ≡ (λ u. ltb u l.u && (eqb (get_or l.self.measured.now u 0) l.a || eqb (get_or l.self.measured.now u 0) l.b))
