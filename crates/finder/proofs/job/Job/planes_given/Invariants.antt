use lib.ListN.{get_or}
use mathlib.Core.Bool.{◌||◌}
use lib.Dec.{T}
use Rattle.nodes.specs.NodeSet.{member}
use Rattle.nodes.specs.Row.{all_below}
use Rattle.finder.specs.Searches.{is_plane}
use Rattle.finder.proofs.job.Job.planes_given.Given as goal

abbrev pub invariant-loop-u : goal.invariant-loop-u
invariant-loop-u l = T (all_below l.u (λ u. member l.self.outputs u || is_plane (get_or l.self.measured.now u 0)))
