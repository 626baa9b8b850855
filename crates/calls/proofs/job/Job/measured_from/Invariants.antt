use mathlib.Core.Path.{◌≡◌}
use mathlib.Core.Bool.{◌&&◌}
use Prim.Native.Nat.{ℕ}
use lib.Dec.{leb}
use lib.ListN.{get_or}
use Rattle.nodes.specs.NodeSet.{member}
use Rattle.calls.specs.Loaded.{within}
use Rattle.calls.proofs.job.Job.measured_from.Given as goal

abbrev pub invariant-loop-v : goal.invariant-loop-v
invariant-loop-v l = (u : ℕ) → member l.s u ≡ within l.v u && leb l.low (get_or l.self.measured.now u 0)
