use mathlib.Core.Path.{◌≡◌}
use mathlib.Core.Bool.{◌||◌}
use Prim.Native.Nat.{ℕ}
use lib.ListN.{drop}
use Rattle.nodes.specs.NodeSet.{member}
use Rattle.records.proofs.ReadingLoops.{lists}
use Rattle.records.proofs.common.set_of.Given as goal

abbrev pub invariant-loop-v : goal.invariant-loop-v
invariant-loop-v l = ((u : ℕ) → lists l.nodes u ≡ member l.s u || lists (drop l.v-index l.nodes) u)
