use Prim.Native.Nat.{ℕ}
use mathlib.Core.Path.{◌≡◌}
use lib.ListN.{drop}
use Rattle.nodes.specs.Bit.{◌⊕◌}
use Rattle.nodes.specs.NodeSet.{member}
use Rattle.nodes.specs.SetTable.{set_at}
use Rattle.calls.specs.Loaded.{odd_among}
use Rattle.calls.proofs.signals.odd_of_members.Given as goal

abbrev pub invariant-loop-k : goal.invariant-loop-k
invariant-loop-k l = (v : ℕ) → odd_among (λ u. set_at l.graph u v) l.members ≡ member l.odd v ⊕ odd_among (λ u. set_at l.graph u v) (drop l.k-index l.members)
