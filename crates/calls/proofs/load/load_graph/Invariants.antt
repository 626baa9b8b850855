use Prim.Native.Nat.{ℕ}
use mathlib.Core.Path.{◌≡◌}
use mathlib.Core.Bool.{true, ◌||◌}
use lib.Dec.{ltb}
use lib.ListN.{length}
use Rattle.std.specs.Slice.Iter.{chunks_exact_rest, chunks_exact_size}
use Rattle.nodes.specs.Lists.{all}
use Rattle.nodes.specs.NodeSet.{capacity}
use Rattle.nodes.specs.SetTable.{set_at}
use Rattle.records.specs.JobFile.{has_edge}
use Rattle.calls.proofs.load.load_graph.Given as goal

abbrev pub invariant-loop-edge : goal.invariant-loop-edge
invariant-loop-edge l =
    (chunks_exact_size l.edge-iterator ≡ 2) × (length l.graph ≡ length l.initial.graph) × (all (λ v. ltb v capacity) (chunks_exact_rest l.edge-iterator) ≡ true)
    × ((u v : ℕ) → has_edge l.edges u v ≡ set_at l.graph u v || has_edge (chunks_exact_rest l.edge-iterator) u v)
