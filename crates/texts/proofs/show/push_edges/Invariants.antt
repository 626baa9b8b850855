use Rattle.std.proofs.Common.{◌≡◌}
use Rattle.std.specs.Iterator.Adapters.{enumerate_source, enumerate_count}
use Rattle.std.specs.Slice.Iter.{chunks_exact_rest, chunks_exact_size}
use Rattle.texts.specs.Shown.{shown_edges}
use Rattle.texts.proofs.Placed.{Leads}
use Rattle.texts.proofs.show.push_edges.Given as goal

abbrev pub invariant-loop-i : goal.invariant-loop-i
invariant-loop-i l =
    let it = l.i-iterator in
    (goal.iterator-loop-i).can_next it
    × (goal.iterator-loop-i).is_finite it
    × (chunks_exact_size (enumerate_source it) ≡ 2)
    × Leads l.text.items (shown_edges (enumerate_count it) (chunks_exact_rest (enumerate_source it))) l.initial.text.items (shown_edges 0 l.edges)
