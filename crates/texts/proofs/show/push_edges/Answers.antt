use Rattle.std.proofs.Common.{◌≡◌, ◌++◌, ℕ, List, get_or, rules, ap, ap₂, ◌∙◌}
use Rattle.std.specs.Iterator.Adapters.{enumerate_source, enumerate_count}
use Rattle.std.specs.Slice.Iter.{chunks_exact_rest, chunks_exact_size}
use Rattle.texts.specs.Shown.{shown_edge, shown_edges}
use Rattle.texts.proofs.Placed.{room_here, leads_on, leads_done}
use Rattle.texts.proofs.Showing.{edges_chunk, edges_short}
use Rattle.texts.proofs.show.push_edges.Goals.{In-Some}
use Rattle.texts.proofs.show.push_edges.Goals as goal

pub loop-i-init : goal.loop-i-init
loop-i-init c =
    let e = c.enumerate-i-items.ensures in
    let h = c.chunks_exact.ensures in
    rw c.into_iter-i-iterator.ensures.into_iter_gives (
      search rules,
      search rules,
      ap chunks_exact_size e.source ∙ h.size,
      record { same = ap₂ (λ (k : ℕ) (l : List ℕ). c.args.text.now.items ++ shown_edges k l) e.count (ap chunks_exact_rest e.source ∙ h.rest) },
    )

step : (c : In-Some) → let it = c.loop-i.i-iterator in
    shown_edges (enumerate_count it) (chunks_exact_rest (enumerate_source it)) ≡ shown_edge c.in-Some.i (get_or c.in-Some.edge.now 0 0) (get_or c.in-Some.edge.now 1 0) ++ shown_edges (enumerate_count c.next.new.self) (chunks_exact_rest (enumerate_source c.next.new.self))
step c =
    let it = c.loop-i.i-iterator in
    let (front, place, later, fits) = c.in-Some.ensures.steps in
    rw (place, later)
    (edges_chunk (enumerate_count it) c.in-Some.edge.now (chunks_exact_rest (enumerate_source it)) (chunks_exact_rest (enumerate_source c.next.new.self)) front.1.0 (front.1.1 ∙ c.loop-i.invariant.2))

pub push_edge-requires : goal.push_edge-requires
push_edge-requires c =
    let a = (goal.at.push_edge-requires c).In-Some in
    room_here c.loop-i.invariant.3 (shown_edge c.in-Some.i (get_or c.in-Some.edge.now 0 0) (get_or c.in-Some.edge.now 1 0)) (shown_edges (enumerate_count c.next.new.self) (chunks_exact_rest (enumerate_source c.next.new.self))) (step a) c.requires

pub loop-i-preserved : goal.loop-i-preserved
loop-i-preserved c =
    let a = (goal.at.loop-i-preserved c).In-Some in (
      search rules,
      search rules,
      c.in-Some.ensures.steps.0.0 ∙ c.loop-i.invariant.2,
      leads_on c.loop-i.invariant.3 (shown_edge c.in-Some.i (get_or c.in-Some.edge.now 0 0) (get_or c.in-Some.edge.now 1 0)) (shown_edges (enumerate_count c.next.new.self) (chunks_exact_rest (enumerate_source c.next.new.self))) _ (step a) c.push_edge.ensures,
    )

pub returns : goal.returns
returns c =
    let it = c.loop-i.i-iterator in
    leads_done c.loop-i.invariant.3 (edges_short (enumerate_count it) (chunks_exact_rest (enumerate_source it)) (rw c.loop-i.invariant.2 at c.in-None.ensures.steps.0.1.0))
