use Prim.Native.Nat.{ℕ, ◌<◌}
use mathlib.Core.Path.{◌≡◌, refl, sym, ap, ◌∙◌}
use mathlib.Core.Bool.{Bool, ◌&&◌, ◌||◌}
use mathlib.Core.List.{List}
use native.Mathlib.Omega.{arith}
use lib.Dec.{eqb, ltb}
use lib.ListN.{length, get_or}
use Rattle.std.specs.Slice.Iter.{chunks_exact_rest, chunks_exact_size}
use Rattle.nodes.specs.Lists.{all}
use Rattle.nodes.specs.NodeSet.{capacity}
use Rattle.nodes.specs.SetTable.{set_at}
use Rattle.nodes.proofs.Logic.{or_false}
use Rattle.records.specs.JobFile.{has_edge}
use Rattle.calls.proofs.LoadingEdges.{cleared, has_edge_end, has_edge_more, both_below}
use borrow.Author.Rules.{rules}
use Rattle.calls.proofs.load.load_graph.Goals as goal
use Rattle.calls.proofs.load.load_graph.Goals.{After-next}

pub loop-edge-init : goal.loop-edge-init
loop-edge-init c =
    let a = c.args in
    let same = c.into_iter-edge-iterator.ensures.into_iter_gives in
    let made = c.chunks_exact-edge-items.ensures in
    let rest : chunks_exact_rest c.into_iter-edge-iterator.result ≡ a.edges.now = ap chunks_exact_rest same ∙ made.rest in (
      ap chunks_exact_size same ∙ made.size,
      refl,
      ap (all (λ v. ltb v capacity)) rest ∙ c.requires.1,
      λ u v. ap (λ (s : List ℕ). has_edge s u v) (sym rest) ∙ ap (λ (b : Bool). b || has_edge (chunks_exact_rest c.into_iter-edge-iterator.result) u v) (sym (cleared c.clear_table.new.table (length a.graph.now) c.clear_table.ensures u v)),
    )

pub join-requires : goal.join-requires
join-requires c =
    let (size, words, low, now) = c.loop-edge.invariant in
    let (kept, (cut, long), rem) = c.in-Some.ensures.steps in
    let (a, b, r) = both_below _ c.in-Some.edge.now _ cut (long ∙ size) low in
    (search rules, omega (arith, a, c.from-a.ensures), omega (arith, b, c.from-b.ensures))

pub join-requires-in-loop-edge : goal.join-requires-in-loop-edge
join-requires-in-loop-edge c =
    let (size, words, low, now) = c.loop-edge.invariant in
    let (kept, (cut, long), rem) = c.in-Some.ensures.steps in
    let (a, b, r) = both_below _ c.in-Some.edge.now _ cut (long ∙ size) low in
    (search rules, omega (arith, b, c.from-b.ensures), omega (arith, a, c.from-a.ensures))

pub loop-edge-preserved : goal.loop-edge-preserved
loop-edge-preserved c =
    let l = c.loop-edge in
    let (size, words, low, now) = l.invariant in
    let (kept, (cut, long), rem) = c.in-Some.ensures.steps in
    let e = c.in-Some.edge.now in
    let rest = chunks_exact_rest c.next.new.self in
    let (a, b, r) = both_below _ e rest cut (long ∙ size) low in
    let from : (c.from-a.result ≡ get_or e 0 0) × (c.from-b.result ≡ get_or e 1 0) = (c.from-a.ensures, c.from-b.ensures) in (
      kept ∙ size,
      search rules,
      r,
      λ u v. now u v ∙ has_edge_more _ e rest cut (long ∙ size) u v (set_at l.graph u v)
          ∙ rw (← from.0, ← from.1) (ap (λ (t : Bool). t || has_edge rest u v)
          (sym (c.join-in-loop-edge.ensures u v ∙ ap (λ (t : Bool). t || (eqb u c.from-b.result && eqb v c.from-a.result)) (c.join.ensures u v)))),
    )

pub returns : goal.returns
returns c u v =
    let l = c.loop-edge in
    let (size, words, low, now) = l.invariant in
    let (kept, short, same) = c.in-None.ensures.steps in
    let few : length (chunks_exact_rest l.edge-iterator) < 2 = omega (arith, short, size) in
    sym (now u v ∙ ap (λ (t : Bool). set_at l.graph u v || t) (has_edge_end (chunks_exact_rest l.edge-iterator) u v few) ∙ or_false (set_at l.graph u v))
