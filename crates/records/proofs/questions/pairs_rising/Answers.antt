use mathlib.Core.Path.{◌≡◌, sym, ap, ◌∙◌}
use mathlib.Core.List.{List}
use Prim.Native.Nat.{ℕ, ◌+◌, ◌%◌}
use native.Mathlib.Omega.{arith}
use lib.ListN.{length, length-append}
use Rattle.std.specs.Slice.Iter.{chunks_exact_rest, chunks_exact_size}
use Rattle.records.specs.JobFile.{pairs_rise}
use Rattle.records.proofs.ReadingLoops.{pairs_start, pairs_end, pairs_no, pairs_low, pairs_yes}
use Rattle.records.proofs.questions.pairs_rising.Goals as goal
use Rattle.records.proofs.questions.pairs_rising.Goals.{then-a-b-via-then-a-b, then-a-b-via-else-a-b+then-key-last}

pub loop-edge-init : goal.loop-edge-init
loop-edge-init c =
    let same = c.into_iter-edge-iterator.ensures.into_iter_gives in
    let made = c.chunks_exact-edge-items.ensures in
    let rest : chunks_exact_rest c.into_iter-edge-iterator.result ≡ c.args.edges.now = ap chunks_exact_rest same ∙ made.rest in
    (ap chunks_exact_size same ∙ made.size, ap (λ (s : List ℕ). length s % 2) rest ∙ c.requires, pairs_start c.args.edges.now ∙ sym (ap (pairs_rise 1) rest))

pub returns-then-a-b : goal.returns-then-a-b
returns-then-a-b c =
    let l = c.loop-edge in
    let (size, whole, now) = l.invariant in
    let (kept, (cut, long), rem) = c.in-Some.ensures.steps in
    let two : length c.in-Some.edge.now ≡ 2 = long ∙ size in
    let a = c.from-a.ensures in
    let b = c.from-b.ensures in
    elim c.then-a-b.branch [
      | then-a-b-via-then-a-b w ↦ sym (now ∙ pairs_no (l.last + 1) _ c.in-Some.edge.now _ cut two (omega (arith, w.if-a-b.true)))
      | then-a-b-via-else-a-b+then-key-last w ↦ sym (now ∙ pairs_low (l.last + 1) _ c.in-Some.edge.now _ cut two (omega (arith, w.if-a-b.false)) (omega (arith, w.if-key-last.true)))
    ]

pub loop-edge-preserved : goal.loop-edge-preserved
loop-edge-preserved c =
    let l = c.loop-edge in
    let (size, whole, now) = l.invariant in
    let (kept, (cut, long), rem) = c.in-Some.ensures.steps in
    let e = c.in-Some.edge.now in
    let rest = chunks_exact_rest c.next.new.self in
    let two : length e ≡ 2 = long ∙ size in
    let a = c.from-a.ensures in
    let b = c.from-b.ensures in
    (kept ∙ size, omega (arith, ap length cut, length-append e rest, two, whole), rw (a, b) (now ∙ pairs_yes (l.last + 1) _ e rest cut two (omega (arith, c.if-a-b.false)) (omega (arith, c.if-key-last.false))))

pub returns : goal.returns
returns c =
    let l = c.loop-edge in
    let (size, whole, now) = l.invariant in
    let (kept, short, same) = c.in-None.ensures.steps in
    sym (now ∙ pairs_end (l.last + 1) (chunks_exact_rest l.edge-iterator) (omega (arith, short, size)) whole)
