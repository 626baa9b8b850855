use Prim.Native.Nat.{ℕ, ◌+◌, ◌*◌}
use mathlib.Core.Path.{◌≡◌, refl, sym, ap, ◌∙◌}
use mathlib.Core.Bool.{Bool}
use mathlib.Core.List.{List}
use native.Mathlib.Omega.{arith}
use borrow.Author.Rules.{rules}
use lib.ListN.{length}
use Rattle.nodes.specs.Row.{count, members}
use Rattle.nodes.specs.NodeSet.{capacity, member, left_of}
use Rattle.nodes.specs.SetTable.{set_at}
use Rattle.nodes.proofs.Left.{listed, all_members, taken}
use Rattle.nodes.proofs.Remove.{removed}
use Rattle.records.specs.JobLists.{pairs_among}
use Rattle.records.specs.Splice.{splice}
use Rattle.records.proofs.Splice.{splice_none}
use Rattle.records.proofs.WritingJobs.{edges_none, edges_length, edges_step}
use Rattle.records.proofs.writer.put_edges.Goals as goal
use Rattle.records.proofs.writer.put_edges.Goals.{After-intersection}

-- what is left behind node a: those that the iterator has then
rest : (c : After-intersection) → let n = c.next.new.self in member c.without-left.result ≡ listed (members capacity (left_of n.set n.at n.left))
rest c =
    let l = c.loop-a in
    let left = left_of l.a-iterator.set l.a-iterator.at l.a-iterator.left in
    let t = taken capacity left _ _ c.in-Some.a refl c.in-Some.ensures.steps in
    c.without-left.ensures ∙ ap (λ (s : ℕ → Bool). removed s c.in-Some.a) l.invariant.rest ∙ ap (removed (listed (members capacity left))) t.least ∙ sym t.rest

-- the bytes from here on: its edges, and those among the nodes that are left then
size : (c : After-intersection) → let l = c.loop-a.a-iterator in let n = c.next.new.self in
    length (pairs_among (set_at c.args.graph.now) (members capacity (left_of l.set l.at l.left)))
    ≡ 2 * count capacity (member c.intersection.result) + length (pairs_among (set_at c.args.graph.now) (members capacity (left_of n.set n.at n.left)))
size c =
    edges_length c.in-Some.a _ _ c.in-Some.ensures.steps (set_at c.args.graph.now) _ (member c.without-left.result) (member c.set_at.result) (member c.intersection.result) refl (rest c) c.set_at.ensures c.intersection.ensures

pub loop-a-init : goal.loop-a-init
loop-a-init c =
    let a = c.args in
    let it = c.into_iter-a-iterator.result in
    let e : left_of it.set it.at it.left ≡ member a.nodes = search rules in
    record {
      can = tt;
      ends = tt;
      rest = sym (all_members a.nodes _ e);
      size = refl;
      place = ap (λ (f : ℕ → Bool). a.at + length (pairs_among (set_at a.graph.now) (members capacity f))) e;
      bytes = ap (λ (f : ℕ → Bool). splice a.at (pairs_among (set_at a.graph.now) (members capacity f)) a.out.now) e;
    }

pub put_pairs-p-requires : goal.put_pairs-p-requires
put_pairs-p-requires c =
    let l = c.loop-a in
    let left = left_of l.a-iterator.set l.a-iterator.at l.a-iterator.left in
    let t = taken capacity left _ _ c.in-Some.a refl c.in-Some.ensures.steps in
    (t.small, omega (arith, size (goal.at.put_pairs-p-requires c).After-intersection, l.invariant.size, l.invariant.place))

pub loop-a-preserved : goal.loop-a-preserved
loop-a-preserved c =
    let l = c.loop-a in
    let put = c.put_pairs-p in
    let here = (goal.at.loop-a-preserved c).After-intersection in
    record {
      can = tt;
      ends = tt;
      rest = rest here;
      size = search rules;
      place = omega (arith, size here, put.ensures.value, l.invariant.place);
      bytes =
          edges_step c.in-Some.a _ _ c.in-Some.ensures.steps (set_at c.args.graph.now) _ (member c.without-left.result) (member c.set_at.result) (member c.intersection.result) refl (rest here) c.set_at.ensures c.intersection.ensures
          l.p put.result l.out put.new.out put.ensures.value (omega (arith, l.invariant.size, l.invariant.place)) put.ensures.out_after ∙ l.invariant.bytes;
    }

pub returns-clause-value : goal.returns-clause-value
returns-clause-value c = omega (arith, ap length (edges_none (set_at c.args.graph.now) _ c.in-None.ensures.steps.0), c.loop-a.invariant.place)

pub returns-clause-out_after : goal.returns-clause-out_after
returns-clause-out_after c =
    let l = c.loop-a in
    sym (splice_none l.p l.out) ∙ ap (λ (b : List ℕ). splice l.p b l.out) (sym (edges_none (set_at c.args.graph.now) _ c.in-None.ensures.steps.0)) ∙ l.invariant.bytes
