use Prim.Native.Nat.{ℕ, ◌+◌, ◌*◌}
use mathlib.Core.Path.{◌≡◌, refl, sym, ap, ◌∙◌}
use mathlib.Core.Bool.{Bool}
use native.Mathlib.Omega.{arith}
use borrow.Author.Rules.{rules}
use lib.ListN.{length}
use Rattle.nodes.specs.Row.{count, members}
use Rattle.nodes.specs.NodeSet.{capacity, member, left_of}
use Rattle.nodes.specs.SetTable.{set_at}
use Rattle.nodes.proofs.Left.{listed, all_members, taken}
use Rattle.nodes.proofs.Remove.{removed}
use Rattle.records.specs.JobLists.{pairs_among}
use Rattle.records.proofs.WritingJobs.{among_most, edges_none, edges_length}
use Rattle.records.proofs.writer.edges_len.Goals as goal
use Rattle.records.proofs.writer.edges_len.Goals.{After-count}

-- what is left behind node a: those that the iterator has then
rest : (c : After-count) → let n = c.next.new.self in member c.without-left.result ≡ listed (members capacity (left_of n.set n.at n.left))
rest c =
    let l = c.loop-a in
    let left = left_of l.a-iterator.set l.a-iterator.at l.a-iterator.left in
    let t = taken capacity left _ _ c.in-Some.a refl c.in-Some.ensures.steps in
    c.without-left.ensures ∙ ap (λ (s : ℕ → Bool). removed s c.in-Some.a) l.invariant.rest ∙ ap (removed (listed (members capacity left))) t.least ∙ sym t.rest

-- the bytes from here on: its edges, and those among the nodes that are left then
size : (c : After-count) → let l = c.loop-a.a-iterator in let n = c.next.new.self in
    length (pairs_among (set_at c.args.graph.now) (members capacity (left_of l.set l.at l.left)))
    ≡ 2 * count capacity (member c.intersection.result) + length (pairs_among (set_at c.args.graph.now) (members capacity (left_of n.set n.at n.left)))
size c =
    edges_length c.in-Some.a _ _ c.in-Some.ensures.steps (set_at c.args.graph.now) _ (member c.without-left.result) (member c.set_at.result) (member c.intersection.result) refl (rest c) c.set_at.ensures c.intersection.ensures

pub loop-a-init : goal.loop-a-init
loop-a-init c =
    let a = c.args in
    let it = c.into_iter-a-iterator.result in
    let e : left_of it.set it.at it.left ≡ member a.nodes = search rules in
    record { can = tt; ends = tt; rest = sym (all_members a.nodes _ e); sum = omega (arith, ap (λ (f : ℕ → Bool). length (pairs_among (set_at a.graph.now) (members capacity f))) e) }

pub overflow_add-len : goal.overflow_add-len
overflow_add-len c =
    let here = (goal.at.overflow_add-len c).After-count in
    omega (arith, size here, c.count.ensures, c.loop-a.invariant.sum, among_most (set_at c.args.graph.now) (member c.args.nodes))

pub overflow_mul-len : goal.overflow_mul-len
overflow_mul-len c =
    let here = (goal.at.overflow_mul-len c).After-count in
    omega (arith, size here, c.count.ensures, c.loop-a.invariant.sum, among_most (set_at c.args.graph.now) (member c.args.nodes))

pub loop-a-preserved : goal.loop-a-preserved
loop-a-preserved c =
    let here = (goal.at.loop-a-preserved c).After-count in
    record { can = tt; ends = tt; rest = rest here; sum = omega (arith, size here, c.count.ensures, c.loop-a.invariant.sum) }

pub returns : goal.returns
returns c = omega (arith, ap length (edges_none (set_at c.args.graph.now) _ c.in-None.ensures.steps.0), c.loop-a.invariant.sum)
