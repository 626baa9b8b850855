use Prim.Native.Nat.{ℕ, ◌+◌, ◌*◌, ◌≤◌}
use mathlib.Core.Path.{◌≡◌, ap, ◌∙◌}
use mathlib.Core.Bool.{Bool}
use native.Mathlib.Omega.{arith}
use borrow.Author.Rules.{rules}
use lib.ListN.{length}
use Rattle.nodes.specs.Row.{count, members}
use Rattle.nodes.specs.NodeSet.{capacity, member, left_of}
use Rattle.nodes.specs.SetTable.{set_at}
use Rattle.records.specs.Writing.{set_bytes}
use Rattle.records.proofs.WritingLoops.{entry_length, entries_most, no_entries}
use Rattle.records.proofs.writer.entries_len.Goals as goal
use Rattle.records.proofs.writer.entries_len.Goals.{After-count}

pub loop-u-init : goal.loop-u-init
loop-u-init c =
    let a = c.args in
    let it = c.into_iter-u-iterator.result in
    let e : left_of it.set it.at it.left ≡ member a.nodes = search rules in
    record { can = tt; ends = tt; sum = omega (arith, ap (λ (f : ℕ → Bool). length (set_bytes capacity (set_at a.sets.now) (members capacity f))) e) }

-- no more than all entries of a table
small : (c : After-count) → c.loop-u.len + (2 + c.count.result) ≤ capacity * (capacity + 2)
small c =
    let g = c.args.sets.now in
    let size = entry_length (set_at g) c.in-Some.u _ _ c.in-Some.ensures.steps in
    let same = c.count.ensures ∙ ap (count capacity) c.set_at.ensures in
    omega (arith, size, same, entries_most (set_at g) (member c.args.nodes), c.loop-u.invariant.sum)

pub overflow_add-len : goal.overflow_add-len
overflow_add-len c = omega (arith, small (goal.at.overflow_add-len c).After-count)

pub overflow_add-len-in-loop-u : goal.overflow_add-len-in-loop-u
overflow_add-len-in-loop-u c = omega (arith, small (goal.at.overflow_add-len-in-loop-u c).After-count)

pub loop-u-preserved : goal.loop-u-preserved
loop-u-preserved c =
    let size = entry_length (set_at c.args.sets.now) c.in-Some.u _ _ c.in-Some.ensures.steps in
    let same = c.count.ensures ∙ ap (count capacity) c.set_at.ensures in
    record { can = tt; ends = tt; sum = omega (arith, size, same, c.loop-u.invariant.sum) }

pub returns : goal.returns
returns c = omega (arith, ap length (no_entries (set_at c.args.sets.now) _ c.in-None.ensures.steps.0), c.loop-u.invariant.sum)
