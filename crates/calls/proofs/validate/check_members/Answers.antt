use mathlib.Core.Path.{◌≡◌, sym, ap, ◌∙◌, fun_ext}
use mathlib.Core.Bool.{Bool, not, beq}
use native.Mathlib.Omega.{arith}
use borrow.Author.Tests.{not-true, not-false}
use Rattle.nodes.specs.Row.{any_below}
use Rattle.nodes.specs.NodeSet.{member, capacity}
use Rattle.nodes.specs.SetTable.{set_at}
use Rattle.nodes.proofs.SetTable.{set_past}
use Rattle.calls.proofs.Asking.{each_start, each_end, each_no, each_yes, ask_yes, ask_no}
use Rattle.calls.proofs.AskingNodes.{any_within, domain_test}
use Rattle.calls.proofs.validate.check_members.Invariants.{asks}
use Rattle.calls.proofs.validate.check_members.Goals as goal
use Rattle.calls.proofs.validate.check_members.Goals.{After-has}

-- what is asked of each node

-- node u has a set exactly where it is no output

abbrev holds : After-has → Bool
holds c =
    let u = c.loop-u.u in
    let a = c.args in
    beq (any_below a.job.now.n (set_at a.flow.now.sets.now u)) (not (member a.job.now.outputs u))

-- the code's test is true just where that fails

asked : (c : After-has) → not (holds c) ≡ not (beq c.is_empty-empty.result c.has.result)
asked c =
    let u = c.loop-u.u in
    let a = c.args in
    let some_in = any_within a.job.now.n (set_at a.flow.now.sets.now u) (λ k g. set_past a.flow.now.sets.now u k g) in
    let empty : c.is_empty-empty.result ≡ not (any_below a.job.now.n (set_at a.flow.now.sets.now u)) = c.is_empty-empty.ensures ∙ ap not (ap (any_below capacity) (c.intersection.ensures ∙ fun_ext (λ k. rw (c.set_of.ensures, c.below-all.ensures))) ∙ some_in) in
    sym (domain_test c.is_empty-empty.result (any_below a.job.now.n (set_at a.flow.now.sets.now u)) (member a.job.now.outputs u) empty) ∙ ap (λ (b : Bool). not (beq c.is_empty-empty.result b)) (sym c.has.ensures)

pub loop-u-init : goal.loop-u-init
loop-u-init c = each_start _ _

pub returns-then-empty-has : goal.returns-then-empty-has
returns-then-empty-has c =
    let a = c.args in
    sym (c.loop-u.invariant ∙ each_no a.job.now.n c.loop-u.u (asks a.job.now a.flow.now) (omega arith) _ (ask_no (holds (goal.at.returns-then-empty-has c).After-has) 14 c.loop-u.u 0 (not-true (holds (goal.at.returns-then-empty-has c).After-has) (asked (goal.at.returns-then-empty-has c).After-has ∙ c.if-empty-has.true))))

pub loop-u-preserved : goal.loop-u-preserved
loop-u-preserved c =
    let a = c.args in
    (c.loop-u.invariant ∙ each_yes a.job.now.n c.loop-u.u (asks a.job.now a.flow.now) (omega arith) (ask_yes (holds (goal.at.loop-u-preserved c).After-has) 14 c.loop-u.u 0 (not-false (holds (goal.at.loop-u-preserved c).After-has) (asked (goal.at.loop-u-preserved c).After-has ∙ c.if-empty-has.false))))

pub returns : goal.returns
returns c =
    let a = c.args in
    sym (c.loop-u.invariant ∙ each_end a.job.now.n c.loop-u.u (asks a.job.now a.flow.now) (omega arith))
