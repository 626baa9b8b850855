use mathlib.Core.Bool.{not}
use mathlib.Core.Path.{◌≡◌, sym, ◌∙◌, fun_ext, ap}
use native.Mathlib.Omega.{arith}
use Rattle.nodes.specs.Row.{any_below}
use Rattle.nodes.specs.NodeSet.{member, capacity}
use Rattle.nodes.specs.SetTable.{set_at}
use Rattle.nodes.proofs.SetTable.{set_past}
use Rattle.nodes.proofs.Logic.{is_true, is_false, unless_in, unless_out}
use Rattle.calls.specs.Loaded.{first_in}
use Rattle.calls.proofs.Asking.{each_start, each_end, each_no, each_yes, first_none, first_some}
use Rattle.calls.proofs.AskingNodes.{input_first}
use Rattle.calls.proofs.validate.check_codomain.Invariants.{asks}
use Rattle.calls.proofs.validate.check_codomain.Goals as goal
use Rattle.calls.proofs.validate.check_codomain.Goals.{After-without-wrong}

-- what is asked of each node

-- node u is refused where the set that the code made, of the inputs in its set other than u, has a member

asked : (c : After-without-wrong) → let a = c.args in asks a.job.now a.flow.now c.loop-u.u ≡ first_in (member c.without-wrong.result) (λ k. record { number = 13; a = c.loop-u.u; b = 0 })
asked c =
    let u = c.loop-u.u in
    let a = c.args in
    input_first a.job.now.n u (set_at a.flow.now.sets.now u) (member a.job.now.inputs) (member c.without-wrong.result) (λ k h. set_past a.flow.now.sets.now u k h)
    (c.without-wrong.ensures ∙ fun_ext (λ k. rw (c.intersection-in-loop-u.ensures, c.intersection.ensures, c.set_of.ensures, c.below-all.ensures)))

pub loop-u-init : goal.loop-u-init
loop-u-init c = each_start _ _

pub returns-then-not-is_empty : goal.returns-then-not-is_empty
returns-then-not-is_empty c =
    let a = c.args in
    let d = member c.without-wrong.result in
    sym (c.loop-u.invariant ∙ each_no a.job.now.n c.loop-u.u (asks a.job.now a.flow.now) (omega arith) _
    (asked (goal.at.returns-then-not-is_empty c).After-without-wrong ∙ sym (first_some d (λ k. record { number = 13; a = c.loop-u.u; b = 0 }) (is_true _ (unless_in c.is_empty.result (any_below capacity d) c.is_empty.ensures (ap not c.if-not-is_empty.true))))))

pub loop-u-preserved : goal.loop-u-preserved
loop-u-preserved c =
    let a = c.args in
    let d = member c.without-wrong.result in (c.loop-u.invariant ∙ each_yes a.job.now.n c.loop-u.u (asks a.job.now a.flow.now) (omega arith)
    (asked (goal.at.loop-u-preserved c).After-without-wrong ∙ sym (first_none d (λ k. record { number = 13; a = c.loop-u.u; b = 0 }) (is_false _ (unless_out c.is_empty.result (any_below capacity d) c.is_empty.ensures (ap not c.if-not-is_empty.false))))))

pub returns : goal.returns
returns c =
    let a = c.args in
    sym (c.loop-u.invariant ∙ each_end a.job.now.n c.loop-u.u (asks a.job.now a.flow.now) (omega arith))
