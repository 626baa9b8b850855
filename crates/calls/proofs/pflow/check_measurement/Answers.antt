use mathlib.Core.Path.{◌≡◌, sym, ap, ap₂, ◌∙◌}
use mathlib.Core.Bool.{Bool, not}
use mathlib.Core.Option.{Option}
use borrow.Author.Tests.{not-true, not-false}
use Rattle.nodes.specs.Row.{any_below}
use Rattle.nodes.specs.NodeSet.{member, capacity}
use Rattle.nodes.proofs.Logic.{is_true, is_false, unless_in, unless_out}
use Rattle.flows.specs.Job.{own}
use Rattle.answers.specs.Answer.{Refusal}
use Rattle.verdicts.specs.Verdict.{ask, ◌next◌}
use Rattle.calls.specs.Loaded.{first_in}
use Rattle.calls.proofs.Asking.{first_none, first_some, ask_yes, ask_no, next_stops, next_goes}
use Rattle.calls.proofs.pflow.check_measurement.Goals as goal
use Rattle.calls.proofs.pflow.check_measurement.Goals.{After-own_holds, Start}

-- what is asked of the nodes that are wrong

abbrev wrong-ask : Start → Option Refusal
wrong-ask s = first_in (member s.args.wrong) (λ k. record { number = 19; a = s.args.i; b = 0 })

-- no node is wrong, and the call's answer is what is asked of node i

abbrev wrong-ask-at-After-own_holds : After-own_holds → Option Refusal
wrong-ask-at-After-own_holds s = first_in (member s.args.wrong) (λ k. record { number = 19; a = s.args.i; b = 0 })

last : (c : After-own_holds) → let a = c.args in (wrong-ask-at-After-own_holds c next ask (own a.measurement (member a.set a.i) (member a.odd a.i)) 19 a.i 0) ≡ ask c.own_holds.result 19 a.i 0
last c =
    let a = c.args in
    let d = member a.wrong in
    next_goes (wrong-ask-at-After-own_holds c) _ (sym (first_none d _ (is_false (any_below capacity d) (unless_out c.is_empty.result (any_below capacity d) c.is_empty.ensures (ap not c.if-not-is_empty.false)))))
    ∙ ap (λ (b : Bool). ask b 19 a.i 0) (sym (c.own_holds.ensures ∙ ap₂ (own a.measurement) c.has.ensures c.has-2.ensures))

pub returns-then-not-is_empty : goal.returns-then-not-is_empty
returns-then-not-is_empty c =
    let a = c.args in
    let d = member a.wrong in
    sym (next_stops (wrong-ask (goal.at.returns-then-not-is_empty c).Start) _ _ (sym (first_some d _ (is_true (any_below capacity d) (unless_in c.is_empty.result (any_below capacity d) c.is_empty.ensures (ap not c.if-not-is_empty.true))))))

pub returns-then-not-own_holds : goal.returns-then-not-own_holds
returns-then-not-own_holds c = sym (last (goal.at.returns-then-not-own_holds c).After-own_holds ∙ ask_no c.own_holds.result 19 c.args.i 0 (not-true _ (ap not c.if-not-own_holds.true)))

pub returns : goal.returns
returns c = sym (last (goal.at.returns c).After-own_holds ∙ ask_yes c.own_holds.result 19 c.args.i 0 (not-false _ (ap not c.if-not-own_holds.false)))
