use Rattle.std.proofs.lemmas.Result.{err_from_is_err_and}
use mathlib.Core.Path.{◌≡◌, sym, ap, ◌∙◌}
use mathlib.Core.Bool.{Bool, true, not}
use Prim.Native.Nat.{ℕ, ◌≤◌, ◌<◌}
use native.Mathlib.Omega.{arith}
use borrow.Author.Tests.{not-true, not-false, lt-ltb, le-ltb}
use Rattle.nodes.specs.NodeSet.{member}
use Rattle.nodes.proofs.SetTable.{set_past}
use Rattle.flows.specs.Job.{Job}
use Rattle.records.specs.FlowFile.{Flow}
use Rattle.verdicts.specs.Verdict.{ask, each, later, neighbour_ask, causal_ask}
use Rattle.answers.specs.Refusals.{asked_of}
use Rattle.calls.specs.Loaded.{job_loaded, flow_loaded}
use Rattle.calls.proofs.Asking.{ask_yes, ask_no}
use Rattle.calls.proofs.AskingNodes.{order_plain}
use Rattle.calls.proofs.AskingDefinition.{pair_late, pair_around, pair_last}
use Rattle.calls.proofs.flow.check_pair.Goals as goal
use Rattle.calls.proofs.flow.check_pair.Goals.{After-has, After-in_order, After-set_at-around, Start}

abbrev G : Start → Job
G s = job_loaded s.args.job.now

abbrev F : Start → Flow
F s = flow_loaded s.args.flow.now

abbrev G-at-After-set_at-around : After-set_at-around → Job
G-at-After-set_at-around s = job_loaded s.args.job.now

abbrev F-at-After-set_at-around : After-set_at-around → Flow
F-at-After-set_at-around s = flow_loaded s.args.flow.now

late : (c : After-set_at-around) → later (G-at-After-set_at-around c) (F-at-After-set_at-around c) c.args.i c.args.k ≡ true
late c =
    let l : c.layer_of.result < c.layer_of-2.result = omega arith in
    rw (← c.layer_of.ensures, ← c.layer_of-2.ensures) (lt-ltb _ _ l)

abbrev G-at-After-in_order : After-in_order → Job
G-at-After-in_order s = job_loaded s.args.job.now

abbrev F-at-After-in_order : After-in_order → Flow
F-at-After-in_order s = flow_loaded s.args.flow.now

around : (c : After-in_order) → each c.args.job.now.n (neighbour_ask (G-at-After-in_order c) (F-at-After-in_order c) c.args.i c.args.k) ≡ asked_of c.in_order.result
around c =
    order_plain c.args.job.now.n c.args.i (F-at-After-in_order c).layer ((G-at-After-in_order c).edge c.args.k) (member c.intersection.result) (λ k l. set_past c.args.job.now.graph.now c.args.k k l)
    (λ k. ap (λ (f : ℕ → Bool). f k) c.intersection.ensures ∙ rw (c.set_at-around.ensures, c.not_later.ensures))
    ∙ sym c.in_order.ensures

-- the first two questions hold, and the call's answer is the third's

abbrev G-at-After-has : After-has → Job
G-at-After-has s = job_loaded s.args.job.now

abbrev F-at-After-has : After-has → Flow
F-at-After-has s = flow_loaded s.args.flow.now

late-at-After-has : (c : After-has) → later (G-at-After-has c) (F-at-After-has c) c.args.i c.args.k ≡ true
late-at-After-has c =
    let l : c.layer_of.result < c.layer_of-2.result = omega arith in
    rw (← c.layer_of.ensures, ← c.layer_of-2.ensures) (lt-ltb _ _ l)

around-at-After-has : (c : After-has) → each c.args.job.now.n (neighbour_ask (G-at-After-has c) (F-at-After-has c) c.args.i c.args.k) ≡ asked_of c.in_order.result
around-at-After-has c =
    order_plain c.args.job.now.n c.args.i (F-at-After-has c).layer ((G-at-After-has c).edge c.args.k) (member c.intersection.result) (λ k l. set_past c.args.job.now.graph.now c.args.k k l)
    (λ k. ap (λ (f : ℕ → Bool). f k) c.intersection.ensures ∙ rw (c.set_at-around.ensures, c.not_later.ensures))
    ∙ sym c.in_order.ensures

last : (c : After-has) → causal_ask (G-at-After-has c) (F-at-After-has c) c.args.i c.args.k ≡ ask c.has.result 18 c.args.i c.args.k
last c =
    pair_last (G-at-After-has c) (F-at-After-has c) c.args.i c.args.k (late-at-After-has c) (around-at-After-has c ∙ ap asked_of c.in_ok-in_order.was)
    ∙ ap (λ (b : Bool). ask b 18 c.args.i c.args.k) (sym (c.has.ensures ∙ rw c.set_at-around.ensures))

pub returns-then-layer_of : goal.returns-then-layer_of
returns-then-layer_of c = let l : c.layer_of-2.result ≤ c.layer_of.result = omega arith in
    pair_late (G (goal.at.returns-then-layer_of c).Start) (F (goal.at.returns-then-layer_of c).Start) c.args.i c.args.k (rw (← c.layer_of.ensures, ← c.layer_of-2.ensures) (le-ltb _ _ l))

pub returns-in_err-in_order : goal.returns-in_err-in_order
returns-in_err-in_order c = let t = ap asked_of c.in_err-in_order.was in
    let p = err_from_is_err_and c.from_residual.result c.from_residual.ensures.1 in rw (p.1, p.2) (sym (pair_around (G (goal.at.returns-in_err-in_order c).Start) (F (goal.at.returns-in_err-in_order c).Start) c.args.i c.args.k (late (goal.at.returns-in_err-in_order c).After-set_at-around) _ (around (goal.at.returns-in_err-in_order c).After-in_order ∙ t)))

pub returns-then-not-has : goal.returns-then-not-has
returns-then-not-has c = let a = c.args in sym (last (goal.at.returns-then-not-has c).After-has ∙ ask_no c.has.result 18 a.i a.k (not-true _ (ap not c.if-not-has.true)))

pub returns : goal.returns
returns c = let a = c.args in sym (last (goal.at.returns c).After-has ∙ ask_yes c.has.result 18 a.i a.k (not-false _ (ap not c.if-not-has.false)))
