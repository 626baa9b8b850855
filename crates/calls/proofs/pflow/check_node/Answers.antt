use Rattle.std.proofs.lemmas.Result.{err_from_is_err_and}
use mathlib.Core.Path.{◌≡◌, sym, ap, ◌∙◌, fun_ext}
use mathlib.Core.Bool.{Bool, false, ◌&&◌}
use mathlib.Core.Option.{Option, none}
use Prim.Native.Nat.{ℕ}
use lib.Dec.{eqb}
use Rattle.nodes.specs.Row.{parity}
use Rattle.nodes.specs.NodeSet.{member}
use Rattle.nodes.specs.SetTable.{set_at}
use Rattle.nodes.proofs.SetTable.{set_past}
use Rattle.flows.specs.Job.{Job, odd, own}
use Rattle.flows.specs.Conditions.{member_excused, odd_excused, y_asked}
use Rattle.flows.specs.Numbers.{mode_number}
use Rattle.answers.specs.Answer.{Refusal}
use Rattle.records.specs.JobFile.{mode_pauli}
use Rattle.records.specs.FlowFile.{Flow}
use Rattle.verdicts.specs.Verdict.{ask, ◌next◌, each, member_ask, odd_ask, y_ask, own_ask, definition_ask}
use Rattle.answers.specs.Refusals.{asked_of}
use Rattle.calls.specs.Loaded.{job_loaded, flow_loaded, first_in}
use Rattle.calls.proofs.AskingNodes.{odd_past, order_excused, y_first}
use Rattle.calls.proofs.AskingDefinition.{node_output, node_members, node_odd, node_rest}
use Rattle.calls.proofs.pflow.check_node.Goals as goal
use Rattle.calls.proofs.pflow.check_node.Goals.{After-in_order, After-in_order-2, After-intersection-wrong, After-odd_of-odd, After-set_of-set, In_ok-in_order-2, Start}

abbrev G : Start → Job
G s = job_loaded s.args.job.now

abbrev F : Start → Flow
F s = flow_loaded s.args.flow.now

abbrev G-at-After-set_of-set : After-set_of-set → Job
G-at-After-set_of-set s = job_loaded s.args.job.now

plain : (c : After-set_of-set) → (G-at-After-set_of-set c).output c.args.i ≡ false
plain c = sym c.has.ensures ∙ c.if-has.false

abbrev G-at-After-in_order : After-in_order → Job
G-at-After-in_order s = job_loaded s.args.job.now

abbrev F-at-After-in_order : After-in_order → Flow
F-at-After-in_order s = flow_loaded s.args.flow.now

first : (c : After-in_order) → each c.args.job.now.n (member_ask (G-at-After-in_order c) (F-at-After-in_order c) (mode_number c.args.job.now.mode) c.args.i) ≡ asked_of c.in_order.result
first c =
    order_excused c.args.job.now.n c.args.i (F-at-After-in_order c).layer ((F-at-After-in_order c).set c.args.i) (member_excused (G-at-After-in_order c) (eqb (mode_number c.args.job.now.mode) mode_pauli)) (member c.intersection.result) (λ k l. set_past c.args.flow.now.sets.now c.args.i k l)
    (λ k. ap (λ (f : ℕ → Bool). f k) c.intersection.ensures ∙ rw (c.set_of-set.ensures, c.difference.ensures, c.not_later-early.ensures, c.requires.excused_by.members))
    ∙ sym c.in_order.ensures

abbrev G-at-After-odd_of-odd : After-odd_of-odd → Job
G-at-After-odd_of-odd s = job_loaded s.args.job.now

abbrev F-at-After-odd_of-odd : After-odd_of-odd → Flow
F-at-After-odd_of-odd s = flow_loaded s.args.flow.now

set-odd : (c : After-odd_of-odd) → member c.odd_of-odd.result ≡ odd (G-at-After-odd_of-odd c) ((F-at-After-odd_of-odd c).set c.args.i)
set-odd c =
    c.odd_of-odd.ensures ∙ fun_ext (λ v. ap (λ (x : ℕ → Bool). parity c.args.job.now.n (λ k. set_at c.args.job.now.graph.now k v && x k)) c.set_of-set.ensures)

abbrev G-at-After-in_order-2 : After-in_order-2 → Job
G-at-After-in_order-2 s = job_loaded s.args.job.now

abbrev F-at-After-in_order-2 : After-in_order-2 → Flow
F-at-After-in_order-2 s = flow_loaded s.args.flow.now

set-odd-at-After-in_order-2 : (c : After-in_order-2) → member c.odd_of-odd.result ≡ odd (G-at-After-in_order-2 c) ((F-at-After-in_order-2 c).set c.args.i)
set-odd-at-After-in_order-2 c =
    c.odd_of-odd.ensures ∙ fun_ext (λ v. ap (λ (x : ℕ → Bool). parity c.args.job.now.n (λ k. set_at c.args.job.now.graph.now k v && x k)) c.set_of-set.ensures)

second : (c : After-in_order-2) → each c.args.job.now.n (odd_ask (G-at-After-in_order-2 c) (F-at-After-in_order-2 c) (mode_number c.args.job.now.mode) c.args.i) ≡ asked_of c.in_order-2.result
second c =
    let s = c in
    order_excused s.args.job.now.n s.args.i (F-at-After-in_order-2 s).layer (odd (G-at-After-in_order-2 s) ((F-at-After-in_order-2 s).set s.args.i)) (odd_excused (G-at-After-in_order-2 s) (eqb (mode_number s.args.job.now.mode) mode_pauli)) (member c.intersection-2.result)
    (odd_past s.args.job.now.n (set_at s.args.job.now.graph.now) ((F-at-After-in_order-2 s).set s.args.i) (set_past s.args.job.now.graph.now))
    (λ k. ap (λ (f : ℕ → Bool). f k) c.intersection-2.ensures ∙ rw (set-odd-at-After-in_order-2 c, c.difference-2.ensures, c.not_later-early.ensures, s.requires.excused_by.odds))
    ∙ sym c.in_order-2.ensures

-- where the second question is asked, the first holds

first-at-After-in_order-2 : (c : After-in_order-2) → each c.args.job.now.n (member_ask (G-at-After-in_order-2 c) (F-at-After-in_order-2 c) (mode_number c.args.job.now.mode) c.args.i) ≡ asked_of c.in_order.result
first-at-After-in_order-2 c =
    order_excused c.args.job.now.n c.args.i (F-at-After-in_order-2 c).layer ((F-at-After-in_order-2 c).set c.args.i) (member_excused (G-at-After-in_order-2 c) (eqb (mode_number c.args.job.now.mode) mode_pauli)) (member c.intersection.result) (λ k l. set_past c.args.flow.now.sets.now c.args.i k l)
    (λ k. ap (λ (f : ℕ → Bool). f k) c.intersection.ensures ∙ rw (c.set_of-set.ensures, c.difference.ensures, c.not_later-early.ensures, c.requires.excused_by.members))
    ∙ sym c.in_order.ensures

first_holds : (c : After-in_order-2) → each c.args.job.now.n (member_ask (G-at-After-in_order-2 c) (F-at-After-in_order-2 c) (mode_number c.args.job.now.mode) c.args.i) ≡ none
first_holds c = first-at-After-in_order-2 c ∙ ap asked_of c.in_ok-in_order.was

abbrev G-at-In_ok-in_order-2 : In_ok-in_order-2 → Job
G-at-In_ok-in_order-2 s = job_loaded s.args.job.now

abbrev F-at-In_ok-in_order-2 : In_ok-in_order-2 → Flow
F-at-In_ok-in_order-2 s = flow_loaded s.args.flow.now

plain-at-In_ok-in_order-2 : (c : In_ok-in_order-2) → (G-at-In_ok-in_order-2 c).output c.args.i ≡ false
plain-at-In_ok-in_order-2 c = sym c.has.ensures ∙ c.if-has.false

set-odd-at-In_ok-in_order-2 : (c : In_ok-in_order-2) → member c.odd_of-odd.result ≡ odd (G-at-In_ok-in_order-2 c) ((F-at-In_ok-in_order-2 c).set c.args.i)
set-odd-at-In_ok-in_order-2 c =
    c.odd_of-odd.ensures ∙ fun_ext (λ v. ap (λ (x : ℕ → Bool). parity c.args.job.now.n (λ k. set_at c.args.job.now.graph.now k v && x k)) c.set_of-set.ensures)

second-at-In_ok-in_order-2 : (c : In_ok-in_order-2) → each c.args.job.now.n (odd_ask (G-at-In_ok-in_order-2 c) (F-at-In_ok-in_order-2 c) (mode_number c.args.job.now.mode) c.args.i) ≡ asked_of c.in_order-2.result
second-at-In_ok-in_order-2 c =
    let s = c in
    order_excused s.args.job.now.n s.args.i (F-at-In_ok-in_order-2 s).layer (odd (G-at-In_ok-in_order-2 s) ((F-at-In_ok-in_order-2 s).set s.args.i)) (odd_excused (G-at-In_ok-in_order-2 s) (eqb (mode_number s.args.job.now.mode) mode_pauli)) (member c.intersection-2.result)
    (odd_past s.args.job.now.n (set_at s.args.job.now.graph.now) ((F-at-In_ok-in_order-2 s).set s.args.i) (set_past s.args.job.now.graph.now))
    (λ k. ap (λ (f : ℕ → Bool). f k) c.intersection-2.ensures ∙ rw (set-odd-at-In_ok-in_order-2 c, c.difference-2.ensures, c.not_later-early.ensures, s.requires.excused_by.odds))
    ∙ sym c.in_order-2.ensures

first-at-In_ok-in_order-2 : (c : In_ok-in_order-2) → each c.args.job.now.n (member_ask (G-at-In_ok-in_order-2 c) (F-at-In_ok-in_order-2 c) (mode_number c.args.job.now.mode) c.args.i) ≡ asked_of c.in_order.result
first-at-In_ok-in_order-2 c =
    order_excused c.args.job.now.n c.args.i (F-at-In_ok-in_order-2 c).layer ((F-at-In_ok-in_order-2 c).set c.args.i) (member_excused (G-at-In_ok-in_order-2 c) (eqb (mode_number c.args.job.now.mode) mode_pauli)) (member c.intersection.result) (λ k l. set_past c.args.flow.now.sets.now c.args.i k l)
    (λ k. ap (λ (f : ℕ → Bool). f k) c.intersection.ensures ∙ rw (c.set_of-set.ensures, c.difference.ensures, c.not_later-early.ensures, c.requires.excused_by.members))
    ∙ sym c.in_order.ensures

first_holds-at-In_ok-in_order-2 : (c : In_ok-in_order-2) → each c.args.job.now.n (member_ask (G-at-In_ok-in_order-2 c) (F-at-In_ok-in_order-2 c) (mode_number c.args.job.now.mode) c.args.i) ≡ none
first_holds-at-In_ok-in_order-2 c = first-at-In_ok-in_order-2 c ∙ ap asked_of c.in_ok-in_order.was

rest : (c : In_ok-in_order-2) → definition_ask (G-at-In_ok-in_order-2 c) (F-at-In_ok-in_order-2 c) (mode_number c.args.job.now.mode) c.args.i ≡ (each c.args.job.now.n (y_ask (G-at-In_ok-in_order-2 c) (F-at-In_ok-in_order-2 c) (mode_number c.args.job.now.mode) c.args.i) next own_ask (G-at-In_ok-in_order-2 c) (F-at-In_ok-in_order-2 c) c.args.i)
rest c =
    node_rest (G-at-In_ok-in_order-2 c) (F-at-In_ok-in_order-2 c) (mode_number c.args.job.now.mode) c.args.i (plain-at-In_ok-in_order-2 c) c.requires.node_below.1 (first_holds-at-In_ok-in_order-2 c) (second-at-In_ok-in_order-2 c ∙ ap asked_of c.in_ok-in_order-2.was)

-- the Y nodes

abbrev G-at-After-intersection-wrong : After-intersection-wrong → Job
G-at-After-intersection-wrong s = job_loaded s.args.job.now

abbrev F-at-After-intersection-wrong : After-intersection-wrong → Flow
F-at-After-intersection-wrong s = flow_loaded s.args.flow.now

set-odd-at-After-intersection-wrong : (c : After-intersection-wrong) → member c.odd_of-odd.result ≡ odd (G-at-After-intersection-wrong c) ((F-at-After-intersection-wrong c).set c.args.i)
set-odd-at-After-intersection-wrong c =
    c.odd_of-odd.ensures ∙ fun_ext (λ v. ap (λ (x : ℕ → Bool). parity c.args.job.now.n (λ k. set_at c.args.job.now.graph.now k v && x k)) c.set_of-set.ensures)

third : (c : After-intersection-wrong) → each c.args.job.now.n (y_ask (G-at-After-intersection-wrong c) (F-at-After-intersection-wrong c) (mode_number c.args.job.now.mode) c.args.i) ≡ first_in (member c.intersection-wrong.result) (λ k. record { number = 19; a = c.args.i; b = 0 })
third c =
    let s = c in
    y_first s.args.job.now.n s.args.i (F-at-After-intersection-wrong s).layer ((F-at-After-intersection-wrong s).set s.args.i) (odd (G-at-After-intersection-wrong s) ((F-at-After-intersection-wrong s).set s.args.i)) (y_asked (G-at-After-intersection-wrong s) (eqb (mode_number s.args.job.now.mode) mode_pauli)) (member c.intersection-wrong.result)
    (λ k l. set_past s.args.flow.now.sets.now s.args.i k l)
    (odd_past s.args.job.now.n (set_at s.args.job.now.graph.now) ((F-at-After-intersection-wrong s).set s.args.i) (set_past s.args.job.now.graph.now))
    (λ k. ap (λ (f : ℕ → Bool). f k) c.intersection-wrong.ensures ∙ rw (c.intersection-3.ensures, c.xor.ensures, set-odd-at-After-intersection-wrong c, c.set_of-set.ensures, c.not_later-early.ensures, s.requires.excused_by.ys))

pub returns-then-has : goal.returns-then-has
returns-then-has c = node_output (G (goal.at.returns-then-has c).Start) (F (goal.at.returns-then-has c).Start) (mode_number c.args.job.now.mode) c.args.i (sym c.has.ensures ∙ c.if-has.true)

pub returns-in_err-in_order : goal.returns-in_err-in_order
returns-in_err-in_order c = let t = ap asked_of c.in_err-in_order.was in
    let p = err_from_is_err_and c.from_residual.result c.from_residual.ensures.1 in rw (p.1, p.2) (sym (node_members (G (goal.at.returns-in_err-in_order c).Start) (F (goal.at.returns-in_err-in_order c).Start) (mode_number c.args.job.now.mode) c.args.i (plain (goal.at.returns-in_err-in_order c).After-set_of-set) c.requires.node_below.1 _ (first (goal.at.returns-in_err-in_order c).After-in_order ∙ t)))

pub in_order-requires-2 : goal.in_order-requires-2
in_order-requires-2 c = c.requires.node_below.0

pub returns-in_err-in_order-2 : goal.returns-in_err-in_order-2
returns-in_err-in_order-2 c = let x = ap asked_of c.in_err-in_order-2.was in
    let p = err_from_is_err_and c.from_residual-in_err-in_order-2.result c.from_residual-in_err-in_order-2.ensures.1 in rw (p.1, p.2) (sym (node_odd (G (goal.at.returns-in_err-in_order-2 c).Start) (F (goal.at.returns-in_err-in_order-2 c).Start) (mode_number c.args.job.now.mode) c.args.i (plain (goal.at.returns-in_err-in_order-2 c).After-set_of-set) c.requires.node_below.1 (first_holds (goal.at.returns-in_err-in_order-2 c).After-in_order-2) _ (second (goal.at.returns-in_err-in_order-2 c).After-in_order-2 ∙ x)))

pub check_measurement-requires : goal.check_measurement-requires
check_measurement-requires c = c.requires.node_below.0

pub returns : goal.returns
returns c = let e = c in
    let s = e in
    c.check_measurement.ensures
    ∙ ap (λ (p : Option Refusal). p next ask (own c.measurement_of.result (member e.set_of-set.result s.args.i) (member c.odd_of-odd.result s.args.i)) 19 s.args.i 0) (sym (third (goal.at.returns c).After-intersection-wrong))
    ∙ rw (c.measurement_of.ensures, e.set_of-set.ensures, set-odd (goal.at.returns c).After-odd_of-odd) (sym (rest (goal.at.returns c).In_ok-in_order-2))
