use Rattle.std.proofs.lemmas.Result.{err_from_is_err_and}
use mathlib.Core.Bool.{not}
use Prim.Native.Nat.{ℕ}
use mathlib.Core.Path.{◌≡◌, refl, sym, ap, ◌∙◌, subst}
use mathlib.Core.Option.{none}
use native.Mathlib.Omega.{arith}
use borrow.Author.Rules.{rules}
use borrow.Author.Tests.{not-true, not-false}
use lib.ListN.{length-replicate}
use Rattle.nodes.specs.SetTable.{table_words}
use Rattle.flows.specs.Job.{Job}
use Rattle.records.specs.JobFile.{working_of, job_of}
use Rattle.records.specs.FlowFile.{set_in, flow_of}
use Rattle.records.specs.Views.{job_held, flow_held}
use Rattle.verdicts.specs.Verdict.{verify}
use Rattle.demands.specs.Calls.{lists_match}
use Rattle.answers.specs.Refusals.{asked_of}
use Rattle.calls.specs.Loaded.{IsEntriesFor, stored_match}
use Rattle.calls.proofs.LoadingEdges.{edges_fit}
use Rattle.calls.proofs.LoadingFiles.{flow_valid, entries_read, entries_fit, judge_stops, judge_differs, judge_accepts}
use Rattle.calls.proofs.Loaded.{verify_joined}
use Rattle.calls.proofs.verify.verify_held.Goals as goal
use Rattle.calls.proofs.verify.verify_held.Goals.{After-lists_match, After-verify_loaded, In_ok-verify_loaded}

pub load_graph-requires : goal.load_graph-requires
load_graph-requires c = let v = c.requires.valid in (refl, edges_fit c.args.job.now.n _ v.few v.edges_below)

pub load_measured-requires : goal.load_measured-requires
load_measured-requires c = (c.requires.valid, refl)

pub over-loaded-requires : goal.over-loaded-requires
over-loaded-requires c = record {
  valid = c.requires.valid;
  table = search (rules, c.graph-2-1.given);
  edges = c.load_graph.ensures;
  bytes = search (rules, c.measured-2-1.given);
  measurements = c.load_measured.ensures;
}

pub load_flow-entries-requires : goal.load_flow-entries-requires
load_flow-entries-requires c =
    let a = c.args in
    let v = flow_valid a.job.now a.flow.now c.requires in
    let few = c.requires.valid.few in record {
      flow_len_bound = (omega (arith, v.count, few), entries_fit a.job.now.n (flow_held a.flow.now).sets few v.below);
      layers_value = (refl, length-replicate {A = ℕ} table_words 0);
    }

-- questions 13 to 19

asked : (c : After-verify_loaded) → let a = c.args in asked_of c.verify_loaded.result ≡ verify (job_of (job_held a.job.now)) (flow_of (flow_held a.flow.now)) (working_of (job_held a.job.now)).mode
asked c = verify_joined _ _ _ _ _ _ _ c.verify_loaded.ensures c.over-loaded.ensures.job_value c.load_flow-entries.ensures c.over-loaded.ensures.mode_value

pub returns-in_err-verify_loaded : goal.returns-in_err-verify_loaded
returns-in_err-verify_loaded c =
    let a = c.args in
    let p = err_from_is_err_and c.from_residual.result c.from_residual.ensures.1 in rw (p.1, p.2) (judge_stops (job_held a.job.now) (flow_held a.flow.now) _ _ (sym (ap asked_of c.in_err-verify_loaded.was) ∙ asked (goal.at.returns-in_err-verify_loaded c).After-verify_loaded) refl)

asked-at-In_ok-verify_loaded : (c : In_ok-verify_loaded) → let a = c.args in asked_of c.verify_loaded.result ≡ verify (job_of (job_held a.job.now)) (flow_of (flow_held a.flow.now)) (working_of (job_held a.job.now)).mode
asked-at-In_ok-verify_loaded c = verify_joined _ _ _ _ _ _ _ c.verify_loaded.ensures c.over-loaded.ensures.job_value c.load_flow-entries.ensures c.over-loaded.ensures.mode_value

passed : (c : In_ok-verify_loaded) → let a = c.args in none ≡ verify (job_of (job_held a.job.now)) (flow_of (flow_held a.flow.now)) (working_of (job_held a.job.now)).mode
passed c = sym (ap asked_of c.in_ok-verify_loaded.was) ∙ asked-at-In_ok-verify_loaded c

pub lists_match-requires : goal.lists_match-requires
lists_match-requires c =
    let a = c.args in
    let same = ap (λ (j : Job). j.nodes) c.over-loaded.ensures.job_value in
    subst (λ (n : ℕ). IsEntriesFor n (a.flow.now.sets.now)) (sym same) (entries_read a.job.now a.flow.now c.requires)

-- question 22

matches : (c : After-lists_match) → let a = c.args in c.lists_match.result ≡ lists_match (job_held a.job.now) (flow_held a.flow.now)
matches c =
    let a = c.args in
    let g = flow_held a.flow.now in
    c.lists_match.ensures ∙ ap (λ (j : Job). stored_match j.nodes j.edge (set_in g.sets) g.signals) c.over-loaded.ensures.job_value

pub returns-then-not-lists_match : goal.returns-then-not-lists_match
returns-then-not-lists_match c =
    let a = c.args in
    judge_differs (job_held a.job.now) (flow_held a.flow.now) (passed (goal.at.returns-then-not-lists_match c).In_ok-verify_loaded) (sym (matches (goal.at.returns-then-not-lists_match c).After-lists_match) ∙ not-true _ (ap not c.if-not-lists_match.true))

pub returns : goal.returns
returns c =
    let a = c.args in
    judge_accepts (job_held a.job.now) (flow_held a.flow.now) (passed (goal.at.returns c).In_ok-verify_loaded) (sym (matches (goal.at.returns c).After-lists_match) ∙ not-false _ (ap not c.if-not-lists_match.false))
