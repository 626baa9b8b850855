use Rattle.std.specs.Prelude.{Ok}
use Prim.Native.Nat.{ℕ}
use mathlib.Core.Path.{◌≡◌, ap, ap₂, ◌∙◌}
use mathlib.Core.Bool.{Bool}
use mathlib.Core.List.{List}
use native.Mathlib.Omega.{arith}
use lib.ListN.{length, length-replicate}
use Rattle.nodes.specs.NodeSet.{member, capacity}
use Rattle.nodes.specs.SetTable.{table_words}
use Rattle.nodes.specs.Lists.{zeros}
use Rattle.flows.specs.Numbers.{mode_number}
use Rattle.solver.specs.Solver.{work_bytes}
use Rattle.answers.specs.Refusals.{given}
use Rattle.finder.specs.Searches.{SearchOutcome, is_flow, searched, search_call}
use Rattle.records.specs.Splice.{put_front, put_answer}
use Rattle.calls.specs.Replies.{records_for}
use Rattle.calls.proofs.Finding.{put_is, told_flow, told_none, told_right, progress_of, search_goes, flow_written, none_written}
use borrow.Author.Rules.{rules}
use Rattle.calls.proofs.find.find_loaded.Goals as goal
use Rattle.calls.proofs.find.find_loaded.Goals.{After-find}

-- what the search left

left : (c : After-find) → let r = c.find in ◌≡◌ {A = SearchOutcome} (record { answer = given is_flow r.result; work = r.new.work; layers = r.new.layers; sets = r.new.sets }) (searched c.args.job.now.n (progress_of c.args.job.now.n (mode_number c.args.job.now.mode) c.args.job.now.graph.now c.args.job.now.measured.now c.args.job.now.inputs c.args.job.now.outputs))
left c =
    let a = c.args in
    c.find.ensures
    ∙ ap (λ (p : Bool). search_call p a.job.now.n a.job.now.graph.now a.job.now.inputs a.job.now.outputs a.job.now.measured.now a.work.now (zeros capacity) (zeros table_words)) c.rule_of.ensures
    ∙ search_goes a.job.now.n (mode_number a.job.now.mode) a.job.now.graph.now a.job.now.measured.now a.job.now.inputs a.job.now.outputs a.work.now (zeros capacity) (zeros table_words) c.args.job.now.few c.args.job.now.measured_each
    (c.args.job.now.table, c.requires.work_fits, length-replicate {A = ℕ} capacity 0, length-replicate {A = ℕ} table_words 0) c.requires.measured_value

pub write_found-requires : goal.write_found-requires
write_found-requires c = let size : length c.find.new.layers ≡ capacity = search rules in
    omega (arith, c.args.job.now.few, size)

pub returns-in-Flow : goal.returns-in-Flow
returns-in-Flow c = let a = c.args in
    let e = left (goal.at.returns-in-Flow c).After-find in let told = told_flow _ _ (ap (λ (o : SearchOutcome). o.answer) e) (c.in_ok-find.was ∙ ap Ok c.in-Flow.is) in
    let wrote = c.write_found in
    let bytes =
    ap₂ (λ (l t : List ℕ). records_for a.job.now.n (member a.job.now.outputs) l t) (ap (λ (o : SearchOutcome). o.layers) e) (ap (λ (o : SearchOutcome). o.sets) e)
    ∙ flow_written a.job.now.n (mode_number a.job.now.mode) a.job.now.graph.now a.job.now.measured.now a.job.now.inputs a.job.now.outputs c.args.job.now.few told in
    put_is _ a.out.now _ _ (zeros work_bytes) _ (wrote.ensures.result_value ∙ ap (λ (b : List ℕ). put_answer b a.out.now) bytes) (wrote.ensures.out_after ∙ ap (λ (b : List ℕ). put_front b a.out.now) bytes) (ap (λ (o : SearchOutcome). o.work) e)

pub returns-in-NoFlow : goal.returns-in-NoFlow
returns-in-NoFlow c = let a = c.args in
    let e = left (goal.at.returns-in-NoFlow c).After-find in let told = told_none _ _ (ap (λ (o : SearchOutcome). o.answer) e) (c.in_ok-find.was ∙ ap Ok c.in-NoFlow.is) in
    let wrote = c.write_bare in
    let bytes = none_written a.job.now.n (mode_number a.job.now.mode) a.job.now.graph.now a.job.now.measured.now a.job.now.inputs a.job.now.outputs told in
    put_is _ a.out.now _ _ (zeros work_bytes) _ (wrote.ensures.result_value ∙ ap (λ (b : List ℕ). put_answer b a.out.now) bytes) (wrote.ensures.out_after ∙ ap (λ (b : List ℕ). put_front b a.out.now) bytes) (ap (λ (o : SearchOutcome). o.work) e)

pub returns-in_err-find : goal.returns-in_err-find
returns-in_err-find c = absurd (told_right _ _ (ap (λ (o : SearchOutcome). o.answer) (left (goal.at.returns-in_err-find c).After-find)) _ c.in_err-find.was)
