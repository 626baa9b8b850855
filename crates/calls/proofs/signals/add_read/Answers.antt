use Prim.Native.Nat.{ℕ, ◌*◌, ◌≤◌}
use mathlib.Core.Path.{◌≡◌, refl, sym, ap, ◌∙◌}
use mathlib.Core.Bool.{Bool, true, false}
use mathlib.Core.List.{List, []}
use native.Mathlib.Omega.{arith}
use lib.ListN.{length}
use lib.Seq.{length-take-le}
use Rattle.nodes.specs.SetTable.{set_at}
use Rattle.nodes.specs.Lists.{zeros}
use Rattle.records.specs.JobFile.{job_of}
use Rattle.records.specs.FlowFile.{entries_of, listed, set_in, flow_of}
use Rattle.records.specs.BitRows.{row_width}
use Rattle.records.specs.Splice.{put_answer, put_front}
use Rattle.records.specs.Views.{job_held, flow_held}
use Rattle.records.proofs.BitRows.{bit_rows-length}
use Rattle.calls.specs.Loaded.{list_for, most_list}
use Rattle.calls.proofs.BuildingSignals.{list_fits, zeros_front, front_is, list_from}
use Rattle.calls.proofs.LoadingEdges.{edges_fit}
use Rattle.calls.proofs.LoadingFiles.{entries_read}
use Rattle.calls.proofs.Editing.{records_fit, added_bytes}
use Rattle.calls.proofs.Finding.{put_is}
use Rattle.calls.proofs.signals.add_read.Goals as goal

pub load_graph-requires : goal.load_graph-requires
load_graph-requires c = let v = c.requires.valid in (refl, edges_fit c.args.job.now.n _ v.few v.edges_below)

pub add_entries-requires-clause-n_le_capacity : goal.add_entries-requires-clause-n_le_capacity
add_entries-requires-clause-n_le_capacity c = (c.requires.valid.few, entries_read c.args.job.now c.args.flow.now c.requires)

pub add_entries-requires-clause-rows_value : goal.add_entries-requires-clause-rows_value
add_entries-requires-clause-rows_value c =
    let n = c.args.job.now.n in
    let size : c.row_width.result * n ≡ row_width n * n = ap (λ (w : ℕ). w * n) c.row_width.ensures in
    let fits : c.row_width.result * n ≤ 2048 = omega (arith, size, list_fits n c.requires.valid.few) in
    let empty = zeros_front _ most_list fits ∙ ap zeros size in (empty, empty)

pub slice_bounds-kept-end : goal.slice_bounds-kept-end
slice_bounds-kept-end c = sym (length-take-le _ _ (omega (arith, records_fit c.args.job.now c.args.flow.now c.requires)))

pub overflow_add-kept-2 : goal.overflow_add-kept-2
overflow_add-kept-2 c = omega (arith, records_fit c.args.job.now c.args.flow.now c.requires)

pub returns : goal.returns
returns c =
    let a = c.args in
    let job = a.job.now in
    let flow = a.flow.now in
    let built = c.add_entries.ensures in
    let size : c.row_width.result * job.n ≡ row_width job.n * job.n = ap (λ (w : ℕ). w * job.n) c.row_width.ensures in
    let is : (odd : Bool) (list : List ℕ) → list ≡ list_for job.n (set_at c.load_graph.new.graph) odd (set_in (listed (entries_of flow.sets.now))) → (length list ≡ c.row_width.result * job.n) × (list ≡ list_for job.n (job_of (job_held job)).edge odd (flow_of (flow_held flow)).set) =
    λ odd list e. (ap (λ (l : List ℕ). length l) e ∙ bit_rows-length job.n _ ∙ sym size, e ∙ list_from (job_of (job_held job)) (flow_of (flow_held flow)).set _ odd c.load_graph.ensures) in
    let (long, rows) = is false _ built.rows_after in
    let (long_too, odds) = is true _ built.odds_after in
    let result = added_bytes job flow c.requires _ refl _ _ (front_is _ c.add_entries.new.rows _ long ∙ rows) (front_is _ c.add_entries.new.odds _ long_too ∙ odds) in
    put_is _ a.out.now _ _ [] _ (c.write_signals.ensures.result_value ∙ ap (λ (b : List ℕ). put_answer b a.out.now) result) (c.write_signals.ensures.out_after ∙ ap (λ (b : List ℕ). put_front b a.out.now) result) refl
