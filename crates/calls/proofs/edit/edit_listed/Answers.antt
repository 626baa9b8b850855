use Prim.Native.Nat.{ℕ, ◌*◌, ◌≤◌}
use mathlib.Core.Path.{◌≡◌, refl, sym, ap, ◌∙◌, subst, fun_ext}
use mathlib.Core.Bool.{Bool, true}
use mathlib.Core.Option.{Option}
use mathlib.Core.List.{List, []}
use native.Mathlib.Omega.{arith}
use lib.ListN.{length}
use Rattle.nodes.specs.SetTable.{set_at}
use Rattle.nodes.specs.Lists.{has, zeros}
use Rattle.records.specs.JobFile.{job_of}
use Rattle.records.specs.FlowFile.{Signals, entry_of}
use Rattle.records.specs.SignalLists.{edited_list}
use Rattle.records.specs.Views.{job_held, flow_held}
use Rattle.records.proofs.BitRows.{column-length}
use Rattle.demands.specs.Calls.{put}
use Rattle.records.specs.BitRows.{row_width}
use Rattle.records.specs.Encoding.{ListsFit, flow_file_bytes}
use Rattle.calls.specs.Loaded.{flipped_by, most_list, edited_with}
use Rattle.calls.proofs.BuildingSignals.{list_fits, zeros_front, front_is}
use Rattle.calls.proofs.Editing.{lists_edited}
use Rattle.calls.proofs.LoadingEdges.{edges_fit}
use Rattle.calls.proofs.LoadingFiles.{flow_valid}
use Rattle.calls.proofs.edit.edit_listed.Goals as goal

pub load_graph-requires : goal.load_graph-requires
load_graph-requires c = let v = c.requires.0.valid in (refl, edges_fit c.args.job.now.n _ v.few v.edges_below)

pub edit_lists-requires-clause-n_le_capacity : goal.edit_lists-requires-clause-n_le_capacity
edit_lists-requires-clause-n_le_capacity c = (c.requires.0.valid.few, c.requires.1, subst (ListsFit c.args.job.now.n) c.requires.2 (flow_valid c.args.job.now c.args.flow.now c.requires.0).lists)

pub edit_lists-requires-clause-rows_value : goal.edit_lists-requires-clause-rows_value
edit_lists-requires-clause-rows_value c =
    let n = c.args.job.now.n in
    let size : c.row_width.result * n ≡ row_width n * n = ap (λ (w : ℕ). w * n) c.row_width.ensures in
    let fits : c.row_width.result * n ≤ 2048 = omega (arith, size, list_fits n c.requires.0.valid.few) in
    let empty = zeros_front _ most_list fits ∙ ap zeros size in (empty, empty)

pub returns : goal.returns
returns c =
    let a = c.args in
    let n = a.job.now.n in
    let e = entry_of a.entry.now in
    let stored = a.stored.now in
    let built = c.edit_lists.ensures in
    let size : c.row_width.result * n ≡ row_width n * n = ap (λ (w : ℕ). w * n) c.row_width.ensures in
    let graph : set_at c.load_graph.new.graph ≡ (job_of (job_held a.job.now)).edge = fun_ext (λ u. fun_ext (λ v. c.load_graph.ensures u v)) in
    let long : (x : ℕ → Bool) (l list : List ℕ) → list ≡ edited_list n e.node x l → length list ≡ c.row_width.result * n = λ x l list h. ap (λ (l : List ℕ). length l) h ∙ column-length n e.node _ l ∙ sym size in
    let rows = front_is _ c.edit_lists.new.rows _ (long _ _ _ built.rows_after) ∙ built.rows_after in
    let odds = front_is _ c.edit_lists.new.odds _ (long _ _ _ built.odds_after) ∙ built.odds_after ∙ ap (λ (g : ℕ → ℕ → Bool). edited_list n e.node (flipped_by n g true (has e.set)) stored.odds.now) graph in
    c.write_entry.ensures
    ∙ ap (λ (o : Option Signals). put [] (flow_file_bytes (edited_with (flow_held a.flow.now) e o)) a.out.now)
    (lists_edited (job_of (job_held a.job.now)) e (flow_held a.flow.now).signals stored.rows.now stored.odds.now _ _ c.requires.2 rows odds)
