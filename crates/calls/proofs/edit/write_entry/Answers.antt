use Prim.Native.Nat.{ℕ}
use mathlib.Core.Path.{refl, sym, ap, ◌∙◌}
use mathlib.Core.Bool.{true}
use mathlib.Core.List.{List, []}
use native.Mathlib.Omega.{arith}
use lib.Seq.{length-take-le}
use Rattle.records.specs.Splice.{put_answer, put_front}
use Rattle.records.specs.FlowFile.{SetEntry, entry_bytes}
use Rattle.records.specs.SignalLists.{put_entry}
use Rattle.records.specs.Views.{lists_held}
use Rattle.records.proofs.FlowFile.{entry_out}
use Rattle.calls.proofs.Editing.{records_fit, edited_bytes}
use Rattle.calls.proofs.Finding.{put_is}
use Rattle.calls.proofs.edit.write_entry.Goals as goal

pub slice_bounds-kept-end : goal.slice_bounds-kept-end
slice_bounds-kept-end c = sym (length-take-le _ _ (omega (arith, records_fit c.args.job.now c.args.flow.now c.requires.0)))

pub returns : goal.returns
returns c =
    let a = c.args in
    let wrote = c.write_edited in
    let asked = entry_out a.job.now.n a.entry.now true c.requires.1 in
    let result = edited_bytes a.job.now a.flow.now c.requires.0 _ refl a.entry.now _ _ (lists_held a.signals) asked.0
    (λ e q. ap (λ (es : List SetEntry). entry_bytes (put_entry e es)) (sym c.of.ensures) ∙ c.around.ensures e (q ∙ sym (c.from.ensures ∙ c.byte_at.ensures))) in
    put_is _ a.out.now _ _ [] _ (wrote.ensures.result_value ∙ ap (λ (b : List ℕ). put_answer b a.out.now) result) (wrote.ensures.out_after ∙ ap (λ (b : List ℕ). put_front b a.out.now) result) refl
