-- For signals.rt and edit.rt: where an entry goes among others, and the bytes that adding and editing write.
use Prim.Native.Nat.{ℕ, ◌+◌, ◌*◌, ◌≤◌}
use mathlib.Core.Path.{◌≡◌, refl, sym, ap, ap₂, ◌∙◌}
use mathlib.Core.Bool.{true, false, not, ◌||◌}
use mathlib.Core.Option.{Option, some}
use mathlib.Core.List.{List, [], ◌∷◌, ◌++◌, append_assoc}
use native.Mathlib.Omega.{arith}
use lib.Dec.{eqb}
use lib.ListN.{length, get_or, take, length-append}
use lib.Seq.{take-append_seam}
use Rattle.nodes.specs.Lists.{has}
use Rattle.flows.specs.Job.{Job, odd}
use Rattle.answers.specs.Answer.{gives, refuses, refusal}
use Rattle.records.specs.Records.{head_bytes, written, kind_sets}
use Rattle.records.specs.JobFile.{JobFile, mode_causal, job_of}
use Rattle.records.specs.FlowFile.{SetEntry, FlowFile, Signals, entries_of, listed, all_entries, entry_bytes, entry_of, entry_asks, flow_of}
use Rattle.records.specs.SignalLists.{signals_of, with_signals, put_entry, edited_list, edited_signals, edited}
use Rattle.records.specs.Encoding.{flow_file_bytes}
use Rattle.records.specs.Writing.{signal_bytes}
use Rattle.records.specs.Views.{job_held, flow_held, IsAround}
use Rattle.records.specs.declared.job_file.JobFile as JobRead
use Rattle.records.specs.declared.flow_file.FlowFile as FlowRead
use Rattle.records.proofs.FlowFile.{entry_alone, entry_listed, entry_out}
use Rattle.records.proofs.Records.{written-length}
use Rattle.records.proofs.SignalFiles.{layer_kind, layers_record, file_records, layers_kept, records_kept, records_first}
use Rattle.demands.specs.Calls.{read_both, edit_asks, put, edit_set_call}
use Rattle.calls.specs.Loaded.{IsRead, edited_with}

-- ---- bytes that are written
module _ (job : JobRead.JobFile) (flow : FlowRead.FlowFile) (h : IsRead job flow) where
  -- what was read begins with both records
  first : job.after.now ≡ (written (layer_kind flow.wide) flow.layers.now ++ written kind_sets flow.sets.now) ++ (signal_bytes (flow_held flow).signals ++ flow.after.now)
  first = records_first job.n flow h.layer_bytes h.layers h.sets job.after.now h.valid.few h.bytes h.reads

  long : length (written (layer_kind flow.wide) flow.layers.now ++ written kind_sets flow.sets.now) ≡ 2 * head_bytes + length flow.layers.now + length flow.sets.now
  long = omega (arith, length-append (written (layer_kind flow.wide) flow.layers.now) (written kind_sets flow.sets.now), written-length (layer_kind flow.wide) flow.layers.now, written-length kind_sets flow.sets.now)

  pub records_fit : 2 * head_bytes + length flow.layers.now + length flow.sets.now ≤ length job.after.now
  records_fit = omega (arith, ap length first, length-append (written (layer_kind flow.wide) flow.layers.now ++ written kind_sets flow.sets.now) (signal_bytes (flow_held flow).signals ++ flow.after.now), long)

  pub added_bytes : (k : ℕ) → k ≡ 2 * head_bytes + length flow.layers.now + length flow.sets.now → (r o : List ℕ) → r ≡ (signals_of (job_of (job_held job)) (flow_of (flow_held flow))).0 → o ≡ (signals_of (job_of (job_held job)) (flow_of (flow_held flow))).1
      → take k job.after.now ++ signal_bytes (some (r, o)) ≡ flow_file_bytes (with_signals (job_of (job_held job)) (flow_held flow))
  added_bytes k q r o a b =
      ap₂ ◌++◌ (ap₂ (λ (m : ℕ) (l : List ℕ). take m l) (q ∙ sym long) first ∙ take-append_seam _ _ ∙ records_kept job.n flow h.layer_bytes h.layers h.sets) (ap₂ (λ (x y : List ℕ). signal_bytes (some (x, y))) a b)
      ∙ sym (file_records (with_signals (job_of (job_held job)) (flow_held flow)))

  -- the layers' record that is kept, the sets around the entry, and lists
  pub edited_bytes : (k : ℕ) → k ≡ head_bytes + length flow.layers.now → (entry before behind : List ℕ) (o : Option Signals) → length entry ≡ 2 + get_or entry 1 0
      → IsAround flow.sets.now (entry_of entry).node before behind
      → take k job.after.now ++ (written kind_sets (before ++ (entry ++ behind)) ++ signal_bytes o) ≡ flow_file_bytes (edited_with (flow_held flow) (entry_of entry) o)
  edited_bytes k q entry before behind o e p =
      let kept : take k job.after.now ≡ layers_record (flow_held flow) =
      ap₂ (λ (m : ℕ) (l : List ℕ). take m l) (q ∙ omega (arith, written-length (layer_kind flow.wide) flow.layers.now)) (first ∙ append_assoc (written (layer_kind flow.wide) flow.layers.now) (written kind_sets flow.sets.now) _) ∙ take-append_seam (written (layer_kind flow.wide) flow.layers.now) _ ∙ layers_kept job.n flow h.layer_bytes h.layers h.sets in
      let sets : before ++ (entry ++ behind) ≡ entry_bytes (put_entry (entry_of entry) (flow_held flow).sets) = ap (λ (x : List ℕ). before ++ (x ++ behind)) (entry_alone entry e) ∙ sym (p (entry_of entry) refl) in
      ap₂ (λ (x y : List ℕ). x ++ (written kind_sets y ++ signal_bytes o)) kept sets
      ∙ sym (append_assoc (layers_record (flow_held flow)) (written kind_sets (entry_bytes (put_entry (entry_of entry) (flow_held flow).sets))) (signal_bytes o))
      ∙ sym (file_records (edited_with (flow_held flow) (entry_of entry) o))

-- stored lists, edited
pub lists_edited : (j : Job) (e : SetEntry) (s : Option Signals) (r o r' o' : List ℕ) → s ≡ some (r, o) → r' ≡ edited_list j.nodes e.node (has e.set) r → o' ≡ edited_list j.nodes e.node (odd j (has e.set)) o
    → some (r', o') ≡ edited_signals j e s
lists_edited j e s r o r' o' h p q = rw h (ap₂ (λ (x y : List ℕ). some (x, y)) p q)

-- ---- the call of an edit whose entry passed its own questions
module _ (s out entry : List ℕ) (f : JobFile) (g : FlowFile) (e : read_both s ≡ gives (record { job = f; flow = g })) (a : gives true ≡ entry_asks f.n entry) where
  -- question 9 of an entry that is one
  one_of : (length entry ≡ 2 + get_or entry 1 0) → (not (eqb f.mode mode_causal) || all_entries (λ e. eqb (length e.set) 1) (listed (entries_of entry))) ≡ (not (eqb f.mode mode_causal) || all_entries (λ e. eqb (length e.set) 1) (entry_of entry ∷ []))
  one_of h = ap (λ (o : Option (List SetEntry)). not (eqb f.mode mode_causal) || all_entries (λ e. eqb (length e.set) 1) (listed o)) (entry_listed entry h)

  pub edit_not_one : (not (eqb f.mode mode_causal) || all_entries (λ e. eqb (length e.set) 1) (listed (entries_of entry))) ≡ false → record { answer = refuses (refusal 9); work = []; out = out } ≡ edit_set_call s entry out
  unfolding edit_set_call edit_asks
  edit_not_one n = rw (e, ← a, sym (one_of (entry_out f.n entry true (sym a)).0) ∙ n)

  pub edit_goes : (not (eqb f.mode mode_causal) || all_entries (λ e. eqb (length e.set) 1) (listed (entries_of entry))) ≡ true → put [] (flow_file_bytes (edited (job_of f) (entry_of entry) g)) out ≡ edit_set_call s entry out
  unfolding edit_set_call edit_asks
  edit_goes n = rw (e, ← a, sym (one_of (entry_out f.n entry true (sym a)).0) ∙ n)
