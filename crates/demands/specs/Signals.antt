-- Request 2026-03 as propositions, over all arguments: what adding and editing write, and what the verifier says of it.
use Rattle.std.specs.Prelude.{ℕ, ◌≡◌, Bool, true, false, List, [], ◌++◌, ◌≢◌, take}
use Rattle.std.proofs.Math.Option.{none, some}
use Rattle.nodes.specs.Lists.{has}
use Rattle.nodes.specs.Options.{is_some}
use Rattle.answers.specs.Answer.{Answer, gives, ◌>>=◌, ◌>>◌}
use Rattle.records.specs.Records.{carries, kind_sets, kind_set_signals}
use Rattle.records.specs.Format.{Format, record_of, ◌then◌}
use Rattle.records.specs.JobFile.{JobFile, read_job, job_of}
use Rattle.records.specs.FlowFile.{FlowFile, Layers, SetEntry, layers, sets, flow_of, entry_of, nothing_left, one_member}
use Rattle.records.specs.SignalLists.{signals_of, put_entry}
use Rattle.records.specs.Encoding.{IsBytes}
use Rattle.records.specs.Writing.{signal_bytes}
use Rattle.verdicts.specs.Verdict.{verify}
use Rattle.demands.specs.Calls.{mode_of, Outcome, put, verdict, verify_asks, lists_match, add_signals_call, edit_set_call}
use Rattle.demands.specs.Demand.{IsFlowBytes}

-- the bytes are a job file, and nothing else
abbrev pub IsJobAlone : List ℕ → JobFile → Type 0
IsJobAlone job f = (read_job job ≡ gives f) × (f.after ≡ [])

-- what a call wrote: the first `k` bytes of the result buffer
abbrev pub Wrote : (call : List ℕ → Outcome) → List ℕ → Type 0
Wrote call wrote = (out : List ℕ) × (k : ℕ) × ((call out).answer ≡ gives k) × (take k (call out).out ≡ wrote)

abbrev pub IsAdded : (job flow wrote : List ℕ) → Type 0
IsAdded job flow = Wrote (add_signals_call (job ++ flow))

abbrev pub IsEdited : (job flow entry wrote : List ℕ) → Type 0
IsEdited job flow entry = Wrote (edit_set_call (job ++ flow) entry)

-- ---- adding
-- Every record but the lists is kept byte for byte, and the lists are those of the flow, whatever stood there.
abbrev pub KeepsRecords : Type 0
KeepsRecords = (job flow wrote : List ℕ) (f : JobFile) (g : FlowFile) → IsJobAlone job f → IsFlowBytes f.n flow g → IsBytes flow → IsAdded job flow wrote
    → (records : List ℕ) × (flow ≡ records ++ signal_bytes g.signals) × (wrote ≡ records ++ signal_bytes (some (signals_of (job_of f) (flow_of g))))

-- Adding twice is adding once, into any buffer.
abbrev pub AddsOnce : Type 0
AddsOnce = (job flow wrote : List ℕ) (f : JobFile) (g : FlowFile) → IsJobAlone job f → IsFlowBytes f.n flow g → IsAdded job flow wrote → (out : List ℕ) → add_signals_call (job ++ wrote) out ≡ put [] wrote out

-- What adding wrote is judged by questions 13 to 19 alone, as the flow that it was given is: it is never 22.
abbrev pub NeverMismatched : Type 0
NeverMismatched = (job flow wrote : List ℕ) (f : JobFile) (g : FlowFile) → IsJobAlone job f → IsFlowBytes f.n flow g → IsAdded job flow wrote
    → verify_asks (job ++ wrote) ≡ verdict (verify (job_of f) (flow_of g) (mode_of f))

-- ---- editing
-- The node's set is the lent one, layers and all other sets keep, and lists that were those of the flow are those of the edited flow.
pub record IsEditedFlow (f : JobFile) (g : FlowFile) (e : SetEntry) (h : FlowFile) : Type 0 where
  pub wide : h.wide ≡ g.wide
  pub layers : h.layers ≡ g.layers
  pub entries : h.sets ≡ put_entry e g.sets
  pub own : (k : ℕ) → (flow_of h).set e.node k ≡ has e.set k
  pub others : (u k : ℕ) → u ≢ e.node → (flow_of h).set u k ≡ (flow_of g).set u k
  pub stored : is_some h.signals ≡ is_some g.signals
  pub afresh : lists_match f g ≡ true → lists_match f h ≡ true

abbrev pub EditsAfresh : Type 0
EditsAfresh = (job flow entry wrote : List ℕ) (f : JobFile) (g : FlowFile) → IsJobAlone job f → IsFlowBytes f.n flow g → IsEdited job flow entry wrote
    → (h : FlowFile) × IsFlowBytes f.n wrote h × IsEditedFlow f g (entry_of entry) h

-- ---- without lists
-- a flow as it was read before there were lists: two records
abbrev pub two_records : ℕ → Format (Layers × List SetEntry)
two_records n = layers n then λ l. record_of kind_sets (sets n)

abbrev pub read_before : ℕ → List ℕ → Answer FlowFile
read_before n s = (two_records n).decode s >>= λ p. gives (record { wide = p.value.0.wide; layers = p.value.0.numbers; sets = p.value.1; signals = none; after = p.rest })

-- and what the verifier asked then
abbrev pub verify_before : List ℕ → Answer Bool
verify_before file =
    read_job file >>= λ f. read_before f.n f.after >>= λ g.
    nothing_left g.after >> (one_member f.mode g.sets >> verdict (verify (job_of f) (flow_of g) (mode_of f)))

-- Of every file that has no list behind its sets, readable or not, the verifier's answer is what it was.
abbrev pub AsBefore : Type 0
AsBefore = (file : List ℕ) → ((f : JobFile) (g : FlowFile) → read_job file ≡ gives f → read_before f.n f.after ≡ gives g → carries kind_set_signals g.after ≡ false)
    → verify_asks file ≡ verify_before file
