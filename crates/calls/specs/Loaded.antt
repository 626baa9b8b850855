-- What the calls' code works with and answers: job and flow as they were loaded, and the first refusal.
use Rattle.std.specs.Prelude.{ℕ, ◌+◌, ◌*◌, ◌/◌, ◌%◌, ◌≡◌, Bool, true, false, cond, ◌&&◌, List, [], ◌∷◌, eqb, leb, ltb, length, get_or, set, Result, Ok, Err}
use Rattle.std.proofs.Math.Option.{Option, none, some}
use Rattle.nodes.specs.Bit.{bit, ◌⊕◌}
use Rattle.nodes.specs.Row.{parity, any_below, lowest, members}
use Rattle.nodes.specs.NodeSet.{word_bits, member, highest, capacity}
use Rattle.nodes.specs.SetTable.{set_at, set_words, table_words, raised}
use Rattle.flows.specs.Job.{Job}
use Rattle.flows.specs.Conditions.{member_excused, odd_excused, y_asked}
use Rattle.flows.specs.Numbers.{mode_number}
use Rattle.finder.specs.Searches.{job_in}
use Rattle.answers.specs.Answer.{Refusal, Answer, gives, ◌>>◌}
use Rattle.records.specs.JobFile.{JobFile, mode_pauli, has_edge, working_of}
use Rattle.records.specs.FlowFile.{SetEntry, FlowFile, Signals, Flow, entries_of, listed, all_entries, entry_below, entries_rise, nothing_left, one_member, layer_width, sets_asks, read_flow}
use Rattle.records.specs.Records.{all_yes, each_asks}
use Rattle.records.specs.Encoding.{IsBytes, IsValidJob}
use Rattle.records.specs.BitRows.{byte_bits, row_width, with_digit}
use Rattle.records.specs.SignalLists.{signal_list, put_entry}
use Rattle.records.specs.Views.{job_held, flow_held}
use Rattle.records.specs.declared.job_file.JobFile as JobRead
use Rattle.records.specs.declared.flow_file.FlowFile as FlowRead
use Rattle.demands.specs.Calls.{Both, matching}
use Rattle.answers.specs.declared.Refusal as Code
use Rattle.calls.specs.declared.job.Job.{Job as JobLoaded}
use Rattle.calls.specs.declared.job.Flow.{Flow as FlowLoaded}
use Rattle.calls.specs.declared.pflow.Excused.{Excused}

-- what lies in the buffers, where the job's graph and its measurements to work with were loaded
pub record IsLoaded (f : JobFile) (graph measured : List ℕ) : Type 0 where
  pub valid : IsValidJob f
  pub table : length graph ≡ table_words
  pub edges : (u v : ℕ) → set_at graph u v ≡ has_edge f.edges u v
  pub bytes : length measured ≡ capacity
  pub measurements : (u : ℕ) → get_or measured u 0 ≡ get_or (working_of f).measurements u 0

-- the job that was loaded
abbrev pub job_loaded : JobLoaded → Job
job_loaded j = job_in j.n j.graph.now j.inputs j.outputs j.measured.now

-- the words of set u lie in the table
abbrev pub has_set : List ℕ → ℕ → Bool
has_set table u = leb (set_words * u + set_words) (length table)

-- the flow that the arguments hold
abbrev pub flow_in : (layers : List ℕ) (entries : List ℕ) (sets : List ℕ) → Flow
flow_in layers entries sets = record { layer = λ u. get_or layers u 0; entry = member entries; set = set_at sets }

-- the flow that was loaded
abbrev pub flow_loaded : FlowLoaded → Flow
flow_loaded f = flow_in f.layers.now f.entries f.sets.now

-- the nodes below n that a set can have
abbrev pub within : ℕ → ℕ → Bool
within n v = ltb v n && leb v highest

-- the refusal of the least member of the set, where it has one
unfoldable pub first_in : (ℕ → Bool) → (ℕ → Refusal) → Option Refusal
first_in s r = cond (any_below capacity s) (some (r (lowest capacity s))) none

-- the nodes that the mode excuses, and the Y nodes of question 19
pub record IsExcusedBy (j : JobLoaded) (e : Excused) : Type 0 where
  pub members : member e.members ≡ (λ v. within j.n v && member_excused (job_loaded j) (eqb (mode_number j.mode) mode_pauli) v)
  pub odds : member e.odds ≡ (λ v. within j.n v && odd_excused (job_loaded j) (eqb (mode_number j.mode) mode_pauli) v)
  pub ys : member e.ys ≡ (λ v. within j.n v && y_asked (job_loaded j) (eqb (mode_number j.mode) mode_pauli) v)

-- ---- a job and the flow file behind it
abbrev pub both_held : JobRead.JobFile × FlowRead.FlowFile → Both
both_held p = record { job = job_held p.0; flow = flow_held p.1 }

-- is nothing left (8), has each causal entry one member (9)?
unfoldable pub whole_asks : (mode : ℕ) → FlowFile → Answer Bool
whole_asks mode g = nothing_left g.after >> one_member mode g.sets

-- both were read: the flow from what is left behind the job
pub record IsRead (job : JobRead.JobFile) (flow : FlowRead.FlowFile) : Type 0 where
  pub valid : IsValidJob (job_held job)
  pub bytes : IsBytes job.after.now
  pub layer_bytes : IsBytes flow.layers.now
  pub reads : read_flow job.n job.after.now ≡ gives (flow_held flow)
  pub layers : all_yes (each_asks (layer_width flow.wide) job.n flow.layers.now) ≡ true
  pub sets : all_yes (sets_asks job.n flow.sets.now) ≡ true

abbrev pub IsBothRead : Result (JobRead.JobFile × FlowRead.FlowFile) Code.Refusal → Type 0
IsBothRead (Ok p) = IsRead p.0 p.1
IsBothRead (Err q) = Unit

-- ---- signal lists
-- the set, or Odd of it
abbrev pub flipped_by : (n : ℕ) (edge : ℕ → ℕ → Bool) (odd : Bool) (s : ℕ → Bool) → ℕ → Bool
flipped_by n edge true s v = parity n (λ k. edge k v && s k)
flipped_by n edge false s v = s v

-- the list by the sets, or by Odd of them
abbrev pub list_for : (n : ℕ) (edge : ℕ → ℕ → Bool) (odd : Bool) (set : ℕ → ℕ → Bool) → List ℕ
list_for n edge odd set = signal_list n (λ i. flipped_by n edge odd (set i))

abbrev pub stored_match : (n : ℕ) (edge : ℕ → ℕ → Bool) (set : ℕ → ℕ → Bool) → Option Signals → Bool
stored_match n edge set stored = matching (list_for n edge false set, list_for n edge true set) stored

-- entries of nodes below n, that ascend
pub record IsEntriesFor (n : ℕ) (p : List ℕ) : Type 0 where
  pub below : all_entries (entry_below n) (listed (entries_of p)) ≡ true
  pub rise : entries_rise 0 (listed (entries_of p)) ≡ true

-- are an odd number of the list's elements in s?
unfoldable pub odd_among : (s : ℕ → Bool) → List ℕ → Bool
odd_among s [] = false
odd_among s (k ∷ l) = s k ⊕ odd_among s l

-- in a list with rows of so many bytes bit i is made 1, in row j and in each of some rows
abbrev pub set_bit : (width i j : ℕ) → List ℕ → List ℕ
set_bit width i j l = set l (width * j + i / byte_bits) (with_digit (i % byte_bits) true (get_or l (width * j + i / byte_bits) 0))

unfoldable pub set_bits : (width i : ℕ) → List ℕ → List ℕ → List ℕ
set_bits width i [] l = l
set_bits width i (j ∷ js) l = set_bits width i js (set_bit width i j l)

-- the numbers of the digits that a word has, the lowest counted as `base`
abbrev pub digits_from : (base word : ℕ) → List ℕ
digits_from base word = raised base (members word_bits (bit word))

-- the bytes of the longest list
abbrev pub most_list : ℕ
most_list = row_width capacity * capacity

-- a flow with the entry, and with these lists
abbrev pub edited_with : FlowFile → SetEntry → Option Signals → FlowFile
edited_with g e lists = record { wide = g.wide; layers = g.layers; sets = put_entry e g.sets; signals = lists; after = [] }
