-- The bytes of a job and of a flow, as they are written, and what reading asks of them.
use Rattle.std.specs.Prelude.{ℕ, ◌*◌, ◌%◌, ◌≤◌, ◌≡◌, Bool, true, not, List, [], ◌∷◌, ltb, length}
use Rattle.std.proofs.Math.Option.{Option, none, some}
use Rattle.nodes.specs.Row.{members}
use Rattle.flows.specs.Job.{Job}
use Rattle.flows.specs.Search.{Progress}
use Rattle.nodes.specs.Lists.{has, list_of, all}
use Rattle.angles.specs.AngleRecord.{angle_bytes, angles_allowed}
use Rattle.records.specs.JobFile.{JobFile, most_nodes, mode_causal, mode_planes, mode_pauli, nodes_below, rises, pairs_rise, all_allowed, job, job_value}
use Rattle.records.specs.FlowFile.{SetEntry, Signals, FlowFile, all_entries, entry_below, entries_rise, flow, flow_value}
use Rattle.records.specs.BitRows.{row_width}

-- a file of bytes, as every file of a program is; the definitions of the calls take any numbers
abbrev pub IsBytes : List ℕ → Type 0
IsBytes s = all (λ b. ltb b 256) s ≡ true

-- angles of bytes, where there are any; every other list of a job is bytes by its questions
abbrev pub IsAngleBytes : Option (List ℕ) → Type 0
IsAngleBytes none = Unit
IsAngleBytes (some p) = IsBytes p

-- ---- jobs
-- the records in order
abbrev pub job_bytes : JobFile → List ℕ
job_bytes f = job.encode (job_value f)

-- angles stand in mode 2 alone, one for each node, and the entry of each is allowed
abbrev pub AnglesFit : (n mode : ℕ) (output : ℕ → Bool) → Option (List ℕ) → Type 0
AnglesFit n mode output none = Unit
AnglesFit n mode output (some p) = (mode ≡ mode_planes) × (length p ≡ angle_bytes * n) × (angles_allowed n output p ≡ true)

-- what reading has asked, as facts
pub record IsValidJob (f : JobFile) : Type 0 where
  pub few : f.n ≤ most_nodes
  pub mode_from : mode_causal ≤ f.mode
  pub mode_to : f.mode ≤ mode_pauli
  pub pairs : length f.edges % 2 ≡ 0
  pub edges_below : nodes_below f.n f.edges ≡ true
  pub edges_rise : pairs_rise 0 f.edges ≡ true
  pub inputs_below : nodes_below f.n f.inputs ≡ true
  pub inputs_rise : rises 0 f.inputs ≡ true
  pub outputs_below : nodes_below f.n f.outputs ≡ true
  pub outputs_rise : rises 0 f.outputs ≡ true
  pub count : length f.measurements ≡ f.n
  pub allowed : all_allowed f.mode (has f.outputs) 0 f.measurements ≡ true
  pub angles : AnglesFit f.n f.mode (has f.outputs) f.angles

-- ---- flows
-- the records in order, with a layer for each node
abbrev pub flow_file_bytes : FlowFile → List ℕ
flow_file_bytes g = (flow (length g.layers)).encode (flow_value g)

-- a flow of these layers, in the kind that the finder writes, and entries, and of nothing more
abbrev pub flow_with : List ℕ → List SetEntry → FlowFile
flow_with layers es = record { wide = true; layers = layers; sets = es; signals = none; after = [] }

-- lists of n rows of n bits
abbrev pub ListsFit : ℕ → Option Signals → Type 0
ListsFit n none = Unit
ListsFit n (some l) = (length l.0 ≡ row_width n * n) × (length l.1 ≡ row_width n * n)

-- what reading has asked, for n nodes
pub record IsValidFlow (n : ℕ) (g : FlowFile) : Type 0 where
  pub count : length g.layers ≡ n
  pub below : all_entries (entry_below n) g.sets ≡ true
  pub rise : entries_rise 0 g.sets ≡ true
  pub lists : ListsFit n g.signals

-- the entries of the nodes in the list, in its order
unfoldable pub entries_for : ℕ → (ℕ → ℕ → Bool) → List ℕ → List SetEntry
entries_for n set [] = []
entries_for n set (u ∷ us) = record { node = u; set = members n (set u) } ∷ entries_for n set us

-- the flow file that the finder writes for a finished search
abbrev pub found_flow : Job → Progress → FlowFile
found_flow j s = flow_with (list_of j.nodes s.layer) (entries_for j.nodes s.set (members j.nodes (λ u. not (j.output u))))
