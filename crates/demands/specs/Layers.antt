-- Request 2026-02 as propositions, over all arguments: a verdict goes by the numbers of the layers and not by the kind that holds them, every
-- flow file of the old kind has one of the wide kind, and what the finder writes reads back as what its search found.
use Rattle.std.specs.Prelude.{ℕ, ◌≤◌, ◌<◌, ◌≡◌, true, not, ◌&&◌, List, [], ◌++◌, take}
use Rattle.std.proofs.Math.Option.{Option, none, some}
use Rattle.flows.specs.Search.{Progress}
use Rattle.answers.specs.Answer.{gives}
use Rattle.records.specs.Records.{written, kind_no_flow}
use Rattle.records.specs.JobFile.{JobFile, most_nodes, read_job, job_of}
use Rattle.records.specs.FlowFile.{FlowFile, flow_of}
use Rattle.records.specs.Encoding.{IsBytes, flow_file_bytes}
use Rattle.demands.specs.Calls.{mode_of, progress_by_mode, find_call, verify_call}
use Rattle.demands.specs.Demand.{IsFlowBytes}

-- ---- either kind
-- Of two flow files with the same layers, sets and signal lists the verifier's call answers the same, number, a and b, and leaves the same buffer.
abbrev pub SameVerdict : Type 0
SameVerdict = (job one other : List ℕ) (f : JobFile) (g h : FlowFile) → read_job job ≡ gives f → f.after ≡ []
    → IsFlowBytes f.n one g → IsFlowBytes f.n other h → g.layers ≡ h.layers → g.sets ≡ h.sets → g.signals ≡ h.signals
    → (out : List ℕ) → verify_call (job ++ one) out ≡ verify_call (job ++ other) out

-- the same layers, sets and signal lists in the wide kind
abbrev pub widened : FlowFile → FlowFile
widened g = record { wide = true; layers = g.layers; sets = g.sets; signals = g.signals; after = [] }

-- Every flow file of bytes has one of the wide kind, of bytes too, in which each layer keeps its number.
abbrev pub Widens : Type 0
Widens = (n : ℕ) (s : List ℕ) (g : FlowFile) → n ≤ most_nodes → IsBytes s → IsFlowBytes n s g → IsBytes (flow_file_bytes (widened g)) × IsFlowBytes n (flow_file_bytes (widened g)) (widened g)

-- ---- what the finder writes
-- a file of bytes that reads back, its layers in the wide kind, as the layers and sets that were found: an entry for each node that is no output
pub record ReadsAs (job : JobFile) (s : Progress) (wrote : List ℕ) (g : FlowFile) : Type 0 where
  pub bytes : IsBytes wrote
  pub reads : IsFlowBytes job.n wrote g
  pub wide : g.wide ≡ true
  pub layers : (u : ℕ) → u < job.n → (flow_of g).layer u ≡ s.layer u
  pub entries : (u : ℕ) → u < job.n → (flow_of g).entry u ≡ not ((job_of job).output u)
  pub sets : (u k : ℕ) → u < job.n → k < job.n → (flow_of g).set u k ≡ not ((job_of job).output u) && s.set u k

abbrev pub IsWrittenFor : JobFile → Option Progress → List ℕ → Type 0
IsWrittenFor job none wrote = wrote ≡ written kind_no_flow []
IsWrittenFor job (some s) wrote = (g : FlowFile) × ReadsAs job s wrote g

-- wherever no question refuses the finder's call: the bytes written are the first `k` of the result buffer
abbrev pub WritesFound : Type 0
WritesFound = (file work out : List ℕ) (k : ℕ) → (find_call file work out).answer ≡ gives k
    → (job : JobFile) × (read_job file ≡ gives job) × IsWrittenFor job (progress_by_mode (mode_of job) (job_of job)) (take k (find_call file work out).out)
