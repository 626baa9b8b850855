-- Demand 3 as one proposition about the calls, over all jobs and all flows, both modes.
use Rattle.std.specs.Prelude.{ℕ, ◌≤◌, ◌<◌, ◌≡◌, true, List, [], ◌++◌, ◌↔◌, ◌⊎◌, get_or, take}
use Rattle.answers.specs.Answer.{gives}
use Rattle.records.specs.Records.{written, kind_no_flow}
use Rattle.records.specs.JobFile.{JobFile, read_job}
use Rattle.records.specs.FlowFile.{FlowFile, read_flow}
use Rattle.demands.specs.Calls.{find_call, verify_asks}

-- a flow is accepted for a job: no question of the verifier, the writer's aside, is answered no
abbrev pub IsAccepted : (job flow : List ℕ) → Type 0
IsAccepted job flow = verify_asks (job ++ flow) ≡ gives true

-- the bytes are a flow file for n nodes, and nothing else
abbrev pub IsFlowBytes : ℕ → List ℕ → FlowFile → Type 0
IsFlowBytes n bytes g = (read_flow n bytes ≡ gives g) × (g.after ≡ [])

-- a node's layer in a flow is its number in the layers record
abbrev pub layer_in : FlowFile → ℕ → ℕ
layer_in g u = get_or g.layers u 0

-- Of a finder's call that gave `wrote` bytes for the job that file holds. 'A flow is any flow file whatever': so is every other.
pub record DemandHolds (file : List ℕ) (job : JobFile) (wrote : List ℕ) : Type 0 where
  pub flow_or_none : ((g : FlowFile) × IsFlowBytes job.n wrote g) ⊎ (wrote ≡ written kind_no_flow [])
  pub accepts : (g : FlowFile) → IsFlowBytes job.n wrote g → IsAccepted file wrote
  pub smallest : (other : List ℕ) (h : FlowFile) → IsFlowBytes job.n other h → IsAccepted file other
      → (g : FlowFile) × IsFlowBytes job.n wrote g × ((u : ℕ) → u < job.n → layer_in g u ≤ layer_in h u)
  pub no_flow : wrote ≡ written kind_no_flow [] ↔ ((other : List ℕ) (h : FlowFile) → IsFlowBytes job.n other h → IsAccepted file other → ⊥)

-- Wherever no question refuses the finder's call, 20 included: the bytes written are the first `k` of the result buffer.
abbrev pub Demand3 : Type 0
Demand3 = (file work out : List ℕ) (k : ℕ) → (find_call file work out).answer ≡ gives k
    → (job : JobFile) × (read_job file ≡ gives job) × DemandHolds file job (take k (find_call file work out).out)
