-- Request 2026-06 as propositions, over all arguments: what holds for the planes holds with any angles, a job reads the same with a flow file
-- behind it, and the angles are read out as they stand.
use Rattle.std.specs.Prelude.{ℕ, ◌≤◌, ◌<◌, ◌≡◌, List, ◌++◌, take}
use Rattle.std.proofs.Math.Option.{some}
use Rattle.answers.specs.Answer.{gives}
use Rattle.records.specs.Records.{written, kind_angles}
use Rattle.records.specs.JobFile.{JobFile, read_job}
use Rattle.records.specs.FlowFile.{FlowFile}
use Rattle.records.specs.JobLists.{without_angles}
use Rattle.records.specs.Encoding.{IsBytes, job_bytes}
use Rattle.demands.specs.Calls.{find_call, read_angles_call}
use Rattle.demands.specs.Demand.{IsAccepted, IsFlowBytes, layer_in}
use Rattle.demands.specs.Signals.{IsJobAlone, Wrote}

-- the job with angles, and the same for the planes alone, without the record
pub record IsBothJobs (angled plain : List ℕ) (f : JobFile) : Type 0 where
  pub with_angles : IsJobAlone angled f
  pub alone : IsJobAlone plain (without_angles f)

-- Every readable job has one without the record: the same bytes up to its place.
abbrev pub PlanesAlone : Type 0
PlanesAlone = (angled : List ℕ) (f : JobFile) → IsJobAlone angled f → IsBothJobs angled (job_bytes (without_angles f)) f

-- Any flow accepted for the planes alone is accepted for the inferred measurements.
abbrev pub StaysAccepted : Type 0
StaysAccepted = (angled plain : List ℕ) (f : JobFile) → IsBothJobs angled plain f → (flow : List ℕ) (g : FlowFile) → IsFlowBytes f.n flow g → IsAccepted plain flow → IsAccepted angled flow

-- what a finder's call wrote
abbrev pub IsFound : (job wrote : List ℕ) → Type 0
IsFound job wrote = (work : List ℕ) × (out : List ℕ) × (k : ℕ) × ((find_call job work out).answer ≡ gives k) × (take k (find_call job work out).out ≡ wrote)

-- So a job with a flow keeps one, and no node gets a larger layer.
abbrev pub NoLarger : Type 0
NoLarger = (angled plain : List ℕ) (f : JobFile) → IsBothJobs angled plain f → (one other : List ℕ) → IsFound plain one → IsFound angled other
    → (g : FlowFile) → IsFlowBytes f.n one g → (h : FlowFile) × IsFlowBytes f.n other h × ((u : ℕ) → u < f.n → layer_in h u ≤ layer_in g u)

-- A job reads the same with a flow file behind it, angles and all.
abbrev pub ReadsWithFlow : Type 0
ReadsWithFlow = (job flow : List ℕ) (f : JobFile) (g : FlowFile) → IsJobAlone job f → IsFlowBytes f.n flow g
    → read_job (job ++ flow) ≡ gives (record { n = f.n; mode = f.mode; edges = f.edges; inputs = f.inputs; outputs = f.outputs; measurements = f.measurements; angles = f.angles; after = flow })

-- The angles come out as they stand in the file, bit for bit.
abbrev pub ReadsOut : Type 0
ReadsOut = (role : ℕ) (job wrote : List ℕ) → IsBytes job → Wrote (read_angles_call role job) wrote
    → (f : JobFile) × (p : List ℕ) × IsJobAlone job f × (f.angles ≡ some p) × (wrote ≡ written kind_angles p) × (job ≡ job_bytes (without_angles f) ++ wrote)
