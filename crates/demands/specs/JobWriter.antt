-- Request 2026-01 as propositions about the writer's call and the reader, over all arguments: the reader gives back the job, angles and all, and one job has one file.
use Rattle.std.specs.Prelude.{ℕ, ◌≡◌, List, [], ◌↔◌, take}
use Rattle.answers.specs.Answer.{gives}
use Rattle.records.specs.Encoding.{IsBytes, IsAngleBytes}
use Rattle.records.specs.JobFile.{JobFile, read_job}
use Rattle.records.specs.JobLists.{JobLists, lists_of, meaning}
use Rattle.demands.specs.Calls.{owner, put, write_job_call}

-- the bytes are a job file, and nothing else
abbrev pub IsJobBytes : List ℕ → JobFile → Type 0
IsJobBytes bytes f = (read_job bytes ≡ gives f) × (f.after ≡ []) × IsBytes bytes

-- the bytes that the writer wrote, for whatever role: the first `k` of the result buffer
pub record Wrote (l : JobLists) (out : List ℕ) (k : ℕ) (bytes : List ℕ) : Type 0 where
  pub role : ℕ
  pub answered : (write_job_call role l out).answer ≡ gives k
  pub left : take k (write_job_call role l out).out ≡ bytes

-- what the writer writes reads back as the job that the lists mean; angles are lent as bytes
abbrev pub GivesBack : Type 0
GivesBack = (l : JobLists) → IsAngleBytes l.angles → (out : List ℕ) (k : ℕ) (s : List ℕ) → Wrote l out k s → (f : JobFile) × IsJobBytes s f × (meaning (lists_of f) ≡ meaning l)

-- two readable files are the same bytes just where they mean the same job
abbrev pub OneFile : Type 0
OneFile = (s t : List ℕ) (f g : JobFile) → IsJobBytes s f → IsJobBytes t g → (s ≡ t ↔ meaning (lists_of f) ≡ meaning (lists_of g))

-- two sets of lists give the same bytes just where they mean the same job
abbrev pub SameBytes : Type 0
SameBytes = (l m : JobLists) → IsAngleBytes l.angles → IsAngleBytes m.angles → (out other : List ℕ) (j k : ℕ) (s t : List ℕ) → Wrote l out j s → Wrote m other k t → (s ≡ t ↔ meaning l ≡ meaning m)

-- every readable job file is what the writer writes for its own lists, to the owner, into any buffer that it fits
abbrev pub WritesAgain : Type 0
WritesAgain = (s : List ℕ) (f : JobFile) → IsJobBytes s f → (out : List ℕ) → write_job_call owner (lists_of f) out ≡ put [] s out
