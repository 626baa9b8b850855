-- The calls, for every argument: the answer and what each lent buffer then holds.
use Rattle.std.specs.Prelude.{ℕ, Bool, true, cond, not, ◌&&◌, ◌||◌, List, [], ◌∷◌, eqb, length}
use Rattle.std.proofs.Math.Option.{Option, none, some}
use Rattle.nodes.specs.Lists.{equal, zeros}
use Rattle.solver.specs.Solver.{work_bytes}
use Rattle.flows.specs.Job.{Job}
use Rattle.flows.specs.Search.{Progress}
use Rattle.flows.specs.Planes as Planes
use Rattle.flows.specs.Paulis as Paulis
use Rattle.answers.specs.Answer.{Refusal, Answer, gives, refuses, asks, ◌>>=◌, ◌>>◌}
use Rattle.nodes.specs.Options.{is_some}
use Rattle.records.specs.Records.{written, kind_accepted}
use Rattle.records.specs.Splice.{put_answer, put_front}
use Rattle.records.specs.Writing.{flow_bytes, angle_record}
use Rattle.records.specs.JobFile.{JobFile, read_job, job_of, working_of, mode_planes, mode_pauli}
use Rattle.records.specs.Encoding.{job_bytes, flow_file_bytes}
use Rattle.records.specs.JobLists.{JobLists, lists_ask, given_once, meaning, ascending}
use Rattle.records.specs.FlowFile.{FlowFile, Signals, read_flow, flow_of, entry_of, entry_asks, nothing_left, one_member}
use Rattle.records.specs.SignalLists.{signals_of, with_signals, edited}
use Rattle.verdicts.specs.Verdict.{verify}

-- Everything after reading goes by the mode and the measurements to work with: by `mode_of`, and by `job_of`, which has the measurements.
-- Besides the questions of reading only two read the mode of the file itself: 9 (has each causal entry one member) and 10 (is the mode 2 or 3).
abbrev pub mode_of : JobFile → ℕ
mode_of f = (working_of f).mode

-- ---- who calls: every call carries a role, 0 is the owner, any other number an operator
abbrev pub owner : ℕ
owner = 0

abbrev pub is_owner : ℕ → Bool
is_owner role = eqb role owner

-- ---- what the finder writes
-- mode 2 searches by planes, mode 3 by Paulis
abbrev pub progress_by_mode : ℕ → Job → Option Progress
progress_by_mode mode j = cond (eqb mode mode_planes) (Planes.find j) (Paulis.find j)

abbrev pub found_bytes : JobFile → List ℕ
found_bytes f = flow_bytes (job_of f) (progress_by_mode (mode_of f) (job_of f))

abbrev pub has_search : ℕ → Bool
has_search mode = eqb mode mode_planes || eqb mode mode_pauli

-- ---- what the job writer writes: the job that the lists mean, every list ascending
abbrev pub written_job : JobLists → List ℕ
written_job l = job_bytes (ascending (meaning l))

-- ---- the questions
-- the finder's questions before its search: is nothing left (8), is the mode 2 or 3 (10), is the work buffer right (11)
unfoldable pub find_asks : List ℕ → List ℕ → Answer JobFile
find_asks file work = do
  f ← read_job file
  nothing_left f.after
  asks 10 (has_search f.mode)
  asks 11 (eqb (length work) work_bytes)
  gives f

-- a job and the flow file behind it
pub record Both : Type 0 where
  pub job : JobFile
  pub flow : FlowFile

-- reading both: each record in turn (1 to 7), is nothing left (8), has each causal entry one member (9)
unfoldable pub read_both : List ℕ → Answer Both
read_both file = do
  f ← read_job file
  g ← read_flow f.n f.after
  nothing_left g.after
  one_member f.mode g.sets
  gives (record { job = f; flow = g })

-- the verifier's questions, the writer's aside: 13 to 19, and then whether stored signal lists are those of the flow (22)
abbrev pub verdict : Option Refusal → Answer Bool
verdict none = gives true
verdict (some r) = refuses r

abbrev pub matching : Signals → Option Signals → Bool
matching l none = true
matching l (some stored) = equal l.0 stored.0 && equal l.1 stored.1

abbrev pub lists_match : JobFile → FlowFile → Bool
lists_match f g = matching (signals_of (job_of f) (flow_of g)) g.signals

unfoldable pub judge : JobFile → FlowFile → Answer Bool
judge f g = do
  verdict (verify (job_of f) (flow_of g) (mode_of f))
  asks 22 (lists_match f g)

unfoldable pub verify_asks : List ℕ → Answer Bool
verify_asks file = read_both file >>= λ b. judge b.job b.flow

-- those of editing: both are read, and then the lent entry, with its own 3, 5, 6 and 9
unfoldable pub edit_asks : (file entry : List ℕ) → Answer Both
edit_asks file entry = do
  b ← read_both file
  entry_asks b.job.n entry
  one_member b.job.mode (entry_of entry ∷ [])
  gives b

-- those of reading the angles out: is it the owner who wants them (24), the job's records, is there a record of angles in its place (1), is nothing left (8)
unfoldable pub read_angles_asks : (role : ℕ) → List ℕ → Answer JobFile
read_angles_asks role file = do
  asks 24 (is_owner role)
  f ← read_job file
  asks 1 (is_some f.angles)
  nothing_left f.after
  gives f

-- the job writer's: where there are angles, is it the owner who writes them (24), those of each list (3, 4, 5, 7, 23), and then whether each edge and node was
-- given once (21)
unfoldable pub write_job_asks : (role : ℕ) → JobLists → Answer Bool
write_job_asks role l = do
  asks 24 (is_owner role || not (is_some l.angles))
  lists_ask l
  asks 21 (given_once l)

-- ---- the lent buffers
-- the answer is the number of bytes written
pub record Outcome : Type 0 where
  pub answer : Answer ℕ
  pub work : List ℕ
  pub out : List ℕ

-- does the result fit the lent buffer (20)? Bytes after it stay as they were.
unfoldable pub put : (work result out : List ℕ) → Outcome
put work result out = record { answer = put_answer result out; work = work; out = put_front result out }

-- a refusal touches nothing, but 20 leaves the work buffer zero; so does an answer
abbrev pub find_outcome : Answer JobFile → (work out : List ℕ) → Outcome
find_outcome (refuses r) work out = record { answer = refuses r; work = work; out = out }
find_outcome (gives f) work out = put (zeros (length work)) (found_bytes f) out

unfoldable pub find_call : (file work out : List ℕ) → Outcome
find_call file work out = find_outcome (find_asks file work) work out

-- a call without a work buffer: what it writes goes by what was asked
abbrev pub outcome : {A : Type 0} → Answer A → (A → List ℕ) → (out : List ℕ) → Outcome
outcome (refuses r) result out = record { answer = refuses r; work = []; out = out }
outcome (gives a) result out = put [] (result a) out

unfoldable pub verify_call : (file out : List ℕ) → Outcome
verify_call file out = outcome (verify_asks file) (λ b. written kind_accepted []) out

unfoldable pub write_job_call : (role : ℕ) → JobLists → (out : List ℕ) → Outcome
write_job_call role l out = outcome (write_job_asks role l) (λ b. written_job l) out

-- reading out: the record of angles, with its head
unfoldable pub read_angles_call : (role : ℕ) (file out : List ℕ) → Outcome
read_angles_call role file out = outcome (read_angles_asks role file) (λ f. angle_record f.angles) out

-- adding: the flow file with its signal lists, anew where they stand
abbrev pub added_bytes : Both → List ℕ
added_bytes b = flow_file_bytes (with_signals (job_of b.job) b.flow)

unfoldable pub add_signals_call : (file out : List ℕ) → Outcome
add_signals_call file out = outcome (read_both file) added_bytes out

-- editing: the flow file with the lent entry, and stored lists with the bits of its node
abbrev pub edited_bytes : (entry : List ℕ) → Both → List ℕ
edited_bytes entry b = flow_file_bytes (edited (job_of b.job) (entry_of entry) b.flow)

unfoldable pub edit_set_call : (file entry out : List ℕ) → Outcome
edit_set_call file entry out = outcome (edit_asks file entry) (edited_bytes entry) out
