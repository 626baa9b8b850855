-- Request 2026-07: all calls that take or write a job, in one list, each with its role; and as propositions what an operator may not see.
use Rattle.std.specs.Prelude.{ℕ, ◌<◌, ◌≡◌, Bool, true, false, List, [], ◌++◌, ◌≢◌, ◌⊎◌, length, Some, None}
use Rattle.std.proofs.Math.Option.{some}
use Rattle.nodes.specs.Options.{is_some}
use Rattle.answers.specs.Answer.{refuses, refusal}
use Rattle.angles.specs.Angle.{Angle, is_whole, is_half, read_bits}
use Rattle.angles.specs.AngleRecord.{bits_at, inferred_bytes}
use Rattle.records.specs.JobFile.{JobFile}
use Rattle.records.specs.JobLists.{JobLists, given, job_with}
use Rattle.demands.specs.Calls.{owner, Outcome, find_call, verify_call, write_job_call, read_angles_call, add_signals_call, edit_set_call}
use Rattle.demands.specs.Programs.{Streams, find_streams, verify_streams}
use Rattle.demands.specs.JobWriter.{IsJobBytes}

-- ---- the calls, each with all that it is lent besides its job
pub data Call : Type 0 where
  finding : (work out : List ℕ) → Call
  verifying : (out : List ℕ) → Call
  -- both programs on lent bytes, with the buffers of their two streams
  finder_program : (output error : List ℕ) → Call
  verifier_program : (output error : List ℕ) → Call
  -- both writers, with angles and without
  writing : (out : List ℕ) → Call
  reading_out : (out : List ℕ) → Call
  adding_lists : (out : List ℕ) → Call
  editing : (entry out : List ℕ) → Call

-- where the job is: in a file, whatever stands behind it, or in a writer's lists
abbrev pub Source : Call → Type 0
Source (writing out) = JobLists
Source (finding work out) = List ℕ
Source (verifying out) = List ℕ
Source (finder_program output error) = List ℕ
Source (verifier_program output error) = List ℕ
Source (reading_out out) = List ℕ
Source (adding_lists out) = List ℕ
Source (editing entry out) = List ℕ

-- what comes of a call: its answer and all its buffers, of a program both its streams
abbrev pub Result : Call → Type 0
Result (finding work out) = Outcome
Result (verifying out) = Outcome
Result (finder_program output error) = Streams
Result (verifier_program output error) = Streams
Result (writing out) = Outcome
Result (reading_out out) = Outcome
Result (adding_lists out) = Outcome
Result (editing entry out) = Outcome

-- the role of the programs, which ask for none
abbrev pub operator : ℕ
operator = 1

-- every call with its role
abbrev pub called : (role : ℕ) (c : Call) → Source c → Result c
called role (finding work out) file = find_call file work out
called role (verifying out) file = verify_call file out
called role (finder_program output error) file = find_streams file output error
called role (verifier_program output error) file = verify_streams file output error
called role (writing out) lists = write_job_call role lists out
called role (reading_out out) file = read_angles_call role file out
called role (adding_lists out) file = add_signals_call file out
called role (editing entry out) file = edit_set_call file entry out

-- ---- an operator may not have the angles
-- which calls read them out or write them
abbrev pub wants_angles : (c : Call) → Source c → Bool
wants_angles (writing out) lists = is_some lists.angles
wants_angles (reading_out out) file = true
wants_angles (finding work out) file = false
wants_angles (verifying out) file = false
wants_angles (finder_program output error) file = false
wants_angles (verifier_program output error) file = false
wants_angles (adding_lists out) file = false
wants_angles (editing entry out) file = false

-- 24, and nothing is touched
abbrev pub turned_away : (out : List ℕ) → Outcome
turned_away out = record { answer = refuses (refusal 24); work = []; out = out }

-- Before any other question, whatever the bytes or lists.
pub record OwnersOnly : Type 0 where
  pub read_out : (role : ℕ) → role ≢ owner → (file out : List ℕ) → called role (reading_out out) file ≡ turned_away out
  pub written : (role : ℕ) → role ≢ owner → (lists : JobLists) → is_some lists.angles ≡ true → (out : List ℕ) → called role (writing out) lists ≡ turned_away out

-- Every other call stays open to both: the role has no influence at all.
abbrev pub OpenToBoth : Type 0
OpenToBoth = (c : Call) (source : Source c) → wants_angles c source ≡ false → (role other : ℕ) → called role c source ≡ called other c source

-- So a call gives any role what it gives the owner, but for the angles.
abbrev pub AsTheOwner : Type 0
AsTheOwner = (role : ℕ) (c : Call) (source : Source c) → (called role c source ≡ called owner c source) ⊎ ((role ≢ owner) × (wants_angles c source ≡ true))

-- ---- nor see them
abbrev pub having_angles : JobFile → List ℕ → JobFile
having_angles f angles = job_with f.n f.mode f.edges f.inputs f.outputs f.measurements (some angles)

-- two readable jobs that differ only in angles, with the same inferred measurements
pub record IsTwin (one other : List ℕ) : Type 0 where
  pub job : JobFile
  pub angles : List ℕ
  pub others : List ℕ
  pub reads : IsJobBytes one (having_angles job angles)
  pub reads_other : IsJobBytes other (having_angles job others)
  pub inferred : inferred_bytes job.measurements angles ≡ inferred_bytes job.measurements others

-- with the same bytes behind them, whatever these are
pub record IsTwinFile (file other : List ℕ) : Type 0 where
  pub first : List ℕ
  pub second : List ℕ
  pub behind : List ℕ
  pub twins : IsTwin first second
  pub begins : file ≡ first ++ behind
  pub begins_other : other ≡ second ++ behind

-- lists with these angles or with those, whatever they infer
abbrev pub IsTwinLists : JobLists → JobLists → Type 0
IsTwinLists l m = (angles : List ℕ) × (others : List ℕ) × (l.angles ≡ some angles)
    × (m ≡ given l.n l.mode l.edges l.inputs l.outputs l.measurements (some others))

abbrev pub IsAlike : (c : Call) → Source c → Source c → Type 0
IsAlike (writing out) = IsTwinLists
IsAlike (finding work out) = IsTwinFile
IsAlike (verifying out) = IsTwinFile
IsAlike (finder_program output error) = IsTwinFile
IsAlike (verifier_program output error) = IsTwinFile
IsAlike (reading_out out) = IsTwinFile
IsAlike (adding_lists out) = IsTwinFile
IsAlike (editing entry out) = IsTwinFile

-- The same call with all else equal gives an operator the same of both: number, a and b, the result buffer and the work buffer, of a program both streams.
abbrev pub Secrecy : Type 0
Secrecy = (role : ℕ) → role ≢ owner → (c : Call) (one other : Source c) → IsAlike c one other → called role c one ≡ called role c other

-- ---- what does show: whether an angle is 0 or 1, and whether it is 0.5 or 1.5
abbrev pub special : Angle → Bool × Bool
special (Some x) = (is_whole x, is_half x)
special None = (false, false)

-- Nothing else: angles of the same kind, node for node, infer the same measurements.
abbrev pub OnlySpecialShow : Type 0
OnlySpecialShow = (planes angles others : List ℕ) → ((u : ℕ) → u < length planes → special (read_bits (bits_at angles u)) ≡ special (read_bits (bits_at others u)))
    → inferred_bytes planes angles ≡ inferred_bytes planes others
