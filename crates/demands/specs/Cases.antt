-- The papers' cases A to N in one list, and the smallest inputs of the listed differences in another, each with every claim that
-- it makes: what is answered, and what the paper of the job's mode says.
use Rattle.std.specs.Prelude.{ℕ, ◌≡◌, Bool, true, false, ◌&&◌, List, [], ◌∷◌, ◌++◌, T}
use Rattle.std.specs.Bool.{beq}
use Rattle.std.proofs.Math.Logic.{Lift}
use Rattle.answers.specs.Answer.{Answer, gives, refuses}
use Rattle.nodes.specs.Lists.{equal, list_of}
use Rattle.solver.specs.Solver as Solver
use Rattle.records.specs.Records.{written, kind_opening, kind_edges, kind_inputs, kind_outputs, kind_measurements, kind_wide_layers, kind_sets, kind_no_flow, kind_accepted, kind_refusal, kind_angles, in_two_bytes}
use Rattle.flows.specs.Job.{Job}
use Rattle.records.specs.JobFile.{JobFile, read_job, job_of}
use Rattle.records.specs.FlowFile.{FlowFile, Flow, flow_of}
use Rattle.demands.specs.Calls.{mode_of}
use Rattle.demands.specs.Programs.{find_program, verify_program}
use Rattle.demands.specs.Demand.{IsFlowBytes}
use Rattle.verdicts.specs.Published.{IsPublishedFlow, ByLayer}

pub data Case : Type 0 where
  -- the finder writes these bytes for the job, and each of these flows is accepted for it
  finder : (job wrote : List ℕ) (accepted : List (List ℕ)) → Case
  -- the verifier writes these bytes for the job followed by the flow
  verifier : (job flow wrote : List ℕ) → Case
  -- the solver answers so on these rows, and leaves the out bits so; before, they are all 1
  solver : (matrix : List ℕ) (rows cols sides side : ℕ) (solvable : Bool) (out : List ℕ) → Case
  -- the flow is accepted for the job, and the paper of its mode calls it none, whatever the order
  unpublished : (job flow : List ℕ) → Case
  -- the verifier writes these bytes for the job followed by the flow, and the paper calls it a flow in the order of its layers
  published : (job flow wrote : List ℕ) → Case

abbrev pub verifies : (job flow wrote : List ℕ) → Bool
verifies job flow wrote = equal (verify_program (job ++ flow)) wrote

abbrev pub accepted : List ℕ
accepted = written kind_accepted []

abbrev pub accepts : List ℕ → List ℕ → Bool
accepts job flow = verifies job flow accepted

abbrev pub accepts_all : List ℕ → List (List ℕ) → Bool
accepts_all job [] = true
accepts_all job (f ∷ fs) = accepts job f && accepts_all job fs

abbrev pub answers : Bool → Answer Bool → Bool
answers solvable (gives b) = beq solvable b
answers solvable (refuses r) = false

-- sixteen bytes of out bits: the first, and the others
abbrev pub bits : ℕ → ℕ → List ℕ
bits first other = first ∷ list_of 15 (λ k. other)

abbrev pub leaves : Bool → List ℕ → Solver.SolveOutcome → Bool
leaves solvable out o = answers solvable o.answer && equal o.out out

abbrev pub holds : Case → Bool
holds (finder job wrote flows) = equal (find_program job) wrote && accepts_all job flows
holds (verifier job flow wrote) = verifies job flow wrote
holds (solver matrix rows cols sides side solvable out) = leaves solvable out (Solver.solve_call matrix (bits 255 255) rows cols sides side)
holds (unpublished job flow) = accepts job flow
holds (published job flow wrote) = verifies job flow wrote

abbrev pub all_hold : List Case → Bool
all_hold [] = true
all_hold (c ∷ cs) = holds c && all_hold cs

-- ---- what the papers say
-- the bytes are a job and a flow file for it, and of the two this is said
abbrev pub SaysOf : (job flow : List ℕ) (says : ℕ → Job → Flow → Type 1) → Type 1
SaysOf job flow says = (f : JobFile) × (g : FlowFile) × (read_job job ≡ gives f) × IsFlowBytes f.n flow g × says (mode_of f) (job_of f) (flow_of g)

abbrev pub IsFlow : ℕ → Job → Flow → Type 1
IsFlow mode j f = Lift {0, 1} (IsPublishedFlow mode j (ByLayer f.layer) f.set)

abbrev pub IsNoFlow : ℕ → Job → Flow → Type 1
IsNoFlow mode j f = (before : ℕ → ℕ → Type 0) → IsPublishedFlow mode j before f.set → ⊥

-- the cases of the last two kinds make such a claim
abbrev pub PapersSay : List Case → Type 1
PapersSay [] = Lift {0, 1} (T true)
PapersSay (finder job wrote flows ∷ cs) = PapersSay cs
PapersSay (verifier job flow wrote ∷ cs) = PapersSay cs
PapersSay (solver matrix rows cols sides side solvable out ∷ cs) = PapersSay cs
PapersSay (unpublished job flow ∷ cs) = SaysOf job flow IsNoFlow × PapersSay cs
PapersSay (published job flow wrote ∷ cs) = SaysOf job flow IsFlow × PapersSay cs

-- every claim of every case
abbrev pub AllHold : List Case → Type 1
AllHold cs = Lift {0, 1} (T (all_hold cs)) × PapersSay cs

-- ---- the files
abbrev pub job : (n mode : ℕ) (edges inputs outputs measurements : List ℕ) → List ℕ
job n mode edges inputs outputs measurements =
    written kind_opening (n ∷ mode ∷ []) ++ written kind_edges edges ++ written kind_inputs inputs ++ written kind_outputs outputs ++ written kind_measurements measurements

-- the layers in two bytes each, as the finder writes them
abbrev pub flow : (layers sets : List ℕ) → List ℕ
flow layers sets = written kind_wide_layers (in_two_bytes layers) ++ written kind_sets sets

abbrev pub no_flow : List ℕ
no_flow = written kind_no_flow []

abbrev pub refused : (number a b : ℕ) → List ℕ
refused number a b = written kind_refusal (number ∷ a ∷ in_two_bytes (b ∷ []))

-- the bytes of case A as the paper has them
abbrev pub job_a : List ℕ
job_a =
    2 ∷ 0 ∷ 0 ∷ 0 ∷ 1 ∷ 0 ∷ 2 ∷ 2 ∷ 2 ∷ 0 ∷ 0 ∷ 0 ∷ 2 ∷ 0 ∷ 0 ∷ 1 ∷ 1 ∷ 0 ∷ 0 ∷ 0 ∷ 3 ∷ 0 ∷ 0 ∷ 1 ∷ 0 ∷ 0 ∷ 0 ∷ 4 ∷ 0 ∷ 1 ∷ 2 ∷ 0 ∷ 0 ∷ 0 ∷ 5 ∷ 0 ∷ 1 ∷ 0 ∷ []

abbrev pub flow_a : List ℕ
flow_a = 4 ∷ 0 ∷ 0 ∷ 0 ∷ 0x21 ∷ 0 ∷ 1 ∷ 0 ∷ 0 ∷ 0 ∷ 3 ∷ 0 ∷ 0 ∷ 0 ∷ 0x12 ∷ 0 ∷ 0 ∷ 1 ∷ 1 ∷ []

-- and as they were before layers had two bytes: still read
abbrev pub old_flow_a : List ℕ
old_flow_a = 2 ∷ 0 ∷ 0 ∷ 0 ∷ 0x11 ∷ 0 ∷ 1 ∷ 0 ∷ 3 ∷ 0 ∷ 0 ∷ 0 ∷ 0x12 ∷ 0 ∷ 0 ∷ 1 ∷ 1 ∷ []

-- an edge, input 0 in YZ, output 1
abbrev pub job_f : ℕ → List ℕ
job_f mode = job 2 mode (0 ∷ 1 ∷ []) (0 ∷ []) (1 ∷ []) (2 ∷ 0 ∷ [])

abbrev pub flow_f : List ℕ
flow_f = flow (1 ∷ 0 ∷ []) (0 ∷ 1 ∷ 0 ∷ [])

-- one node alone that is no output, and the set {0}
abbrev pub alone : (mode measurement : ℕ) → List ℕ
alone mode measurement = job 1 mode [] [] [] (measurement ∷ [])

abbrev pub alone_flow : ℕ → List ℕ
alone_flow layer = flow (layer ∷ []) (0 ∷ 1 ∷ 0 ∷ [])

-- the path 0-1-2 with input 0 and output 2
abbrev pub path : (mode first second : ℕ) → List ℕ
path mode first second = job 3 mode (0 ∷ 1 ∷ 1 ∷ 2 ∷ []) (0 ∷ []) (2 ∷ []) (first ∷ second ∷ 0 ∷ [])

-- sets {1} of 0 and {2} of 1
abbrev pub path_flow : (a b c : ℕ) → List ℕ
path_flow a b c = flow (a ∷ b ∷ c ∷ []) (0 ∷ 1 ∷ 1 ∷ 1 ∷ 1 ∷ 2 ∷ [])

-- nodes 0 and 1, no edge, output 1
abbrev pub isolated : (mode measurement : ℕ) → List ℕ
isolated mode measurement = job 2 mode [] [] (1 ∷ []) (measurement ∷ 0 ∷ [])

abbrev pub isolated_flow : ℕ → List ℕ
isolated_flow layer = flow (layer ∷ 0 ∷ []) (0 ∷ 1 ∷ 0 ∷ [])

abbrev pub case_a : Case
case_a = finder job_a flow_a (flow_a ∷ old_flow_a ∷ [])

abbrev pub case_b : Case
case_b = finder (job 0 2 [] [] [] []) (flow [] []) (flow [] [] ∷ [])

-- needs no column: set {0}, layer 1
abbrev pub case_c : Case
case_c = finder (alone 2 2) (alone_flow 1) (alone_flow 1 ∷ [])

abbrev pub case_d : Case
case_d = finder (isolated 2 2) (isolated_flow 1) (isolated_flow 1 ∷ [])

-- needs no column: layer 0; layer 1, the Rust's, is accepted too
abbrev pub case_e : Case
case_e = finder (isolated 3 6) (isolated_flow 0) (isolated_flow 0 ∷ isolated_flow 1 ∷ [])

-- set {0}, accepted; and Backens forbids an input in any set
abbrev pub case_f : Case
case_f = finder (job_f 2) flow_f (flow_f ∷ [])

abbrev pub case_forbidden : Case
case_forbidden = unpublished (job_f 2) flow_f

abbrev pub case_g : Case
case_g = finder (path 2 1 1) (path_flow 2 1 0) (path_flow 2 1 0 ∷ [])

-- an edge, both inputs, output 1
abbrev pub case_h : Case
case_h = finder (job 2 2 (0 ∷ 1 ∷ []) (0 ∷ 1 ∷ []) (1 ∷ []) (1 ∷ 0 ∷ [])) no_flow []

abbrev pub case_i : Case
case_i = finder (path 3 1 4) (path_flow 1 1 0) (path_flow 1 1 0 ∷ [])

-- row 11, right side 1: column 0 only
abbrev pub case_j : Case
case_j = solver (bits 7 0) 1 2 1 0 true (bits 1 0)

-- row 0, right side 1: none
abbrev pub case_k : Case
case_k = solver (bits 2 0) 1 1 1 0 false (bits 255 255)

-- rows 01|1, 11|0: both columns
abbrev pub case_l : Case
case_l = solver (bits 6 0 ++ bits 3 0) 2 2 1 0 true (bits 3 0)

abbrev pub case_m : Case
case_m = verifier (path 2 1 1) (path_flow 1 1 0) (refused 18 0 1)

-- 001F as the paper has it
abbrev pub refused_n : List ℕ
refused_n = 4 ∷ 0 ∷ 0 ∷ 0 ∷ 0x1F ∷ 0 ∷ 0x0F ∷ 1 ∷ 1 ∷ 0 ∷ []

abbrev pub case_n : Case
case_n = verifier job_a (flow (1 ∷ 1 ∷ []) (0 ∷ 1 ∷ 1 ∷ [])) refused_n

-- ---- jobs with angles: 0.25 keeps its plane, 0 means X in XY, 0.5 means Y, 1 means Z in YZ
abbrev pub quarter : List ℕ
quarter = 0 ∷ 0 ∷ 0 ∷ 0 ∷ 0 ∷ 0 ∷ 0xD0 ∷ 0x3F ∷ []

abbrev pub half : List ℕ
half = 0 ∷ 0 ∷ 0 ∷ 0 ∷ 0 ∷ 0 ∷ 0xE0 ∷ 0x3F ∷ []

abbrev pub one : List ℕ
one = 0 ∷ 0 ∷ 0 ∷ 0 ∷ 0 ∷ 0 ∷ 0xF0 ∷ 0x3F ∷ []

abbrev pub nought : List ℕ
nought = 0 ∷ 0 ∷ 0 ∷ 0 ∷ 0 ∷ 0 ∷ 0 ∷ 0 ∷ []

abbrev pub with_angles : (job angles : List ℕ) → List ℕ
with_angles job angles = job ++ written kind_angles angles

-- G with a Pauli hidden in it is I; the flow of the planes is still accepted
abbrev pub case_hidden : Case
case_hidden = finder (with_angles (path 2 1 1) (quarter ++ nought ++ nought)) (path_flow 1 1 0) (path_flow 1 1 0 ∷ path_flow 2 1 0 ∷ [])

-- with ordinary angles it is searched in mode 3 too: G's flow
abbrev pub case_ordinary : Case
case_ordinary = finder (with_angles (path 2 1 1) (quarter ++ quarter ++ nought)) (path_flow 2 1 0) (path_flow 2 1 0 ∷ [])

-- so 0.5 for 0.25 at node 1 shows: sets {1, 2} of 0 and {2} of 1
abbrev pub case_half : Case
case_half = let found = flow (1 ∷ 1 ∷ 0 ∷ []) (0 ∷ 2 ∷ 1 ∷ 2 ∷ 1 ∷ 1 ∷ 2 ∷ []) in
    finder (with_angles (path 2 1 1) (quarter ++ half ++ nought)) found (found ∷ path_flow 2 1 0 ∷ [])

-- C with Z: layer 0
abbrev pub case_z : Case
case_z = finder (with_angles (alone 2 2) one) (alone_flow 0) (alone_flow 0 ∷ alone_flow 1 ∷ [])

-- B with an empty record
abbrev pub case_empty : Case
case_empty = finder (with_angles (job 0 2 [] [] [] []) []) (flow [] []) (flow [] [] ∷ [])

-- 2 is refused, and so is negative zero at an output
abbrev pub case_two : Case
case_two = finder (with_angles (alone 2 2) (0 ∷ 0 ∷ 0 ∷ 0 ∷ 0 ∷ 0 ∷ 0 ∷ 0x40 ∷ [])) (refused 23 0 0) []

abbrev pub case_signed : Case
case_signed = finder (with_angles (isolated 2 2) (quarter ++ (0 ∷ 0 ∷ 0 ∷ 0 ∷ 0 ∷ 0 ∷ 0 ∷ 0x80 ∷ []))) (refused 23 0 0) []

abbrev pub angled : List Case
angled = case_hidden ∷ case_ordinary ∷ case_half ∷ case_z ∷ case_empty ∷ case_two ∷ case_signed ∷ []

abbrev pub cases : List Case
cases =
    case_a ∷ case_b ∷ case_c ∷ case_d ∷ case_e ∷ case_f ∷ case_forbidden ∷ case_g ∷ case_h ∷ case_i ∷ case_j ∷ case_k ∷ case_l ∷ case_m ∷ case_n ∷ []

-- ---- the smallest inputs of the differences between the Rust and its papers
-- 15: an output alone, in layer 1
abbrev pub raised_output : ℕ → Case
raised_output mode = published (job 1 mode [] [] (0 ∷ []) (0 ∷ [])) (flow (1 ∷ []) []) (refused 15 0 1)

-- 16: a YZ node alone, in layer 0
abbrev pub low_node : Case
low_node = published (alone 2 2) (alone_flow 0) (refused 16 0 0)

-- case F in mode 3: Simmons forbids an input in any set too
abbrev pub own_input : Case
own_input = finder (job_f 3) flow_f (flow_f ∷ [])

abbrev pub own_input_forbidden : Case
own_input_forbidden = unpublished (job_f 3) flow_f

-- ---- and of those between the Rust and ours
-- a Z node alone, which needs no column: set {0}, layer 0
abbrev pub lone_z : Case
lone_z = finder (alone 3 6) (alone_flow 0) (alone_flow 0 ∷ [])

-- the flows that the Rust misses, here and in case C, and that of the smaller layer in case E, are flows by their papers
abbrev pub published_z : Case
published_z = published (alone 3 6) (alone_flow 0) accepted

abbrev pub published_c : Case
published_c = published (alone 2 2) (alone_flow 1) accepted

abbrev pub published_e : Case
published_e = published (isolated 3 6) (isolated_flow 0) accepted

abbrev pub differences : List Case
differences =
    raised_output 1 ∷ raised_output 2 ∷ raised_output 3 ∷ low_node ∷ own_input ∷ own_input_forbidden ∷ lone_z ∷ published_z ∷ published_c ∷ published_e ∷ []
