-- Reading a job: five records in order, each once, and in mode 2 the angles where they stand, with questions 1 to 7 and 23.
use Rattle.std.specs.Prelude.{ℕ, ◌+◌, ◌*◌, ◌%◌, Bool, true, false, cond, ◌&&◌, ◌||◌, List, [], ◌∷◌, eqb, ltb, leb, length, get_or}
use Rattle.std.proofs.Math.Option.{Option, none, some}
use Rattle.nodes.specs.NodeSet.{capacity}
use Rattle.nodes.specs.Lists.{has, all}
use Rattle.flows.specs.Job.{Job, plane_xy, plane_xz, pauli_z}
use Rattle.angles.specs.AngleRecord.{angle_bytes, angles_allowed, inferred_bytes}
use Rattle.answers.specs.Answer.{Answer, gives, asks, ◌>>=◌, ◌>>◌}
use Rattle.records.specs.Format.{Front, Format, PayloadFormat, plain, record_of, ◌then◌, optional_if}
use Rattle.records.specs.Records.{kind_opening, kind_edges, kind_inputs, kind_outputs, kind_measurements, kind_angles, each_asks}

-- the most nodes a job may have: as many as a set can have
abbrev pub most_nodes : ℕ
most_nodes = capacity

abbrev pub mode_causal : ℕ
mode_causal = 1

abbrev pub mode_planes : ℕ
mode_planes = 2

abbrev pub mode_pauli : ℕ
mode_pauli = 3

-- ---- one question each
-- pairs, and no byte more
abbrev pub whole_pairs : List ℕ → Bool
whole_pairs p = eqb (length p % 2) 0

-- the nodes are below n
abbrev pub nodes_below : ℕ → List ℕ → Bool
nodes_below n = all (λ v. ltb v n)

-- strictly ascending, from `low` on
unfoldable pub rises : ℕ → List ℕ → Bool
rises low [] = true
rises low (x ∷ l) = leb low x && rises (x + 1) l

-- pairs a, b with a < b, strictly ascending by a, then b: as numbers 256 a + b they rise
unfoldable pub pairs_rise : ℕ → List ℕ → Bool
pairs_rise low [] = true
pairs_rise low (a ∷ []) = true
pairs_rise low (a ∷ b ∷ l) = ltb a b && leb low (256 * a + b) && pairs_rise (256 * a + b + 1) l

-- the highest measurement that the mode allows
abbrev pub highest_of : ℕ → ℕ
highest_of mode = cond (eqb mode mode_causal) plane_xy (cond (eqb mode mode_planes) plane_xz pauli_z)

-- the byte of a node: 0 at an output, else a measurement that the mode allows
unfoldable pub allows : ℕ → Bool → ℕ → Bool
allows mode output m = cond output (eqb m 0) (leb 1 m && leb m (highest_of mode))

-- the bytes of the nodes from i on
unfoldable pub all_allowed : ℕ → (ℕ → Bool) → ℕ → List ℕ → Bool
all_allowed mode output i [] = true
all_allowed mode output i (m ∷ l) = allows mode (output i) m && all_allowed mode output (i + 1) l

abbrev pub opening_allowed : (n mode : ℕ) → Bool
opening_allowed n mode = leb n most_nodes && leb mode_causal mode && leb mode mode_pauli

-- ---- the questions of each record: does the length suit (3), are n and mode allowed (4), is each node below n (5), is the
-- order strict (6), is each measurement byte allowed (7), is each angle (23)
unfoldable pub opening_asks : List ℕ → Answer Bool
opening_asks p = do
  asks 3 (eqb (length p) 2)
  asks 4 (opening_allowed (get_or p 0 0) (get_or p 1 0))

unfoldable pub edges_asks : ℕ → List ℕ → Answer Bool
edges_asks n p = do
  asks 3 (whole_pairs p)
  asks 5 (nodes_below n p)
  asks 6 (pairs_rise 0 p)

unfoldable pub nodes_asks : ℕ → List ℕ → Answer Bool
nodes_asks n p = do
  asks 5 (nodes_below n p)
  asks 6 (rises 0 p)

unfoldable pub measurements_asks : (n mode : ℕ) → (ℕ → Bool) → List ℕ → Answer Bool
measurements_asks n mode output p = do
  asks 3 (eqb (length p) n)
  asks 7 (all_allowed mode output 0 p)

unfoldable pub angles_asks : ℕ → (ℕ → Bool) → List ℕ → Answer Bool
angles_asks n output p = do
  each_asks angle_bytes n p
  asks 23 (angles_allowed n output p)

-- what the records hold, the angles where they stand, and the bytes behind them
pub record JobFile : Type 0 where
  pub n : ℕ
  pub mode : ℕ
  pub edges : List ℕ
  pub inputs : List ℕ
  pub outputs : List ℕ
  pub measurements : List ℕ
  pub angles : Option (List ℕ)
  pub after : List ℕ

-- ---- a job: five records in order, each once, and behind them, in mode 2 alone, perhaps the angles
pub record Opening : Type 0 where
  pub n : ℕ
  pub mode : ℕ

abbrev pub opening : PayloadFormat Opening
opening = record {
  valid = λ o. opening_allowed o.n o.mode;
  encode = λ o. o.n ∷ o.mode ∷ [];
  questions = opening_asks;
  value = λ p. record { n = get_or p 0 0; mode = get_or p 1 0 };
}

abbrev pub JobValue : Type 0
JobValue = Opening × (List ℕ × (List ℕ × (List ℕ × (List ℕ × Option (List ℕ)))))

-- angles go with planes
abbrev pub has_angles : ℕ → Bool
has_angles mode = eqb mode mode_planes

-- where the next six bytes carry their kind they are there, be they none (n = 0)
abbrev pub angles : (n mode : ℕ) → (ℕ → Bool) → Format (Option (List ℕ))
angles n mode output = optional_if (has_angles mode) kind_angles (record_of kind_angles (plain (angles_asks n output)))

abbrev pub job : Format JobValue
job =
    record_of kind_opening opening then λ o.
    record_of kind_edges (plain (edges_asks o.n)) then λ edges.
    record_of kind_inputs (plain (nodes_asks o.n)) then λ inputs.
    record_of kind_outputs (plain (nodes_asks o.n)) then λ outputs.
    record_of kind_measurements (plain (measurements_asks o.n o.mode (has outputs))) then λ measurements.
    angles o.n o.mode (has outputs)

abbrev pub job_file : Front JobValue → JobFile
job_file p = record {
  n = p.value.0.n;
  mode = p.value.0.mode;
  edges = p.value.1.0;
  inputs = p.value.1.1.0;
  outputs = p.value.1.1.1.0;
  measurements = p.value.1.1.1.1.0;
  angles = p.value.1.1.1.1.1;
  after = p.rest;
}

abbrev pub job_value : JobFile → JobValue
job_value f = (record { n = f.n; mode = f.mode }, (f.edges, (f.inputs, (f.outputs, (f.measurements, f.angles)))))

unfoldable pub read_job : List ℕ → Answer JobFile
read_job s = job.decode s >>= λ p. gives (job_file p)

-- ---- what the file means: the graph is symmetric, since a pair joins both ways
unfoldable pub has_edge : List ℕ → ℕ → ℕ → Bool
has_edge [] u v = false
has_edge (a ∷ []) u v = false
has_edge (a ∷ b ∷ l) u v = eqb a u && eqb b v || eqb a v && eqb b u || has_edge l u v

-- the mode and the measurements to work with: those of the file, and with angles, whatever they are, mode 3 and what they infer
pub record Working : Type 0 where
  pub mode : ℕ
  pub measurements : List ℕ

abbrev pub working : (mode : ℕ) (measurements : List ℕ) → Option (List ℕ) → Working
working mode measurements none = record { mode = mode; measurements = measurements }
working mode measurements (some p) = record { mode = mode_pauli; measurements = inferred_bytes measurements p }

abbrev pub working_of : JobFile → Working
working_of f = working f.mode f.measurements f.angles

abbrev pub job_of : JobFile → Job
job_of f = record {
  nodes = f.n;
  edge = has_edge f.edges;
  input = has f.inputs;
  output = has f.outputs;
  measured = λ u. get_or (working_of f).measurements u 0;
}
