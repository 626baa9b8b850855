-- A job as an editor holds it: edges in any order, either end first, inputs and outputs in any order, with angles or without. What is asked of the lists, the job that
-- they mean, and the job with every list ascending.
use Rattle.std.specs.Prelude.{ℕ, Bool, true, cond, not, ◌&&◌, List, [], ◌∷◌, ◌++◌, eqb}
use Rattle.std.proofs.Math.Option.{Option, none, some}
use Rattle.nodes.specs.Row.{members}
use Rattle.nodes.specs.Lists.{has}
use Rattle.answers.specs.Answer.{Answer, gives, asks, ◌>>◌}
use Rattle.records.specs.JobFile.{JobFile, opening_allowed, whole_pairs, nodes_below, measurements_asks, angles_asks, has_angles, has_edge}

pub record JobLists : Type 0 where
  pub n : ℕ
  pub mode : ℕ
  pub edges : List ℕ
  pub inputs : List ℕ
  pub outputs : List ℕ
  pub measurements : List ℕ
  pub angles : Option (List ℕ)

abbrev pub given : (n mode : ℕ) (edges inputs outputs measurements : List ℕ) (angles : Option (List ℕ)) → JobLists
given n mode edges inputs outputs measurements angles = record { n = n; mode = mode; edges = edges; inputs = inputs; outputs = outputs; measurements = measurements; angles = angles }

-- those of a file
abbrev pub lists_of : JobFile → JobLists
lists_of f = given f.n f.mode f.edges f.inputs f.outputs f.measurements f.angles

-- ---- what is asked
-- no node twice
unfoldable pub once : List ℕ → Bool
once [] = true
once (u ∷ l) = not (has l u) && once l

-- no loop, and no edge twice, in either direction
unfoldable pub edges_once : List ℕ → Bool
edges_once [] = true
edges_once (a ∷ []) = true
edges_once (a ∷ b ∷ l) = not (eqb a b) && not (has_edge l a b) && edges_once l

-- angles go with mode 2 only (4); then 3 and 23
unfoldable pub angles_given : (n mode : ℕ) (output : ℕ → Bool) → Option (List ℕ) → Answer Bool
angles_given n mode output none = gives true
angles_given n mode output (some p) = do
  asks 4 (has_angles mode)
  angles_asks n output p

-- list by list, in the order of the records: 3, 4, 5, 7 and 23
unfoldable pub lists_ask : JobLists → Answer Bool
lists_ask l = do
  asks 4 (opening_allowed l.n l.mode)
  asks 3 (whole_pairs l.edges)
  asks 5 (nodes_below l.n l.edges)
  asks 5 (nodes_below l.n l.inputs)
  asks 5 (nodes_below l.n l.outputs)
  measurements_asks l.n l.mode (has l.outputs) l.measurements
  angles_given l.n l.mode (has l.outputs) l.angles

-- after all lists: no loop, and no edge or node twice
abbrev pub given_once : JobLists → Bool
given_once l = edges_once l.edges && once l.inputs && once l.outputs

-- ---- the job that lists mean, whatever their order
pub record Meaning : Type 0 where
  pub n : ℕ
  pub mode : ℕ
  pub edge : ℕ → ℕ → Bool
  pub input : ℕ → Bool
  pub output : ℕ → Bool
  pub measurements : List ℕ
  pub angles : Option (List ℕ)

abbrev pub meaning : JobLists → Meaning
meaning l = record { n = l.n; mode = l.mode; edge = has_edge l.edges; input = has l.inputs; output = has l.outputs; measurements = l.measurements; angles = l.angles }

-- ---- that job with every list ascending
-- those of the list that are in s
unfoldable pub keep : (ℕ → Bool) → List ℕ → List ℕ
keep s [] = []
keep s (u ∷ l) = let rest = keep s l in cond (s u) (u ∷ rest) rest

-- a with each of these
unfoldable pub pairs_with : ℕ → List ℕ → List ℕ
pairs_with a [] = []
pairs_with a (b ∷ l) = a ∷ b ∷ pairs_with a l

-- each of the nodes with those of its neighbours that stand behind it
unfoldable pub pairs_among : (ℕ → ℕ → Bool) → List ℕ → List ℕ
pairs_among edge [] = []
pairs_among edge (a ∷ l) = pairs_with a (keep (edge a) l) ++ pairs_among edge l

-- a job of these lists, and of nothing more
abbrev pub job_with : (n mode : ℕ) (edges inputs outputs measurements : List ℕ) (angles : Option (List ℕ)) → JobFile
job_with n mode edges inputs outputs measurements angles = record { n = n; mode = mode; edges = edges; inputs = inputs; outputs = outputs; measurements = measurements; angles = angles; after = [] }

-- the job of a file without its angles, and with nothing behind it
abbrev pub without_angles : JobFile → JobFile
without_angles f = job_with f.n f.mode f.edges f.inputs f.outputs f.measurements none

abbrev pub ascending : Meaning → JobFile
ascending m = let nodes = members m.n in
    job_with m.n m.mode (pairs_among m.edge (nodes (λ u. true))) (nodes m.input) (nodes m.output) m.measurements m.angles
