-- The tries of a node in an open round: what its branch asks of the round's equations, and what is tried in which order.
use Rattle.std.specs.Prelude.{ℕ, ◌<◌, ◌≡◌, Bool, true, false, cond, not, ◌&&◌, List, T, eqb, length}
use Rattle.std.proofs.Math.Option.{Option, none}
use Rattle.nodes.specs.Bit.{◌⊕◌}
use Rattle.nodes.specs.NodeSet.{member, capacity}
use Rattle.nodes.specs.SetTable.{set_at, table_words}
use Rattle.solver.specs.System.{System}
use Rattle.solver.specs.BasisCalls.{Echelon, TablesSolve}
use Rattle.flows.specs.Job.{Job}
use Rattle.flows.specs.Branch.{Context, branches, in_set, in_odd, try_branch, first_solvable}
use Rattle.flows.specs.Round.{for_node, has_row}
use Rattle.finder.specs.WorkMatrix.{context_of, IsWithin, HasRowsApart, Sees}
use Rattle.finder.specs.declared.matrix.Context as Code

-- all that a try asks of a job: its nodes and its graph
abbrev pub graph_job : (n : ℕ) (graph : List ℕ) → Job
graph_job n graph = record { nodes = n; edge = set_at graph; input = λ k. false; output = λ k. false; measured = λ u. 0 }

-- ---- one system for the round
-- a row for each node: empty where the node has none
abbrev pub round_system : List ℕ → Code.Context → System
round_system transposed s = record {
  rows = capacity;
  row = λ v. true;
  column = member s.columns;
  entry = λ v k. (member s.upper v && set_at transposed v k) ⊕ (member s.lower v && (set_at transposed v k ⊕ eqb k v));
}

-- what the row of v asks for, for u in branch b
abbrev pub side_bit : List ℕ → ℕ → ℕ → ℕ → Bool
side_bit g u b v = (eqb v u && in_odd b) ⊕ (in_set b && set_at g u v)

-- Of the nodes that have a row. That the lower row of u asks for what an upper one would: without the column u they are the same.
abbrev pub round_rows : List ℕ → Code.Context → ℕ → ℕ → ℕ → Bool
round_rows g s u b v = side_bit g u b v && has_row (context_of s) v

-- what is asked besides: where u has a row, that u is no member; else what the upper row of u asks
abbrev pub asked_columns : List ℕ → Code.Context → ℕ → ℕ → Bool
asked_columns transposed s u k = cond (has_row (context_of s) u) (eqb k u) (set_at transposed u k && member s.columns k)

abbrev pub asked_odd : List ℕ → Code.Context → ℕ → ℕ → Bool
asked_odd g s u b = not (has_row (context_of s) u) && side_bit g u b u

-- the lent tables have a set for each node
abbrev pub TablesFit : (kernel reduced preimage : List ℕ) → Type 0
TablesFit kernel reduced preimage = (length kernel ≡ table_words) × (length reduced ≡ table_words) × (length preimage ≡ table_words)

-- ---- what a try asks for
-- a round is open: the tables answer what its equations do
pub record IsReady (n : ℕ) (g : List ℕ) (s : Code.Context) (e : Echelon) (kernel reduced preimage transposed : List ℕ) : Type 0 where
  pub solves : TablesSolve (round_system transposed s) e kernel reduced preimage
  pub within : IsWithin n s
  pub apart : HasRowsApart s
  pub seeing : Sees g (member s.columns) transposed

-- u is a node, and if it is a column, it has a row
pub record IsTrying (n : ℕ) (s : Code.Context) (u : ℕ) : Type 0 where
  pub node : u < n
  pub covered : T (member s.columns u) → T (has_row (context_of s) u)

-- ---- the branches of a measurement
-- the first solvable branch of a measurement
abbrev pub try_in : (n : ℕ) (graph : List ℕ) → Context → (u m : ℕ) → Option (ℕ → Bool)
try_in n graph c u m = first_solvable (graph_job n graph) c u (branches m)

-- and that of u, which meets a context of its own
abbrev pub try_for : (n : ℕ) (graph : List ℕ) → Context → (u m : ℕ) → Option (ℕ → Bool)
try_for n graph c u m = try_in n graph (for_node c u) u m
