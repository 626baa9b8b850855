-- The search for planes (`find` of gflow.rs): that of Paulis with nobody excused, from round 1 on. One context serves all nodes of a
-- round.
use Rattle.std.specs.Prelude.{ℕ, Bool, false, not, ◌&&◌}
use Rattle.std.proofs.Math.Option.{Option}
use Rattle.flows.specs.Job.{Job}
use Rattle.flows.specs.Branch.{Context, try_node}
use Rattle.flows.specs.Search.{Progress, no_node, search_from, if_solved}

-- Columns: the outputs and solved nodes that are no inputs. Rows: the unsolved nodes.
abbrev pub context : Job → (later : ℕ → Bool) → Context
context j later = record { column = λ k. later k && not (j.input k); upper = λ v. not (later v); lower = no_node }

abbrev pub try : Job → (later : ℕ → Bool) → ℕ → Option (ℕ → Bool)
try j later u = try_node j (context j later) u

-- how far the search comes, and what it finds
abbrev pub progress : Job → Progress
progress j = search_from false (try j) j.nodes j.output

abbrev pub find : Job → Option Progress
find j = if_solved j.nodes (progress j)
