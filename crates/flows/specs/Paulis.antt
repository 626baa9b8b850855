-- The search for Paulis (`find` of pflow.rs).
use Rattle.std.specs.Prelude.{ℕ, Bool, true}
use Rattle.std.proofs.Math.Option.{Option}
use Rattle.flows.specs.Job.{Job}
use Rattle.flows.specs.Branch.{Context, try_node}
use Rattle.flows.specs.Search.{Progress, search_from, if_solved}
use Rattle.flows.specs.Tries.{context_at}

-- `later` are the nodes that have left the rows and, inputs aside, joined the columns: none in round 0, then the outputs
-- and the solved nodes
abbrev pub context : Job → (later : ℕ → Bool) → ℕ → Context
context j = context_at j true

abbrev pub try : Job → (later : ℕ → Bool) → ℕ → Option (ℕ → Bool)
try j later u = try_node j (context j later u) u

-- how far the search comes, and what it finds; round 0 never ends it
abbrev pub progress : Job → Progress
progress j = search_from true (try j) j.nodes j.output

abbrev pub find : Job → Option Progress
find j = if_solved j.nodes (progress j)
