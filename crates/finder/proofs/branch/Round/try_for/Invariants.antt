use mathlib.Core.Path.{◌≡◌}
use lib.ListN.{drop}
use Rattle.flows.specs.Branch.{branches, first_solvable}
use Rattle.flows.specs.Round.{for_node}
use Rattle.finder.specs.WorkMatrix.{context_of}
use Rattle.finder.specs.Tries.{graph_job, try_for}
use Rattle.finder.proofs.branch.Round.try_for.Given as goal

abbrev pub invariant-loop-b : goal.invariant-loop-b
invariant-loop-b l = first_solvable (graph_job l.self.n l.self.graph.now) (for_node (context_of l.self.context) l.u) l.u (drop l.b-index (branches l.m)) ≡ try_for l.self.n l.self.graph.now (context_of l.self.context) l.u l.m
