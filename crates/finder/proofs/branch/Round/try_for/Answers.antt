use Rattle.std.proofs.Common.{◌≡◌, ℕ, Bool, ◌+◌, ◌<◌, ◌≤◌, List, map, drop, length, get_or, sym, ap, ◌∙◌}
use Rattle.std.proofs.lemmas.List.{get_or-map}
use lib.ListN.{length-map}
use mathlib.Core.Option.{Option}
use Rattle.nodes.specs.Options.{option_or}
use Rattle.solver.specs.BasisCalls.{solution_of}
use Rattle.flows.specs.Job.{Job}
use Rattle.flows.specs.Branch.{Context, branches, first_solvable, try_branch}
use Rattle.flows.specs.Numbers.{branch_number}
use Rattle.flows.specs.Round.{for_node}
use Rattle.finder.specs.WorkMatrix.{context_of}
use Rattle.finder.specs.Tries.{graph_job}
use Rattle.finder.proofs.BranchTable.{first_here, first_past}
use Rattle.finder.proofs.branch.Round.try_for.Goals as goal
use Rattle.finder.proofs.branch.Round.try_for.Goals.{After-try_branch}

-- what is tried from the branch at hand on, and behind it
abbrev job-at : After-try_branch → Job
job-at c = graph_job c.args.self.now.n c.args.self.now.graph.now

abbrev own-at : After-try_branch → Context
own-at c = for_node (context_of c.args.self.now.context) c.args.u

abbrev rest-at : After-try_branch → Option (ℕ → Bool)
rest-at c = first_solvable (job-at c) (own-at c) c.args.u (drop (c.loop-b.b-index + 1) (branches c.args.m))

here-at : (c : After-try_branch) → first_solvable (job-at c) (own-at c) c.args.u (drop c.loop-b.b-index (branches c.args.m)) ≡ option_or (solution_of c.try_branch.result) (rest-at c)
here-at c =
    let bs = c.branches-b-items.result.now in
    let e = c.branches-b-items.ensures in
    let i = c.loop-b.b-index in
    let small : i < length (branches c.args.m) = rw (← e, length-map bs branch_number) c.loop-b-test.true in
    first_here (job-at c) (own-at c) c.args.u (branches c.args.m) i _ small (sym (get_or-map branch_number bs i _ 0 c.loop-b-test.true) ∙ ap (λ (l : List ℕ). get_or l i 0) e)
    ∙ ap (λ (o : Option (ℕ → Bool)). option_or o (rest-at c)) (sym c.try_branch.ensures)

pub returns-in-Some : goal.returns-in-Some
returns-in-Some c =
    let d = (goal.at.returns-in-Some c).After-try_branch in
    ap (λ (o : Option (ℕ → Bool)). option_or o (rest-at d)) (ap solution_of (sym c.in-Some.is)) ∙ sym (here-at d) ∙ c.loop-b.invariant

pub loop-b-preserved : goal.loop-b-preserved
loop-b-preserved c =
    let d = (goal.at.loop-b-preserved c).After-try_branch in
    ap (λ (o : Option (ℕ → Bool)). option_or o (rest-at d)) (ap solution_of (sym c.in_default.is)) ∙ sym (here-at d) ∙ c.loop-b.invariant

pub returns : goal.returns
returns c =
    let bs = c.branches-b-items.result.now in
    let e = c.branches-b-items.ensures in
    let past : length (branches c.args.m) ≤ c.loop-b.b-index = rw (← e, length-map bs branch_number) c.loop-b-test.false in
    sym (first_past (graph_job c.args.self.now.n c.args.self.now.graph.now) (for_node (context_of c.args.self.now.context) c.args.u) c.args.u (branches c.args.m) c.loop-b.b-index past) ∙ c.loop-b.invariant
