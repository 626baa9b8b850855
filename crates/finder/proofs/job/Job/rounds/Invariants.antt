use mathlib.Core.List.{List}
use Prim.Native.Nat.{ℕ}
use mathlib.Core.Bool.{not}
use Rattle.nodes.specs.NodeSet.{member}
use Rattle.nodes.specs.Row.{count}
use Rattle.finder.specs.WorkMatrix.{IsTransposed}
use Rattle.finder.specs.Tries.{TablesFit}
use Rattle.finder.specs.Searches.{with_paulis}
use Rattle.finder.specs.Visits.{IsSized, progress_in}
use Rattle.finder.proofs.Rounds.{IsSearchPending}
use Rattle.finder.proofs.job.Job.rounds.Given as goal

abbrev pub invariant-loop-kinds : goal.invariant-loop-kinds
invariant-loop-kinds l = IsSized l.self.n l.self.measured.now l.work l.layers l.sets × TablesFit l.basis.kernel.now l.basis.reduced.now l.basis.preimage.now × IsTransposed l.self.graph.now l.state.support l.transposed
    × ((o : List ℕ) → IsSearchPending (with_paulis l.self.rule) l.self.n l.self.graph.now l.self.inputs o l.self.measured.now l.initial.r (member l.initial.later) (progress_in l.initial.state.solved l.initial.layers l.initial.sets) → IsSearchPending (with_paulis l.self.rule) l.self.n l.self.graph.now l.self.inputs o l.self.measured.now l.r (member l.later) (progress_in l.state.solved l.layers l.sets))

abbrev pub decreases-loop-kinds : goal.decreases-loop-kinds
decreases-loop-kinds l = count l.self.n (λ u. not (member l.later u))
