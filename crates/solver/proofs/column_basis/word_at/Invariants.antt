use Prim.Native.Nat.{◌+◌, ◌-◌, ◌≤◌}
use Rattle.solver.proofs.BasisTables.{IsWord}
use Rattle.solver.proofs.column_basis.word_at.Given as goal

abbrev pub invariant-loop-left : goal.invariant-loop-left
invariant-loop-left l = (l.left ≤ 8) × IsWord l.matrix (l.at + l.left) (8 - l.left) l.word

abbrev pub decreases-loop-left : goal.decreases-loop-left
decreases-loop-left l = l.left
