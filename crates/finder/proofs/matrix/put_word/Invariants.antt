use Prim.Native.Nat.{◌≤◌, ◌-◌}
use Rattle.finder.proofs.WorkMatrix.{IsPutting}
use Rattle.finder.proofs.matrix.put_word.Given as goal

abbrev pub invariant-loop-i : goal.invariant-loop-i
invariant-loop-i l = (l.i ≤ 8) × IsPutting l.at l.word l.i l.left l.initial.work l.work

abbrev pub decreases-loop-i : goal.decreases-loop-i
decreases-loop-i l = 8 - l.i
