use mathlib.Core.Path.{◌≡◌}
use mathlib.Core.Bool.{true}
use Prim.Native.Nat.{◌≤◌, ◌-◌}
use Rattle.solver.specs.WorkMatrix.{within_width}
use Rattle.solver.specs.Solver.{row_bytes}
use Rattle.solver.proofs.gf2_linalg.within_width.Given as goal

abbrev pub invariant-loop-i : goal.invariant-loop-i
invariant-loop-i l = within_width row_bytes l.matrix l.i l.width ≡ true
