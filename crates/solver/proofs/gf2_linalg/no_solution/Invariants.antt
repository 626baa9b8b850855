use mathlib.Core.Path.{◌≡◌}
use mathlib.Core.Bool.{false}
use Prim.Native.Nat.{◌≤◌, ◌-◌}
use Rattle.solver.specs.Steps.{no_solution}
use Rattle.solver.specs.Solver.{row_bytes}
use Rattle.solver.proofs.gf2_linalg.no_solution.Given as goal

abbrev pub invariant-loop-i : goal.invariant-loop-i
invariant-loop-i l = no_solution row_bytes l.matrix l.i l.cols l.asked ≡ false
