use Prim.Native.Nat.{◌*◌, ◌≤◌, ◌-◌}
use Rattle.solver.specs.Solver.{row_bytes}
use Rattle.solver.proofs.WorkMatrix.{NoneBefore}
use Rattle.solver.proofs.gf2_linalg.lead.Given as goal

abbrev pub invariant-loop-q : goal.invariant-loop-q
invariant-loop-q l = NoneBefore row_bytes l.matrix l.row (8 * l.q)
