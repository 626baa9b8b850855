use mathlib.Core.Path.{◌≡◌}
use Prim.Native.Nat.{◌*◌, ◌/◌, ◌≤◌, ◌-◌}
use Rattle.solver.specs.Solver.{row_bytes}
use Rattle.solver.proofs.WorkMatrix.{EndsBefore}
use Rattle.solver.proofs.gf2_linalg.row_within_width.Given as goal

abbrev pub invariant-loop-q : goal.invariant-loop-q
invariant-loop-q l = (l.width / 8 ≤ l.q) × (l.inside ≡ l.width - 8 * l.q) × EndsBefore row_bytes l.matrix l.row l.width (8 * l.q)
