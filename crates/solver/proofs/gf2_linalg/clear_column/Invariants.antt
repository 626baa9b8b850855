use mathlib.Core.Path.{◌≡◌}
use Prim.Native.Nat.{◌≤◌, ◌-◌}
use lib.ListN.{length}
use Rattle.solver.specs.Steps.{turns, clear_one}
use Rattle.solver.specs.Solver.{row_bytes}
use Rattle.solver.proofs.gf2_linalg.clear_column.Given as goal

abbrev pub invariant-loop-i : goal.invariant-loop-i
invariant-loop-i l = (length l.matrix ≡ length l.initial.matrix) × (l.matrix ≡ turns (clear_one row_bytes l.pivot l.col) l.i l.initial.matrix)
