use mathlib.Core.Path.{◌≡◌}
use Prim.Native.Nat.{◌≤◌, ◌-◌}
use lib.ListN.{length}
use Rattle.solver.specs.Steps.{turns, eliminate_column}
use Rattle.solver.specs.Solver.{row_bytes}
use Rattle.solver.proofs.gf2_linalg.eliminate_columns.Given as goal

abbrev pub invariant-loop-col : goal.invariant-loop-col
invariant-loop-col l = (l.rank ≤ l.rows) × (length l.matrix ≡ length l.initial.matrix) × (record { rank = l.rank; rows = l.matrix } ≡ turns (eliminate_column row_bytes l.rows) l.col (record { rank = 0; rows = l.initial.matrix }))
