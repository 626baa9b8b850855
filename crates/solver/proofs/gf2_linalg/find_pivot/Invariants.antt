use mathlib.Core.Path.{◌≡◌}
use Prim.Native.Nat.{◌≤◌, ◌-◌}
use Rattle.nodes.specs.Row.{lowest_from}
use Rattle.solver.specs.WorkMatrix.{entry_of}
use Rattle.solver.specs.Solver.{row_bytes}
use Rattle.solver.proofs.gf2_linalg.find_pivot.Given as goal

abbrev pub invariant-loop-i : goal.invariant-loop-i
invariant-loop-i l = lowest_from l.from (l.rows - l.from) (λ k. entry_of row_bytes l.matrix k l.col) ≡ lowest_from l.i (l.rows - l.i) (λ k. entry_of row_bytes l.matrix k l.col)
