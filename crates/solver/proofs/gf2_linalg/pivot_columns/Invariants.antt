use mathlib.Core.Path.{◌≡◌}
use mathlib.Core.Bool.{true}
use Prim.Native.Nat.{◌≤◌, ◌-◌}
use Rattle.nodes.specs.NodeSet.{member}
use Rattle.solver.specs.WorkMatrix.{entry_of}
use Rattle.solver.specs.Reduced.{leads}
use Rattle.solver.specs.Solver.{row_bytes}
use Rattle.solver.proofs.gf2_linalg.pivot_columns.Given as goal

abbrev pub invariant-loop-i : goal.invariant-loop-i
invariant-loop-i l = member l.pivots ≡ (λ k. leads l.i l.cols (entry_of row_bytes l.matrix) (λ q. true) k)
