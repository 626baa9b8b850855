use mathlib.Core.Path.{◌≡◌}
use Prim.Native.Nat.{◌≤◌, ◌-◌}
use lib.ListN.{length}
use Rattle.solver.specs.Steps.{lead_bytes}
use Rattle.solver.specs.Solver.{row_bytes}
use Rattle.solver.proofs.gf2_linalg.put_leads.Given as goal

abbrev pub invariant-loop-i : goal.invariant-loop-i
invariant-loop-i l = (length l.out ≡ length l.initial.out) × (l.out ≡ lead_bytes row_bytes l.matrix l.cols l.asked l.i)
