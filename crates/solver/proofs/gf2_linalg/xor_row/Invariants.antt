use mathlib.Core.Path.{◌≡◌}
use Prim.Native.Nat.{◌≤◌, ◌-◌}
use lib.ListN.{length}
use Rattle.solver.specs.Steps.{turns}
use Rattle.solver.specs.Solver.{row_bytes}
use Rattle.solver.proofs.Bytes.{xor_byte}
use Rattle.solver.proofs.gf2_linalg.xor_row.Given as goal

abbrev pub invariant-loop-j : goal.invariant-loop-j
invariant-loop-j l = (length l.matrix ≡ length l.initial.matrix) × (l.matrix ≡ turns (xor_byte l.d l.s) l.j l.initial.matrix)
