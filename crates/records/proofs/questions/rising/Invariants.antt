use mathlib.Core.Path.{◌≡◌}
use mathlib.Core.Bool.{◌&&◌}
use Prim.Native.Nat.{◌+◌, ◌-◌, ◌≤◌}
use lib.ListN.{get_or, drop}
use Rattle.records.specs.JobFile.{rises}
use Rattle.records.proofs.questions.rising.Given as goal

abbrev pub invariant-loop-i : goal.invariant-loop-i
invariant-loop-i l = (1 ≤ l.i) × (rises 0 l.nodes ≡ l.ok && rises (get_or l.nodes (l.i - 1) 0 + 1) (drop l.i l.nodes))
