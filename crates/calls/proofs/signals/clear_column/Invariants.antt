use mathlib.Core.Bool.{false}
use lib.Dec.{ltb}
use Rattle.calls.proofs.BuildingSignals.{IsPartlySet}
use Rattle.calls.proofs.signals.clear_column.Given as goal

abbrev pub invariant-loop-j : goal.invariant-loop-j
invariant-loop-j l = IsPartlySet l.n l.i false (λ r. ltb r l.j) l.initial.list l.list
