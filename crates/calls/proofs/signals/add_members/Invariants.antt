use mathlib.Core.Path.{◌≡◌}
use lib.ListN.{length, drop}
use Rattle.calls.specs.Loaded.{set_bits}
use Rattle.calls.proofs.BuildingSignals.{others}
use Rattle.calls.proofs.signals.add_members.Given as goal

abbrev pub invariant-loop-k : goal.invariant-loop-k
invariant-loop-k l = (length l.list ≡ length l.initial.list) × (set_bits l.width l.i (others l.i (drop l.k-index l.members)) l.list ≡ set_bits l.width l.i (others l.i l.members) l.initial.list)
