use Prim.Native.Nat.{◌+◌, ◌*◌}
use mathlib.Core.Path.{◌≡◌}
use lib.ListN.{length, take}
use Rattle.records.specs.Records.{in_two_bytes}
use Rattle.records.specs.Splice.{splice}
use Rattle.records.proofs.writer.put_layers.Given as goal

abbrev pub invariant-loop-layer : goal.invariant-loop-layer
invariant-loop-layer l = (l.p ≡ l.at + 2 * l.layer-index) × (length l.out ≡ length l.initial.out) × (l.out ≡ splice l.at (in_two_bytes (take l.layer-index l.layers)) l.initial.out)
