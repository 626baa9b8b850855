use Prim.Native.Nat.{◌%◌}
use Rattle.nodes.proofs.Bit.{one_shl}
use Rattle.records.specs.BitRows.{byte_bits}
use Rattle.calls.proofs.BuildingSignals.{in_byte}
use Rattle.calls.proofs.signals.byte_mask.Goals as goal

pub returns : goal.returns
returns c = one_shl byte_bits (c.args.i % byte_bits) (in_byte c.args.i)
