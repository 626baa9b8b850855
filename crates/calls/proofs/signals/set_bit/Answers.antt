use Prim.Native.Nat.{ℕ, ◌+◌, ◌*◌, ◌/◌, ◌%◌, ◌<◌}
use mathlib.Core.Path.{ap, ◌∙◌}
use native.Mathlib.Omega.{arith}
use lib.Bits.{bit_or}
use lib.ListN.{get_or, set}
use Rattle.records.specs.BitRows.{byte_bits}
use Rattle.calls.proofs.BuildingSignals.{in_byte, digit_set}
use Rattle.calls.proofs.signals.set_bit.Goals as goal

pub returns : goal.returns
returns c =
    let a = c.args in
    let k = a.width * a.j + a.i / byte_bits in
    let old = get_or a.list.now k 0 in
    let byte : old < 256 = omega (arith, c.slice_known-2-1.given k) in
    ap (λ (m : ℕ). set a.list.now k (bit_or old m)) c.byte_mask.ensures ∙ ap (set a.list.now k) (digit_set (a.i % byte_bits) old (in_byte a.i) byte)
