use mathlib.Core.Path.{◌≡◌, ◌∙◌}
use mathlib.Core.Bool.{true, false}
use Prim.Native.Nat.{ℕ, ◌%◌, ◌^◌, ◌≤◌, ◌<◌}
use native.Mathlib.Omega.{arith}
use borrow.Author.Tests.{lt-ltb, le-ltb}
use lib.Bits.{and_mask}
use lib.Ieee.{binary64, nan_bits}
use lib.Ieee.Bits.{nan_bits_above}
use Rattle.angles.specs.Angle.{read_bits}
use Rattle.angles.proofs.read_bits.Goals as goal

-- the bits of infinity

abbrev infinity : ℕ
infinity = 0x7ff0_0000_0000_0000

above : (n : ℕ) → infinity < n % 2 ^ 63 → nan_bits binary64 n ≡ true
above n h = nan_bits_above binary64 n ∙ lt-ltb infinity (n % 2 ^ 63) h

not-above : (n : ℕ) → n % 2 ^ 63 ≤ infinity → nan_bits binary64 n ≡ false
not-above n h = nan_bits_above binary64 n ∙ le-ltb infinity (n % 2 ^ 63) h

pub returns-then-bits-gt-INFINITY : goal.returns-then-bits-gt-INFINITY
unfolding read_bits
returns-then-bits-gt-INFINITY c = let n = c.args.bits in simp (above n (omega (arith, and_mask n 63)))

pub float_from_bits-result : goal.float_from_bits-result
float_from_bits-result c = let n = c.args.bits in rw (not-above n (omega (arith, and_mask n 63))) tt

pub returns : goal.returns
unfolding read_bits
returns c = let n = c.args.bits in simp (not-above n (omega (arith, and_mask n 63)))
