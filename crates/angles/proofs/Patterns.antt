-- Bits at the edges of what is inferred and allowed: what the definitions make of them, computed.
use Prim.Native.Nat.{ℕ}
use mathlib.Core.Path.{◌≡◌, refl}
use mathlib.Core.Bool.{Bool, true, false}
use mathlib.Core.List.{List, [], ◌∷◌, ◌++◌, map}
use lib.Ieee.{eq, lt, of_bits, nan_bits}
use Rattle.flows.specs.Job.{plane_xy, plane_yz, plane_xz, pauli_x, pauli_y, pauli_z}
use Rattle.angles.specs.Angle.{inferred_in, inferred_byte, read_bits, in_range, entry_allowed}
use Rattle.angles.specs.AngleRecord.{inferred_from}

-- the measurement inferred in each plane, and whether question 23 allows the bits at a measured node and at an output
pub record Row : Type 0 where
  pub bits : ℕ
  pub in_xy : ℕ
  pub in_yz : ℕ
  pub in_xz : ℕ
  pub measured : Bool
  pub output : Bool

abbrev pub computed : ℕ → Row
computed b =
    let in_plane : ℕ → ℕ = λ p. inferred_from p (read_bits b) in
    record { bits = b; in_xy = in_plane plane_xy; in_yz = in_plane plane_yz; in_xz = in_plane plane_xz; measured = entry_allowed false b; output = entry_allowed true b }

-- ---- what is expected
abbrev pub whole : (output : Bool) → ℕ → Row
whole output b = record { bits = b; in_xy = pauli_x; in_yz = pauli_z; in_xz = pauli_z; measured = true; output = output }

abbrev pub half : ℕ → Row
half b = record { bits = b; in_xy = pauli_y; in_yz = pauli_y; in_xz = pauli_x; measured = true; output = false }

-- its plane stays
abbrev pub other : (measured : Bool) → ℕ → Row
other measured b = record { bits = b; in_xy = plane_xy; in_yz = plane_yz; in_xz = plane_xz; measured = measured; output = false }

-- ---- the bits
-- negative zero and 1; positive zero is the only one that an output may have
abbrev pub wholes : List ℕ
wholes = 0x8000000000000000 ∷ 0x3ff0000000000000 ∷ []

-- 0.5 and 1.5
abbrev pub halves : List ℕ
halves = 0x3fe0000000000000 ∷ 0x3ff8000000000000 ∷ []

-- the least and the greatest subnormal; the doubles next to 0.5, to 1 and to 1.5; the double below 2
abbrev pub between : List ℕ
between =
    0x0000000000000001 ∷ 0x000fffffffffffff ∷ 0x3fdfffffffffffff ∷ 0x3fe0000000000001 ∷ 0x3fefffffffffffff ∷ 0x3ff0000000000001
    ∷ 0x3ff7ffffffffffff ∷ 0x3ff8000000000001 ∷ 0x3fffffffffffffff ∷ []

-- 2, the double above it and the greatest; the negative number next to 0, the greatest negative subnormal, -0.5, -1 and the least number
abbrev pub outside : List ℕ
outside =
    0x4000000000000000 ∷ 0x4000000000000001 ∷ 0x7fefffffffffffff ∷ 0x8000000000000001 ∷ 0x800fffffffffffff ∷ 0xbfe0000000000000
    ∷ 0xbff0000000000000 ∷ 0xffefffffffffffff ∷ []

-- both infinities; signalling and quiet, with and without sign and payload, what is not a number
abbrev pub no_numbers : List ℕ
no_numbers =
    0x7ff0000000000000 ∷ 0xfff0000000000000 ∷ 0x7ff0000000000001 ∷ 0xfff0000000000001 ∷ 0x7ff8000000000000 ∷ 0xfff8000000000000
    ∷ 0x7fffffffffffffff ∷ 0xffffffffffffffff ∷ []

pub patterns_computed : map computed (0 ∷ wholes ++ halves ++ between ++ outside ++ no_numbers)
    ≡ whole true 0 ∷ map (whole false) wholes ++ map half halves ++ map (other true) between ++ map (other false) (outside ++ no_numbers)
unfolding read_bits nan_bits of_bits eq lt inferred_byte inferred_in entry_allowed in_range
patterns_computed = refl
