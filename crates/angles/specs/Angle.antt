-- Angles, in units of pi: which are allowed, and the Paulis hidden in them.
use Rattle.std.specs.Prelude.{ℕ, Bool, false, cond, not, ◌&&◌, ◌||◌, eqb, pos, negsuc, Float, Option, Some, None}
use Rattle.std.specs.Float.{fin, binary64}
use Rattle.std.specs.Float.Ieee.{eq, lt, of_bits, nan_bits}
use Rattle.flows.specs.Job.{plane_xy, plane_yz, plane_xz, pauli_x, pauli_y, pauli_z}
use Rattle.angles.specs.declared.PlaneAngle.{PlaneAngle}
use Rattle.angles.specs.declared.PlaneAngle.TheVariants.{XY, YZ, XZ}

-- ---- the numbers that angles are compared with, each by sign, digits and power of two. Negative zero equals 0.
abbrev pub zero_pi : Float
zero_pi = fin false 0 (pos 0)

abbrev pub half_pi : Float
half_pi = fin false 1 (negsuc 0)

abbrev pub one_pi : Float
one_pi = fin false 1 (pos 0)

abbrev pub three_halves_pi : Float
three_halves_pi = fin false 3 (negsuc 0)

abbrev pub two_pi : Float
two_pi = fin false 1 (pos 1)

-- ---- the inferred measurement
-- exactly 0 or 1
abbrev pub is_whole : Float → Bool
is_whole x = eq x zero_pi || eq x one_pi

-- exactly 0.5 or 1.5
abbrev pub is_half : Float → Bool
is_half x = eq x half_pi || eq x three_halves_pi

-- other angles keep their plane
unfoldable pub inferred_in : Float → (plane whole half : ℕ) → ℕ
inferred_in x plane whole half = cond (is_whole x) whole (cond (is_half x) half plane)

-- exactly 0 or 1 means X in XY and Z in YZ and XZ; exactly 0.5 or 1.5 means Y in XY and YZ and X in XZ
abbrev pub inferred : PlaneAngle → ℕ
inferred (XY x) = inferred_in x plane_xy pauli_x pauli_y
inferred (YZ x) = inferred_in x plane_yz pauli_z pauli_y
inferred (XZ x) = inferred_in x plane_xz pauli_z pauli_x

-- the same from a measurement byte; what is no plane stays
unfoldable pub inferred_byte : ℕ → Float → ℕ
inferred_byte p x = cond (eqb p plane_xy) (inferred (XY x)) (cond (eqb p plane_yz) (inferred (YZ x)) (cond (eqb p plane_xz) (inferred (XZ x)) p))

-- ---- the bits of an angle, an IEEE double
-- what 64 bits are as an angle: some number, or none
abbrev pub Angle : Type 0
Angle = Option Float

unfoldable pub read_bits : ℕ → Angle
read_bits bits = cond (nan_bits binary64 bits) None (Some (of_bits binary64 bits))

-- neither below 0 nor not below 2
unfoldable pub in_range : Float → Bool
in_range x = not (lt x zero_pi) && lt x two_pi

abbrev pub angle_allowed : Angle → Bool
angle_allowed (Some x) = in_range x
angle_allowed None = false

-- question 23 of one entry: at an output positive zero, whose bits are all 0, and else an angle from 0 to below 2
unfoldable pub entry_allowed : (output : Bool) (bits : ℕ) → Bool
entry_allowed output bits = cond output (eqb bits 0) (angle_allowed (read_bits bits))
