-- The code's measurements, branches and modes by their numbers, and what a byte is read as.
use Rattle.std.specs.Prelude.{ℕ, cond, ◌&&◌, leb}
use Rattle.answers.specs.Answer.{Answer, gives, refuses, refusal}
use Rattle.flows.specs.Job.{plane_xy, plane_yz, plane_xz, pauli_x, pauli_y, pauli_z}
use Rattle.flows.specs.declared.measurement.Measurement as Measured
use Rattle.flows.specs.declared.measurement.Measurement.TheVariants as measured
use Rattle.flows.specs.declared.measurement.Branch as Tried
use Rattle.flows.specs.declared.measurement.Branch.TheVariants as tried
use Rattle.flows.specs.declared.mode.Mode.{Mode}
use Rattle.flows.specs.declared.mode.Mode.TheVariants.{Causal, Planes, Pauli}

abbrev pub measurement_number : Measured.Measurement → ℕ
measurement_number measured.XY = plane_xy
measurement_number measured.YZ = plane_yz
measurement_number measured.XZ = plane_xz
measurement_number measured.X = pauli_x
measurement_number measured.Y = pauli_y
measurement_number measured.Z = pauli_z

-- a branch has its plane's number
abbrev pub branch_number : Tried.Branch → ℕ
branch_number tried.XY = plane_xy
branch_number tried.YZ = plane_yz
branch_number tried.XZ = plane_xz

-- as an opening has them
abbrev pub mode_number : Mode → ℕ
mode_number Causal = 1
mode_number Planes = 2
mode_number Pauli = 3

-- a byte as a measurement, or question 7
abbrev pub measurement_of : ℕ → Answer ℕ
measurement_of byte = cond (leb plane_xy byte && leb byte pauli_z) (gives byte) (refuses (refusal 7))

-- a byte as a mode, or question 4
abbrev pub mode_of : ℕ → Answer ℕ
mode_of byte = cond (leb 1 byte && leb byte 3) (gives byte) (refuses (refusal 4))
