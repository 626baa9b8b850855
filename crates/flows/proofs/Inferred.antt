-- A set that is right for the planes, in mode 2, is right for measurements inferred from them, in mode 3: a node's plane itself, or a
-- Pauli that lies in it.
use Prim.Native.Nat.{ℕ, ◌<◌}
use mathlib.Core.Path.{◌≡◌, refl}
use mathlib.Core.Bool.{Bool, true, false, cond, not, ◌&&◌, ◌||◌}
use mathlib.Core.Logic.{◌⊎◌, inl, inr, ◌≢◌}
use native.Mathlib.Omega.{arith}
use lib.Dec.{T, eqb, eqb→eq}
use Rattle.nodes.specs.Bit.{◌⊕◌}
use Rattle.nodes.proofs.Logic.{and_r, or_out}
use Rattle.flows.specs.Job.{Job, odd, own, plane_xy, plane_yz, plane_xz, pauli_x, pauli_y, pauli_z, is_x_or_y, is_y_or_z}
use Rattle.flows.specs.Conditions.{need, own_holds}
use Rattle.flows.proofs.Conditions.{own_in, own_inputs, own-measured}

-- a Pauli lies in a plane: XY holds X and Y, YZ holds Y and Z, XZ holds X and Z
abbrev pub lies : ℕ → ℕ → Bool
lies p m =
    cond (eqb p plane_xy) (is_x_or_y m)
    (cond (eqb p plane_yz) (is_y_or_z m)
    (cond (eqb p plane_xz) (eqb m pauli_x || eqb m pauli_z) false))

-- m may be inferred from p: it is p, or lies in it
unfoldable pub infers : ℕ → ℕ → Bool
infers p m = eqb m p || lies p m

-- the job with other measurements, all else as it is
abbrev pub measured_as : Job → (ℕ → ℕ) → Job
measured_as j m = record { nodes = j.nodes; edge = j.edge; input = j.input; output = j.output; measured = m }

-- ---- by cases
-- P holds of each plane with each of its two Paulis
abbrev OnPlanes : (ℕ → ℕ → Type 0) → Type 0
OnPlanes P = (P plane_xy pauli_x × P plane_xy pauli_y) × (P plane_yz pauli_y × P plane_yz pauli_z) × (P plane_xz pauli_x × P plane_xz pauli_z)

-- then, if it holds of each measurement with itself too, it holds of whatever may be inferred
infers_by : (P : ℕ → ℕ → Type 0) → ((p : ℕ) → P p p) → OnPlanes P → (p m : ℕ) → T (infers p m) → P p m
unfolding infers
infers_by P same (xy, yz, xz) p m h = go (or_out (eqb m p) (lies p m) h)
  where
    within : (a x y : ℕ) → P a x × P a y → T (eqb p a) → T (eqb m x || eqb m y) → P p m
    within a x y (f, g) e t = rw (eqb→eq p a e) (by (or_out (eqb m x) (eqb m y) t))
      where
        by : T (eqb m x) ⊎ T (eqb m y) → P a m
        by (inl q) = rw (eqb→eq m x q) f
        by (inr q) = rw (eqb→eq m y q) g

    branch : (c a b : Bool) → (T c → T a → P p m) → (T b → P p m) → T (cond c a b) → P p m
    branch true a b f g t = f tt t
    branch false a b f g t = g t

    go : T (eqb m p) ⊎ T (lies p m) → P p m
    go (inl e) = rw (eqb→eq m p e) (same p)
    go (inr t) =
        branch (eqb p plane_xy) (is_x_or_y m) _ (within plane_xy pauli_x pauli_y xy)
        (branch (eqb p plane_yz) (is_y_or_z m) _ (within plane_yz pauli_y pauli_z yz)
        (branch (eqb p plane_xz) (eqb m pauli_x || eqb m pauli_z) false (within plane_xz pauli_x pauli_z xz) (λ x. absurd x))) t

-- ---- what is kept
-- a node's own measurement: what is right for p is right for what is inferred from it
pub own-infers : (p m : ℕ) (s o : Bool) → T (infers p m) → T (own p s o) → T (own m s o)
unfolding own
own-infers p m s o = infers_by (λ p m. T (own p s o) → T (own m s o)) (λ p t. t) (planes s o) p m
  where
    planes : (s o : Bool) → OnPlanes (λ p m. T (own p s o) → T (own m s o))
    planes true true = search
    planes true false = search
    planes false true = search
    planes false false = search

-- the numbers: the three laws below at once
infers_range : (p m : ℕ) → T (infers p m) → (p < 7 → m < 7) × (p ≢ 0 → m ≢ 0) × (p ≡ 0 → m ≡ 0)
infers_range = infers_by (λ p m. (p < 7 → m < 7) × (p ≢ 0 → m ≢ 0) × (p ≡ 0 → m ≡ 0)) (λ p. omega arith) (omega arith)

-- what is inferred from a number of the table is one of the table
pub infers_most : (p m : ℕ) → T (infers p m) → p < 7 → m < 7
infers_most p m h = (infers_range p m h).0

-- from a measurement a measurement is inferred
pub infers_some : (p m : ℕ) → T (infers p m) → p ≢ 0 → m ≢ 0
infers_some p m h = (infers_range p m h).1

-- and from the 0 of an output nothing but 0
pub infers_none : (m : ℕ) → T (infers 0 m) → m ≡ 0
infers_none m h = (infers_range 0 m h).2 refl

-- ---- a node's conditions
module _ (j : Job) (m : ℕ → ℕ) (set : ℕ → Bool) (i : ℕ) where
  -- a set that holds by itself for the planes holds for the inferred measurements
  pub own_holds-infers : T (infers (j.measured i) (m i)) → T (own_holds j set i) → T (own_holds (measured_as j m) set i)
  own_holds-infers h t =
      own_in (measured_as j m) set i (own_inputs j set i t)
      (own-infers (j.measured i) (m i) (set i) (odd j set i) h (own-measured j set i t))

  -- whatever the measurements, mode 3 needs no node that mode 2 does not need: a Y node that it asks for is in the set or in Odd
  pub need_infers : (k : ℕ) → T (need (measured_as j m) true set i k) → T (need j false set i k)
  unfolding need
  need_infers k = fewer (not (eqb k i)) (set k) (odd j set k) (not (is_x_or_y (m k))) (not (is_y_or_z (m k))) (eqb (m k) pauli_y)
    where
      fewer : (other s o a b y : Bool) → T (other && (s && a || o && b || y && (s ⊕ o))) → T (other && (s && true || o && true || false))
      fewer true true o a b y t = tt
      fewer true false true a b y t = tt
      fewer true false false a b y t = absurd (and_r y false t)
      fewer false s o a b y t = absurd t
