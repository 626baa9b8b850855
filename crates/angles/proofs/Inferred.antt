-- What the angles infer lies in the plane or is the plane, for any bytes: the theorems on inferred measurements hold of it.
use Prim.Native.Nat.{ℕ, ◌<◌}
use mathlib.Core.Path.{◌≡◌}
use mathlib.Core.Bool.{Bool, true, false, cond}
use mathlib.Core.List.{List}
use mathlib.Core.Logic.{◌⊎◌, inl, inr}
use lib.Dec.{T, eqb, eqb→eq}
use lib.Ieee.{Float}
use lib.ListN.{length, get_or}
use Rattle.std.specs.Prelude.{Some, None}
use Rattle.nodes.proofs.Logic.{is_false, dec, eqb_yes}
use Rattle.nodes.proofs.Lists.{length-list_of, get_or-list_of}
use Rattle.flows.specs.Job.{plane_xy, plane_yz, plane_xz, pauli_x, pauli_y, pauli_z}
use Rattle.flows.proofs.Inferred.{infers}
use Rattle.angles.specs.Angle.{Angle, is_whole, is_half, inferred_in, inferred_byte, read_bits}
use Rattle.angles.specs.AngleRecord.{bits_at, inferred_from, inferred_bytes}

-- one of the three
in_plane : (p whole half : ℕ) → T (infers p p) → T (infers p whole) → T (infers p half) → (x : Float) → T (infers p (inferred_in x p whole half))
unfolding inferred_in
in_plane p whole half a b c x = go (is_whole x) (is_half x)
  where
    go : (w h : Bool) → T (infers p (cond w whole (cond h half p)))
    go true h = b
    go false true = c
    go false false = a

same_infers : (p : ℕ) → T (infers p p)
unfolding infers
same_infers p = rw (eqb_yes p) tt

-- what is no plane stays
other_infers : (p : ℕ) (x : Float) → eqb p plane_xy ≡ false → eqb p plane_yz ≡ false → eqb p plane_xz ≡ false → T (infers p (inferred_byte p x))
unfolding inferred_byte
other_infers p x a b c = rw (a, b, c) (same_infers p)

byte-infers : (p : ℕ) (x : Float) → T (infers p (inferred_byte p x))
unfolding inferred_byte infers
byte-infers p x = go (dec (eqb p plane_xy)) (dec (eqb p plane_yz)) (dec (eqb p plane_xz))
  where
    OrNot : ℕ → Type 0
    OrNot q = T (eqb p q) ⊎ (T (eqb p q) → ⊥)

    go : OrNot plane_xy → OrNot plane_yz → OrNot plane_xz → T (infers p (inferred_byte p x))
    go (inl t) b c = rw (eqb→eq p plane_xy t) (in_plane plane_xy pauli_x pauli_y tt tt tt x)
    go (inr a) (inl t) c = rw (eqb→eq p plane_yz t) (in_plane plane_yz pauli_z pauli_y tt tt tt x)
    go (inr a) (inr b) (inl t) = rw (eqb→eq p plane_xz t) (in_plane plane_xz pauli_z pauli_x tt tt tt x)
    go (inr a) (inr b) (inr c) = other_infers p x (is_false (eqb p plane_xy) a) (is_false (eqb p plane_yz) b) (is_false (eqb p plane_xz) c)

angle_infers : (p : ℕ) (a : Angle) → T (infers p (inferred_from p a))
angle_infers p (Some x) = byte-infers p x
angle_infers p None = same_infers p

pub inferred_length : (planes angles : List ℕ) → length (inferred_bytes planes angles) ≡ length planes
unfolding inferred_bytes
inferred_length planes angles = length-list_of (length planes) _

-- node by node
pub bytes_infer : (planes angles : List ℕ) (u : ℕ) → u < length planes → T (infers (get_or planes u 0) (get_or (inferred_bytes planes angles) u 0))
unfolding inferred_bytes
bytes_infer planes angles u l =
    rw (get_or-list_of (length planes) (λ k. inferred_from (get_or planes k 0) (read_bits (bits_at angles k))) u l)
    (angle_infers (get_or planes u 0) (read_bits (bits_at angles u)))
