-- The record of angles: 8 bytes for each node, lowest first.
use Rattle.std.specs.Prelude.{ℕ, ◌+◌, ◌*◌, Bool, cond, ◌&&◌, List, [], ◌∷◌, ◌++◌, eqb, leb, length, get_or, take, drop, Some, None}
use Rattle.nodes.specs.Row.{all_below}
use Rattle.nodes.specs.Lists.{list_of}
use Rattle.angles.specs.Angle.{Angle, read_bits, entry_allowed, inferred_byte}

-- the bytes of an angle
abbrev pub angle_bytes : ℕ
angle_bytes = 8

-- the number whose bytes, lowest first, are the list
unfoldable pub little : List ℕ → ℕ
little [] = 0
little (b ∷ bs) = b + little bs * 256

-- the bits of node u's angle
abbrev pub bits_at : List ℕ → ℕ → ℕ
bits_at angles u = little (take angle_bytes (drop (angle_bytes * u) angles))

-- question 23 of the whole record: is the entry of each node allowed?
unfoldable pub angles_allowed : (n : ℕ) (output : ℕ → Bool) → List ℕ → Bool
angles_allowed n output angles = all_below n (λ u. entry_allowed (output u) (bits_at angles u))

-- ---- the measurements to work with
-- the measurement byte of a node with this angle; what is not a number infers nothing
abbrev pub inferred_from : ℕ → Angle → ℕ
inferred_from p (Some x) = inferred_byte p x
inferred_from p None = p

-- those of all nodes, from the measurement bytes of their planes
unfoldable pub inferred_bytes : (planes angles : List ℕ) → List ℕ
inferred_bytes planes angles = list_of (length planes) (λ u. inferred_from (get_or planes u 0) (read_bits (bits_at angles u)))

-- ---- in a lent buffer
-- a record that is 8 bytes for each of these nodes
abbrev pub suits : (planes angles : List ℕ) → Bool
suits planes angles = eqb (length angles) (angle_bytes * length planes)

-- the buffer with them at its front, where the record suits and they fit; else as it was
unfoldable pub inferred_into : (planes angles out : List ℕ) → List ℕ
inferred_into planes angles out =
    cond (suits planes angles && leb (length planes) (length out)) (inferred_bytes planes angles ++ drop (length planes) out) out
