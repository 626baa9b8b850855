-- A job: a graph, its inputs and outputs, and how each other node is measured. A set of nodes is a function on numbers.
use Rattle.std.specs.Prelude.{ℕ, Bool, false, cond, not, ◌&&◌, ◌||◌, eqb}
use Rattle.nodes.specs.Bit.{◌⊕◌}
use Rattle.nodes.specs.Row.{parity}

-- the measurements by their numbers; an output has 0
abbrev pub plane_xy : ℕ
plane_xy = 1

abbrev pub plane_yz : ℕ
plane_yz = 2

abbrev pub plane_xz : ℕ
plane_xz = 3

abbrev pub pauli_x : ℕ
pauli_x = 4

abbrev pub pauli_y : ℕ
pauli_y = 5

abbrev pub pauli_z : ℕ
pauli_z = 6

abbrev pub is_x_or_y : ℕ → Bool
is_x_or_y m = eqb m pauli_x || eqb m pauli_y

abbrev pub is_y_or_z : ℕ → Bool
is_y_or_z m = eqb m pauli_y || eqb m pauli_z

-- a node's own measurement, from whether it is in its set and in Odd
unfoldable pub own : ℕ → Bool → Bool → Bool
own m s o =
    cond (eqb m plane_xy) (not s && o)
    (cond (eqb m plane_yz) (s && not o)
    (cond (eqb m plane_xz) (s && o)
    (cond (eqb m pauli_x) o
    (cond (eqb m pauli_y) (s ⊕ o)
    (cond (eqb m pauli_z) s false)))))

pub record Job : Type 0 where
  pub nodes : ℕ
  pub edge : ℕ → ℕ → Bool
  pub input : ℕ → Bool
  pub output : ℕ → Bool
  pub measured : ℕ → ℕ

-- Odd(S): the nodes with an odd number of neighbours in S
abbrev pub odd : Job → (ℕ → Bool) → ℕ → Bool
odd j s v = parity j.nodes (λ k. j.edge k v && s k)
