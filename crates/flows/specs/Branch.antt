-- One try of a node: the table of branches, the equations of a branch, and the first branch that has a solution.
use Rattle.std.specs.Prelude.{ℕ, zero, suc, ◌+◌, ◌-◌, Bool, cond, ◌&&◌, ◌||◌, List, [], ◌∷◌, eqb, ltb, get_or}
use Rattle.std.proofs.Math.Option.{Option, none, some}
use Rattle.nodes.specs.Bit.{◌⊕◌}
use Rattle.nodes.specs.Options.{option_or}
use Rattle.solver.specs.System.{System, solve}
use Rattle.flows.specs.Job.{Job, plane_xy, plane_yz, plane_xz}

-- The branches that each measurement tries, in the order XY, YZ, XZ: a row for each of XY, YZ, XZ, X, Y, Z.
abbrev pub branch_table : List (List ℕ)
branch_table =
    (plane_xy ∷ [])
    ∷ (plane_yz ∷ [])
    ∷ (plane_xz ∷ [])
    ∷ (plane_xy ∷ plane_xz ∷ [])
    ∷ (plane_xy ∷ plane_yz ∷ [])
    ∷ (plane_yz ∷ plane_xz ∷ [])
    ∷ []

unfoldable pub branches : ℕ → List ℕ
branches zero = []
branches (suc m) = get_or branch_table m []

-- in branches YZ and XZ the node is a member of its own set
abbrev pub in_set : ℕ → Bool
in_set b = eqb b plane_yz || eqb b plane_xz

-- in branches XY and XZ the node is in Odd of its set
abbrev pub in_odd : ℕ → Bool
in_odd b = eqb b plane_xy || eqb b plane_xz

-- what a try meets: the columns, and the nodes of the upper and of the lower rows
pub record Context : Type 0 where
  pub column : ℕ → Bool
  pub upper : ℕ → Bool
  pub lower : ℕ → Bool

-- What node k adds to row i. Rows 0 to n-1 are the upper ones: row v holds whether v is in Odd. Rows n to 2n-1 are the
-- lower ones: row n + v holds whether v and its neighbours have an odd number of members. No node is its own neighbour.
abbrev pub entry_at : Job → ℕ → ℕ → Bool
entry_at j i k = cond (ltb i j.nodes) (j.edge k i) (j.edge k (i - j.nodes) ⊕ eqb k (i - j.nodes))

abbrev pub system_at : Job → Context → System
system_at j c = record {
  rows = j.nodes + j.nodes;
  row = λ i. cond (ltb i j.nodes) (c.upper i) (c.lower (i - j.nodes));
  column = c.column;
  entry = entry_at j;
}

-- What the columns must add up to for u in branch b: Odd meets the upper rows in u alone or nowhere; where u is a member,
-- it has its part already.
abbrev pub side_at : Job → ℕ → ℕ → ℕ → Bool
side_at j u b i = (eqb i u && in_odd b) ⊕ (in_set b && entry_at j i u)

abbrev pub with_node : Bool → ℕ → Option (ℕ → Bool) → Option (ℕ → Bool)
with_node c u none = none
with_node c u (some x) = some (λ k. x k || c && eqb k u)

-- the set of u in branch b: the solver's answer, with u itself for YZ and XZ
abbrev pub try_branch : Job → Context → ℕ → ℕ → Option (ℕ → Bool)
try_branch j c u b = with_node (in_set b) u (solve (system_at j c) j.nodes (side_at j u b))

unfoldable pub first_solvable : Job → Context → ℕ → List ℕ → Option (ℕ → Bool)
first_solvable j c u [] = none
first_solvable j c u (b ∷ bs) = let rest = first_solvable j c u bs in option_or (try_branch j c u b) rest

-- the set of u by the branches of its measurement, in their order
abbrev pub try_node : Job → Context → ℕ → Option (ℕ → Bool)
try_node j c u = first_solvable j c u (branches (j.measured u))
