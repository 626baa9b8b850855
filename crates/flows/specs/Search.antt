-- The search by rounds, over any way to try a node. All nodes of a round meet the sets as they stood when it began.
use Rattle.std.specs.Prelude.{ℕ, zero, suc, ◌+◌, Bool, true, false, cond, not, ◌&&◌, ◌||◌, ltb}
use Rattle.std.proofs.Math.Option.{Option, none, some}
use Rattle.nodes.specs.Row.{any_below, all_below}
use Rattle.nodes.specs.Options.{is_some}

-- how far a search has come: the solved nodes, outputs among them, with their layers and sets
pub record Progress : Type 0 where
  pub solved : ℕ → Bool
  pub layer : ℕ → ℕ
  pub set : ℕ → ℕ → Bool

abbrev pub no_node : ℕ → Bool
no_node k = false

abbrev pub or_none : Option (ℕ → Bool) → ℕ → Bool
or_none none = no_node
or_none (some x) = x

-- outputs have layer 0
abbrev pub start : (ℕ → Bool) → Progress
start output = record { solved = output; layer = λ u. 0; set = λ u. no_node }

-- u is solved in the round that begins with s
abbrev pub solved_now : (ℕ → Option (ℕ → Bool)) → Progress → ℕ → Bool
solved_now try s u = not (s.solved u) && is_some (try u)

-- round r: solved nodes take the round as layer
abbrev pub round : (ℕ → Option (ℕ → Bool)) → ℕ → Progress → Progress
round try r s = record {
  solved = λ u. s.solved u || solved_now try s u;
  layer = λ u. cond (solved_now try s u) r (s.layer u);
  set = λ u. cond (solved_now try s u) (or_none (try u)) (s.set u);
}

-- the round that begins with s solves some node
abbrev pub solves_some : ((ℕ → Bool) → ℕ → Option (ℕ → Bool)) → ℕ → Progress → Bool
solves_some try n s = any_below n (solved_now (try s.solved) s)

-- Rounds from r on. A round that solves nothing ends the search; where nothing is unsolved, none solves anything (`solved_idle`). That
-- the bound on their number never ends it is a law (`rounds_end`). `try later u` tries u when the nodes `later` were solved before.
unfoldable pub rounds : ((ℕ → Bool) → ℕ → Option (ℕ → Bool)) → ℕ → ℕ → ℕ → Progress → Progress
rounds try n zero r s = s
rounds try n (suc bound) r s =
    let on = rounds try n bound (r + 1) (round (try s.solved) r s) in
    cond (solves_some try n s) on s

-- v is later than u: its layer is smaller
abbrev pub later_than : (layer : ℕ → ℕ) → ℕ → ℕ → Bool
later_than layer u v = ltb (layer v) (layer u)

-- ---- the search over any way to try a node, from round 0 or from round 1 on
abbrev pub first_round : (from_zero : Bool) → ℕ
first_round true = 0
first_round false = 1

-- the progress before round 1; in round 0 no node is later, outputs neither, and it never ends the search
abbrev pub begun : (from_zero : Bool) → ((ℕ → Bool) → ℕ → Option (ℕ → Bool)) → (output : ℕ → Bool) → Progress
begun from_zero try output = cond from_zero (round (try no_node) 0 (start output)) (start output)

abbrev pub search_from : (from_zero : Bool) → ((ℕ → Bool) → ℕ → Option (ℕ → Bool)) → ℕ → (output : ℕ → Bool) → Progress
search_from from_zero try n output = rounds try n n 1 (begun from_zero try output)

-- a node still unsolved at the end means no flow
abbrev pub if_solved : ℕ → Progress → Option Progress
if_solved n s = cond (all_below n s.solved) (some s) none
