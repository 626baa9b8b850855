-- A round: how far a search has come in its set and the lent buffers, and how its nodes are visited.
use Rattle.std.specs.Prelude.{ℕ, ◌≤◌, ◌<◌, ◌≡◌, Bool, cond, not, ◌&&◌, ◌||◌, List, T, eqb, leb, ltb, length, get_or}
use Rattle.std.proofs.Math.Option.{Option}
use Rattle.nodes.specs.NodeSet.{member, capacity, highest}
use Rattle.nodes.specs.SetTable.{table_words, set_at}
use Rattle.nodes.specs.Options.{is_some}
use Rattle.solver.specs.Solver.{work_bytes}
use Rattle.flows.specs.Job.{plane_xy}
use Rattle.flows.specs.Round.{has_row}
use Rattle.flows.specs.Search.{Progress, or_none}
use Rattle.finder.specs.WorkMatrix.{context_of, IsWithin, HasRowsApart}
use Rattle.finder.specs.declared.matrix.Context as Code

-- the sizes that a search works with
pub record IsSized (n : ℕ) (measured work layers sets : List ℕ) : Type 0 where
  pub nodes : n ≤ capacity
  pub given : n ≤ length measured
  pub rows : length work ≡ work_bytes
  pub places : length layers ≡ capacity
  pub words : length sets ≡ table_words

-- the nodes below n that are not solved
abbrev pub unsolved : ℕ → (ℕ → Bool) → ℕ → Bool
unsolved n solved u = (ltb u n && leb u highest) && not (solved u)

-- nodes that are measured in XY
abbrev pub IsPlain : (measured : List ℕ) → List ℕ → Type 0
IsPlain measured plain = (u : ℕ) → T (member plain u) → get_or measured u 0 ≡ plane_xy

-- what a round asks of its context: an unsolved node that is a column has a row, and one of `plain` an upper row
pub record IsRoundContext (n : ℕ) (measured : List ℕ) (solved : List ℕ) (s : Code.Context) (plain : List ℕ) : Type 0 where
  pub within : IsWithin n s
  pub apart : HasRowsApart s
  pub covered : (u : ℕ) → u < n → (T (member solved u) → ⊥) → T (member s.columns u) → T (has_row (context_of s) u)
  pub plain_rows : (u : ℕ) → u < n → (T (member solved u) → ⊥) → T (member plain u) → T (member s.upper u)
  pub plain_measured : IsPlain measured plain

-- how far a search has come: the solved nodes as a set, layers and sets in the lent buffers
abbrev pub progress_in : List ℕ → (layers sets : List ℕ) → Progress
progress_in solved layers sets = record { solved = member solved; layer = λ u. get_or layers u 0; set = set_at sets }

-- the nodes below n alone
abbrev pub cut_to : ℕ → Progress → Progress
cut_to n p = record {
  solved = λ u. ltb u n && p.solved u;
  layer = λ u. cond (ltb u n) (p.layer u) 0;
  set = λ u v. ltb u n && p.set u v;
}

-- u, where its try gave a set, takes the round r as layer
abbrev pub placed : (u r : ℕ) → Option (ℕ → Bool) → Progress → Progress
placed u r t p = record {
  solved = λ v. p.solved v || (eqb v u && is_some t);
  layer = λ v. cond (eqb v u && is_some t) r (p.layer v);
  set = λ v. cond (eqb v u && is_some t) (or_none t) (p.set v);
}

-- round r, where just the nodes of `visit` are visited
abbrev pub visited : (visit : ℕ → Bool) (try : ℕ → Option (ℕ → Bool)) → ℕ → Progress → Progress
visited visit try r p = record {
  solved = λ u. p.solved u || (visit u && is_some (try u));
  layer = λ u. cond (visit u && is_some (try u)) r (p.layer u);
  set = λ u. cond (visit u && is_some (try u)) (or_none (try u)) (p.set u);
}
