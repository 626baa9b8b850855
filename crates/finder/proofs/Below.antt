-- A search gives a node no member that is no node of the job. Serves calls.
use Prim.Native.Nat.{ℕ, zero, suc, ◌+◌, ◌<◌}
use mathlib.Core.Path.{◌≡◌, refl, sym, ap, subst}
use mathlib.Core.Bool.{Bool, true, false, cond, ◌&&◌}
use mathlib.Core.Logic.{◌⊎◌, inl, inr}
use mathlib.Core.Option.{Option, none, some}
use lib.Dec.{T, eqb, eqb→eq}
use Rattle.nodes.proofs.Logic.{and_r, or_out}
use Rattle.flows.specs.Job.{Job}
use Rattle.flows.specs.Branch.{Context, in_set, branches, try_node}
use Rattle.flows.specs.Search.{Progress, start, solved_now, or_none, round, solves_some, rounds, begun, no_node}
use Rattle.flows.specs.Tries.{context_at, try_at}
use Rattle.finder.specs.Searches.{progress_at}
use Rattle.flows.proofs.Search.{rounds_step}
use Rattle.flows.proofs.Tries.{first_of_solvable, branch_answer}
use Rattle.finder.proofs.Rounds.{progress_ended}

abbrev pub IsBelow : ℕ → (ℕ → Bool) → Type 0
IsBelow n s = (k : ℕ) → T (s k) → k < n

-- what a try gives
pub node_below : (j : Job) (c : Context) (u : ℕ) → u < j.nodes → (set : ℕ → Bool) → try_node j c u ≡ some set → IsBelow j.nodes set
node_below j c u l set e k t =
    let f = first_of_solvable j c u (branches (j.measured u)) set e in
    let (x, a, p) = branch_answer j c u f.branch set f.gave in
    member f.branch x (λ i s. (a.within i s).0) (or_out (x k) (in_set f.branch && eqb k u) (rw (ap (λ (g : ℕ → Bool). g k) p) at t))
  where
    member : (b : ℕ) (x : ℕ → Bool) → IsBelow j.nodes x → T (x k) ⊎ T (in_set b && eqb k u) → k < j.nodes
    member b x h (inl s) = h k s
    member b x h (inr s) = subst (λ (v : ℕ). v < j.nodes) (sym (eqb→eq k u (and_r (in_set b) (eqb k u) s))) l

-- ---- rounds
module _ (n : ℕ) (try : (ℕ → Bool) → ℕ → Option (ℕ → Bool)) (below : (later : ℕ → Bool) (u : ℕ) → u < n → (set : ℕ → Bool) → try later u ≡ some set → IsBelow n set) where
  abbrev pub HasSetsBelow : Progress → Type 0
  HasSetsBelow s = (u : ℕ) → u < n → IsBelow n (s.set u)

  pub start_below : (output : ℕ → Bool) → HasSetsBelow (start output)
  start_below output u l k t = absurd t

  pub round_below : (later : ℕ → Bool) (r : ℕ) (s : Progress) → HasSetsBelow s → HasSetsBelow (round (try later) r s)
  round_below later r s h u l = go (solved_now (try later) s u) (try later u) (below later u l)
    where
      go : (b : Bool) (o : Option (ℕ → Bool)) → ((set : ℕ → Bool) → o ≡ some set → IsBelow n set) → IsBelow n (cond b (or_none o) (s.set u))
      go true none f = λ k t. absurd t
      go true (some x) f = f x refl
      go false o f = h u l

  pub rounds_below : (k r : ℕ) (s : Progress) → HasSetsBelow s → HasSetsBelow (rounds try n k r s)
  unfolding rounds
  rounds_below zero r s h = h
  rounds_below (suc k) r s h = go (rounds_step try n k r s) (rounds_below k (r + 1) (round (try s.solved) r s) (round_below s.solved r s h))
    where
      go : ((solves_some try n s ≡ false) × (rounds try n (suc k) r s ≡ s)) ⊎ (T (solves_some try n s) × (rounds try n (suc k) r s ≡ rounds try n k (r + 1) (round (try s.solved) r s)))
          → HasSetsBelow (rounds try n k (r + 1) (round (try s.solved) r s)) → HasSetsBelow (rounds try n (suc k) r s)
      go (inl (e, p)) ih = rw p h
      go (inr (t, p)) ih = rw p ih

-- ---- both searches
try_below : (pauli : Bool) (j : Job) (later : ℕ → Bool) (u : ℕ) → u < j.nodes → (set : ℕ → Bool) → try_at j pauli later u ≡ some set → IsBelow j.nodes set
try_below pauli j later u = node_below j (context_at j pauli later u) u

pub progress_below : (pauli : Bool) (j : Job) (u : ℕ) → u < j.nodes → IsBelow j.nodes ((progress_at pauli j).set u)
progress_below pauli j = rw (progress_ended pauli j) (rounds_below j.nodes (try_at j pauli) (try_below pauli j) j.nodes 1 (begun pauli (try_at j pauli) j.output) (first pauli))
  where
    first : (b : Bool) → HasSetsBelow j.nodes (try_at j pauli) (try_below pauli j) (begun b (try_at j pauli) j.output)
    first true = round_below j.nodes (try_at j pauli) (try_below pauli j) no_node 0 (start j.output) (start_below j.nodes (try_at j pauli) (try_below pauli j) j.output)
    first false = start_below j.nodes (try_at j pauli) (try_below pauli j) j.output
