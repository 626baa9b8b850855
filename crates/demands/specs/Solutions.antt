-- Demand 2 of the finder: each set it writes is the one solution that avoids every column equal to a sum of earlier ones.
use Rattle.std.specs.Prelude.{ℕ, ◌≡◌, Bool, not, ◌&&◌, List, ◌∷◌, ◌++◌, T, eqb, take}
use Rattle.solver.specs.System.{System, Solves, IsBasicSolution}
use Rattle.flows.specs.Branch.{Context, branches, system_at, side_at, in_set}
use Rattle.flows.specs.Search.{later_than}
use Rattle.flows.specs.Tries.{context_at}
use Rattle.answers.specs.Answer.{gives}
use Rattle.nodes.specs.Lists.{has}
use Rattle.records.specs.JobFile.{JobFile, read_job, job_of, mode_pauli}
use Rattle.records.specs.FlowFile.{FlowFile, flow_of}
use Rattle.demands.specs.Calls.{mode_of, find_call}
use Rattle.demands.specs.Demand.{IsFlowBytes, layer_in}

-- what u met in its round, its layer: the nodes of smaller layers were solved
abbrev pub context_in : JobFile → FlowFile → ℕ → Context
context_in f g u = context_at (job_of f) (eqb (mode_of f) mode_pauli) (later_than (layer_in g) u) u

abbrev pub system_in : JobFile → FlowFile → ℕ → System
system_in f g u = system_at (job_of f) (context_in f g u)

-- u's set without u
abbrev pub others : FlowFile → ℕ → ℕ → Bool
others g u k = (flow_of g).set u k && not (eqb k u)

-- The branch is the first solvable one of u's row in the table; the set without u solves its equations, avoids every column
-- that is a sum of earlier columns in ascending node order, and any set that does both is that set.
pub record IsTheSolution (f : JobFile) (g : FlowFile) (u : ℕ) : Type 0 where
  pub earlier : List ℕ
  pub branch : ℕ
  pub later : List ℕ
  pub row : branches ((job_of f).measured u) ≡ earlier ++ (branch ∷ later)
  pub unsolvable : (b : ℕ) → T (has earlier b) → (x : ℕ → Bool) → Solves (system_in f g u) f.n (side_at (job_of f) u b) x → ⊥
  pub self : (flow_of g).set u u ≡ in_set branch
  pub answer : IsBasicSolution (system_in f g u) f.n (side_at (job_of f) u branch) (others g u)
  pub only : (x : ℕ → Bool) → IsBasicSolution (system_in f g u) f.n (side_at (job_of f) u branch) x → x ≡ others g u

-- of each entry of the flow file that a finder's call wrote
abbrev pub Demand2 : Type 0
Demand2 = (file work out : List ℕ) (k : ℕ) → (find_call file work out).answer ≡ gives k
    → (f : JobFile) → read_job file ≡ gives f → (g : FlowFile) → IsFlowBytes f.n (take k (find_call file work out).out) g
    → (u : ℕ) → T ((flow_of g).entry u) → IsTheSolution f g u
