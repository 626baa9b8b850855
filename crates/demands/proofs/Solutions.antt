-- Demand 2: each set in the finder's file is the one solution of the first solvable branch in its round.
use Prim.Native.Nat.{ℕ, ◌≤◌, ◌<◌}
use mathlib.Core.Path.{◌≡◌, refl, sym, ap, ap₂, ◌∙◌, subst, fun_ext}
use mathlib.Core.Bool.{Bool, false, not, ◌&&◌, ◌||◌}
use mathlib.Core.Option.{Option, none, some, none-ne-some}
use mathlib.Core.List.{List, []}
use mathlib.Core.Logic.{◌⊎◌, inl, inr}
use native.Mathlib.Omega.{arith}
use lib.Dec.{T, eqb, ltb, eqb→eq}
use lib.ListN.{take, length}
use Rattle.nodes.proofs.Logic.{is_false, not_out, eqb_yes, and_all, lt_or_ge}
use Rattle.nodes.specs.Options.{is_some}
use Rattle.solver.specs.System.{Solves, IsBasicSolution, solve}
use Rattle.solver.proofs.System.{solvable_some, answer_unique}
use Rattle.flows.specs.Job.{Job}
use Rattle.flows.specs.Branch.{Context, branches, system_at, side_at, in_set, with_node, try_branch}
use Rattle.flows.specs.Search.{Progress, later_than}
use Rattle.flows.specs.Tries.{context_at, try_at}
use Rattle.flows.specs.Flows.{find_at}
use Rattle.flows.proofs.Branch.{put_out}
use Rattle.flows.proofs.Tries.{IsFirstOf, try_first, try_ext, branch_answer, no_column_u}
use Rattle.flows.proofs.Flows.{IsFoundAt, found_flow_lem}
use Rattle.answers.specs.Answer.{Answer, gives, refuses}
use Rattle.records.specs.JobFile.{JobFile, read_job, job_of, mode_planes, mode_pauli}
use Rattle.records.specs.FlowFile.{FlowFile, flow_of, read_flow}
use Rattle.records.specs.Encoding.{found_flow}
use Rattle.nodes.specs.Lists.{zeros}
use Rattle.demands.specs.Calls.{mode_of, find_call, find_asks, find_outcome, found_bytes}
use Rattle.verdicts.specs.Published.{IsMeasured}
use Rattle.demands.specs.Demand.{IsFlowBytes, layer_in}
use Rattle.demands.specs.Solutions.{others, IsTheSolution, Demand2}
use Rattle.answers.proofs.Answer.{give_inj, never}
use Rattle.records.proofs.FlowFile.{members_below, nodes_below_lem}
use Rattle.records.proofs.Writing.{found_valid, found_layer, found_entry, found_set, no_flow_unread}
use Rattle.demands.proofs.Judging.{searched_works}
use Rattle.demands.proofs.Demand.{asked_find, put_fits, reads_back, wrote_none, found_cases}

-- a branch that gives nothing has no solution
none_solves : (j : Job) (c : Context) (u b : ℕ) → try_branch j c u b ≡ none → (x : ℕ → Bool) → Solves (system_at j c) j.nodes (side_at j u b) x → ⊥
none_solves j c u b e x s = go (solve (system_at j c) j.nodes (side_at j u b)) (solvable_some (system_at j c) j.nodes (side_at j u b) x s) e
  where
    go : (o : Option (ℕ → Bool)) → T (is_some o) → with_node (in_set b) u o ≡ none → ⊥
    go none t e = t
    go (some y) t e = none-ne-some _ (sym e)

module _ (f : JobFile) (s : Progress) (found : IsFoundAt (job_of f) (eqb (mode_of f) mode_pauli) s) where
  abbrev j : Job
  j = job_of f

  abbrev pauli : Bool
  pauli = eqb (mode_of f) mode_pauli

  abbrev g : FlowFile
  g = found_flow j s

  module _ (u : ℕ) (m : IsMeasured j u) where
    abbrev later : ℕ → Bool
    later = later_than (layer_in g) u

    tried : try_at j pauli later u ≡ some (s.set u)
    tried = try_ext j pauli later (later_than s.layer u) (λ v l. ap₂ ltb (found_layer j s v l) (found_layer j s u m.0)) u ∙ found.by_try u m.0 m.1

    first : IsFirstOf j (context_at j pauli later u) u (branches (j.measured u)) (s.set u)
    first = try_first j pauli later u (s.set u) tried

    written_set : (k : ℕ) → k < j.nodes → (flow_of g).set u k ≡ s.set u k
    written_set k l = found_set j s u k m.0 l ∙ rw (is_false (j.output u) m.1)

    module _ (x : ℕ → Bool) (a : IsBasicSolution (system_at j (context_at j pauli later u)) j.nodes (side_at j u first.branch) x) (w : s.set u ≡ (λ k. x k || in_set first.branch && eqb k u)) where
      x_u : x u ≡ false
      x_u = is_false (x u) (λ t. no_column_u j pauli later u (a.within u t).1)

      the_others : others g u ≡ x
      the_others = fun_ext (λ k. go k (lt_or_ge k j.nodes))
        where
          go : (k : ℕ) → (k < j.nodes) ⊎ (j.nodes ≤ k) → (flow_of g).set u k && not (eqb k u) ≡ x k
          go k (inl l) =
              ap (λ (b : Bool). b && not (eqb k u)) (written_set k l ∙ ap (λ (y : ℕ → Bool). y k) w)
              ∙ put_out (x k) (in_set first.branch) (eqb k u) (λ t. rw (eqb→eq k u t) x_u)
          go k (inr l) =
              ap (λ (b : Bool). b && not (eqb k u)) (is_false ((flow_of g).set u k) (λ t. far k l (members_below f.n g.sets u k (found_valid j s).below t)))
              ∙ sym (is_false (x k) (λ t. far k l (a.within k t).0))
            where
              far : (k : ℕ) → j.nodes ≤ k → k < j.nodes → ⊥
              far k a b = omega arith

      own_member : (flow_of g).set u u ≡ in_set first.branch
      own_member = written_set u m.0 ∙ ap (λ (y : ℕ → Bool). y u) w ∙ rw (x_u, eqb_yes u) (and_all (in_set first.branch))

      solution : IsTheSolution f g u
      solution = record {
        earlier = first.earlier;
        branch = first.branch;
        later = first.later;
        row = first.row;
        unsolvable = λ b t. none_solves j (context_at j pauli later u) u b (first.unsolvable b t);
        self = own_member;
        answer = subst (IsBasicSolution (system_at j (context_at j pauli later u)) j.nodes (side_at j u first.branch)) (sym the_others) a;
        only = λ y b. answer_unique (system_at j (context_at j pauli later u)) j.nodes (side_at j u first.branch) y x b a ∙ sym the_others;
      }

    pub the_solution : IsTheSolution f g u
    the_solution = let (x, a, w) = branch_answer j (context_at j pauli later u) u first.branch (s.set u) first.gave in solution x a w

pub demand2 : Demand2
unfolding find_call
demand2 file work out k e f r g b u t = go (find_asks file work) refl e b
  where
    go : (a : Answer JobFile) → find_asks file work ≡ a → (find_outcome a work out).answer ≡ gives k → IsFlowBytes f.n (take k (find_outcome a work out).out) g → IsTheSolution f g u
    go (refuses q) p e b = absurd (never e)
    go (gives h) p e b =
        let (reads, ends, mode, size) = asked_find file work h p in
        let same : f ≡ h = give_inj (sym r ∙ reads) in
        by h reads ends (searched_works h mode) same (subst (λ (w : List ℕ). read_flow f.n w ≡ gives g) (put_fits (zeros (length work)) (found_bytes h) out k e) b.0)
      where
        by : (h : JobFile) → read_job file ≡ gives h → h.after ≡ [] → (mode_of h ≡ mode_planes) ⊎ (mode_of h ≡ mode_pauli) → f ≡ h → read_flow f.n (found_bytes h) ≡ gives g → IsTheSolution f g u
        by h reads ends mode same q = subst (λ (f : JobFile). IsTheSolution f g u) (sym same) (from (subst (λ (f : JobFile). read_flow f.n (found_bytes h) ≡ gives g) same q) (found_cases file h reads ends mode))
          where
            from : read_flow h.n (found_bytes h) ≡ gives g → (find_at (job_of h) (eqb (mode_of h) mode_pauli) ≡ none) ⊎ ((s : Progress) × (find_at (job_of h) (eqb (mode_of h) mode_pauli) ≡ some s)) → IsTheSolution h g u
            from q (inl n) = absurd (no_flow_unread h.n g (subst (λ (w : List ℕ). read_flow h.n w ≡ gives g) (wrote_none file h reads ends mode n) q))
            from q (inr (s, n)) =
                let is : found_flow (job_of h) s ≡ g = give_inj (sym (reads_back file h reads ends mode s n).0 ∙ q) in
                subst (λ (g : FlowFile). IsTheSolution h g u) is (the_solution h s (found_flow_lem (job_of h) (eqb (mode_of h) mode_pauli) s n) u (measured s is))
              where
                measured : (s : Progress) → found_flow (job_of h) s ≡ g → IsMeasured (job_of h) u
                measured s is =
                    let entry : T ((flow_of (found_flow (job_of h) s)).entry u) = subst (λ (g : FlowFile). T ((flow_of g).entry u)) (sym is) t in
                    let l : u < h.n = nodes_below_lem h.n (found_flow (job_of h) s).sets u (found_valid (job_of h) s).below entry in
                    (l, not_out ((job_of h).output u) (subst T (found_entry (job_of h) s u l) entry))
