-- Demand 3, for both modes: the finder's flow is accepted, every accepted flow gives each node at least the layer of
-- the finder's, and 'no flow' is said exactly where no flow is accepted.
use Prim.Native.Nat.{ℕ, ◌≤◌, ◌<◌}
use mathlib.Core.Path.{◌≡◌, refl, sym, ap, ◌∙◌, subst}
use mathlib.Core.Bool.{Bool, true, false, cond}
use mathlib.Core.Option.{Option, none, some}
use mathlib.Core.List.{List, [], ◌++◌}
use mathlib.Core.Logic.{◌⊎◌, inl, inr, ◌≢◌}
use native.Mathlib.Omega.{arith}
use lib.Dec.{T, eqb, eqb→eq}
use lib.ListN.{length, take, drop}
use lib.Seq.{take-append_seam}
use Rattle.nodes.proofs.Logic.{is_false, from_true, or_out, not_in, not_out}
use Rattle.flows.specs.Job.{Job}
use Rattle.flows.specs.Search.{Progress}
use Rattle.flows.specs.Flows.{find_at}
use Rattle.answers.specs.Answer.{Answer, gives, refuses, asks, ◌>>◌}
use Rattle.records.specs.Records.{written, kind_no_flow}
use Rattle.records.specs.JobFile.{JobFile, most_nodes, read_job, job_of, mode_causal, mode_planes, mode_pauli}
use Rattle.records.specs.FlowFile.{FlowFile, read_flow, flow_of, nothing_left}
use Rattle.records.specs.Encoding.{IsValidJob, found_flow}
use Rattle.verdicts.specs.Verdict.{verify, check_domain, check_initial, check_definition}
use Rattle.nodes.specs.Lists.{zeros}
use Rattle.solver.specs.Solver.{work_bytes}
use Rattle.demands.specs.Calls.{mode_of, has_search, put, find_outcome, find_asks, find_call, found_bytes, progress_by_mode}
use Rattle.records.specs.Splice.{fits_in}
use Rattle.records.specs.Writing.{flow_bytes, most_output}
use Rattle.demands.specs.Demand.{IsAccepted, IsFlowBytes, layer_in, DemandHolds, Demand3}
use Rattle.answers.proofs.Answer.{give_inj, never, bind_out, asks_out}
use Rattle.records.proofs.Encoding.{job_asked, flow_asked}
use Rattle.records.proofs.FlowFile.{nothing_left_lem, one_member_other}
use Rattle.records.proofs.Records.{written-length}
use Rattle.records.proofs.Writing.{found_most, found_reads, found_valid, found_layer, found_entry, found_set, no_flow_unread}
use Rattle.verdicts.proofs.Verdict.{domain_asked, initial_asked, definition_asked}
use Rattle.verdicts.proofs.Rule.{IsReadable, verify_rule, found_rule, rule_smallest}
use Rattle.demands.proofs.Judging.{IsJudged, judged_in, judged_out, searched_works, causal_works, readable}

-- ---- a job in mode 2 or 3
module _ (file : List ℕ) (f : JobFile) (reads : read_job file ≡ gives f) (ends : f.after ≡ []) (searched : (mode_of f ≡ mode_planes) ⊎ (mode_of f ≡ mode_pauli)) where
  abbrev j : Job
  j = job_of f

  abbrev pauli : Bool
  pauli = eqb (mode_of f) mode_pauli

  valid : IsValidJob f
  valid = job_asked file f reads

  not_causal : mode_of f ≢ mode_causal
  not_causal e = go searched
    where
      go : (mode_of f ≡ mode_planes) ⊎ (mode_of f ≡ mode_pauli) → ⊥
      go (inl p) = omega (arith, p, e)
      go (inr p) = omega (arith, p, e)

  pub by_mode : progress_by_mode (mode_of f) j ≡ find_at j pauli
  by_mode = go searched
    where
      go : (mode_of f ≡ mode_planes) ⊎ (mode_of f ≡ mode_pauli) → progress_by_mode (mode_of f) j ≡ find_at j pauli
      go (inl e) = rw e
      go (inr e) = rw e

  -- ---- (a) the found flow is accepted
  module _ (s : Progress) (e : find_at j pauli ≡ some s) where
    abbrev g : FlowFile
    g = found_flow j s

    reading : IsReadable j (flow_of g)
    reading = readable f valid g (found_valid j s)

    found_verified : verify j (flow_of g) (mode_of f) ≡ none
    found_verified =
        (verify_rule j (flow_of g) reading (mode_of f) searched).1
        (found_rule j (flow_of g) reading (mode_of f) searched s e
        (λ u l. ((λ t. not_out (j.output u) (rw (found_entry j s u l) at t)), λ o. rw (found_entry j s u l) (not_in (j.output u) o)))
        (found_layer j s) (λ u k m l. found_set j s u k m.0 l ∙ rw (is_false (j.output u) m.1)))

    -- the block that FATAL_MSG guards in the Rust is needless: none of its three checks can fail
    pub fatal_needless : (check_domain j (flow_of g) ≡ none) × (check_initial j (flow_of g) (mode_of f) ≡ none) × (check_definition j (flow_of g) (mode_of f) ≡ none)
    fatal_needless = (domain_asked j (flow_of g) (mode_of f) found_verified, initial_asked j (flow_of g) (mode_of f) found_verified, definition_asked j (flow_of g) (mode_of f) found_verified)

    pub found_judged : IsJudged f (flow_bytes j (some s)) g
    found_judged = record { reads = found_reads j s valid.few; nothing = refl; single = (true, one_member_other f.mode g.sets (λ e. not_causal (causal_works f valid e))); accepted = found_verified; matches = refl }

  -- ---- (b) every accepted flow gives each node at least the layer of the found one
  module _ (other : List ℕ) (h : FlowFile) (q : IsJudged f other h) where
    reads_other : IsReadable j (flow_of h)
    reads_other = readable f valid h (flow_asked f.n other h valid.few q.reads)

    pub smallest_found : (s : Progress) × (find_at j pauli ≡ some s) × ((u : ℕ) → u < j.nodes → s.layer u ≤ (flow_of h).layer u)
    smallest_found =
        rule_smallest j (flow_of h) reads_other (mode_of f) searched ((verify_rule j (flow_of h) reads_other (mode_of f) searched).0 q.accepted)

  -- ---- the three parts, of the bytes that the finder writes
  bytes_of : (o : Option Progress) → progress_by_mode (mode_of f) j ≡ o → found_bytes f ≡ flow_bytes j o
  bytes_of o e = ap (flow_bytes j) e

  wrote_flow : (s : Progress) → find_at j pauli ≡ some s → found_bytes f ≡ flow_bytes j (some s)
  wrote_flow s e = bytes_of (some s) (by_mode ∙ e)

  pub wrote_none : find_at j pauli ≡ none → found_bytes f ≡ written kind_no_flow []
  wrote_none e = bytes_of none (by_mode ∙ e)

  pub found_cases : (find_at j pauli ≡ none) ⊎ ((s : Progress) × (find_at j pauli ≡ some s))
  found_cases = go (find_at j pauli) refl
    where
      go : (o : Option Progress) → find_at j pauli ≡ o → (find_at j pauli ≡ none) ⊎ ((s : Progress) × (find_at j pauli ≡ some s))
      go none e = inl e
      go (some s) e = inr (s, e)

  found_accepted : (s : Progress) → find_at j pauli ≡ some s → IsAccepted file (found_bytes f)
  found_accepted s e = rw (wrote_flow s e) (judged_in file f reads ends (flow_bytes j (some s)) (found_flow j s) (found_judged s e).reads (found_judged s e))

  pub reads_back : (s : Progress) → find_at j pauli ≡ some s → IsFlowBytes f.n (found_bytes f) (found_flow j s)
  reads_back s e = (rw (wrote_flow s e) (found_reads j s valid.few), refl)

  other_smallest : (other : List ℕ) (h : FlowFile) → IsFlowBytes f.n other h → IsAccepted file other
      → (g : FlowFile) × IsFlowBytes f.n (found_bytes f) g × ((u : ℕ) → u < f.n → layer_in g u ≤ layer_in h u)
  other_smallest other h r a =
      let (s, e, l) = smallest_found other h (judged_out file f reads ends other h r.0 true a) in
      (found_flow j s, reads_back s e, λ u m. subst (λ (x : ℕ). x ≤ layer_in h u) (sym (found_layer j s u m)) (l u m))

  pub demand_holds : DemandHolds file f (found_bytes f)
  demand_holds = record {
    flow_or_none = flow_or_none_lem found_cases;
    accepts = λ g r. accepts' g r.0 found_cases;
    smallest = other_smallest;
    no_flow = ((λ e other h k a. let (g, r, l) = other_smallest other h k a in no_flow_unread f.n g (subst (λ (x : List ℕ). read_flow f.n x ≡ gives g) e r.0)), λ n. by_none n found_cases);
  }
    where
      flow_or_none_lem : (find_at j pauli ≡ none) ⊎ ((s : Progress) × (find_at j pauli ≡ some s)) → ((g : FlowFile) × IsFlowBytes f.n (found_bytes f) g) ⊎ (found_bytes f ≡ written kind_no_flow [])
      flow_or_none_lem (inl e) = inr (wrote_none e)
      flow_or_none_lem (inr (s, e)) = inl (found_flow j s, reads_back s e)

      accepts' : (g : FlowFile) → read_flow f.n (found_bytes f) ≡ gives g → (find_at j pauli ≡ none) ⊎ ((s : Progress) × (find_at j pauli ≡ some s)) → IsAccepted file (found_bytes f)
      accepts' g r (inl e) = absurd (no_flow_unread f.n g (subst (λ (x : List ℕ). read_flow f.n x ≡ gives g) (wrote_none e) r))
      accepts' g r (inr (s, e)) = found_accepted s e

      by_none : ((other : List ℕ) (h : FlowFile) → IsFlowBytes f.n other h → IsAccepted file other → ⊥) → (find_at j pauli ≡ none) ⊎ ((s : Progress) × (find_at j pauli ≡ some s)) → found_bytes f ≡ written kind_no_flow []
      by_none n (inl e) = wrote_none e
      by_none n (inr (s, e)) = absurd (n (found_bytes f) (found_flow j s) (reads_back s e) (found_accepted s e))

-- ---- the call
-- what the finder's questions let through
pub asked_find : (file work : List ℕ) (f : JobFile) → find_asks file work ≡ gives f → (read_job file ≡ gives f) × (f.after ≡ []) × ((f.mode ≡ mode_planes) ⊎ (f.mode ≡ mode_pauli)) × (length work ≡ work_bytes)
unfolding find_asks
asked_find file work f e =
    let (g, p, q) = bind_out (read_job file) (λ f. nothing_left f.after >> (asks 10 (has_search f.mode) >> (asks 11 (eqb (length work) work_bytes) >> gives f))) f e in
    let (a, b) = asks_out 8 (eqb (length g.after) 0) (asks 10 (has_search g.mode) >> (asks 11 (eqb (length work) work_bytes) >> gives g)) f q in
    let (c, d) = asks_out 10 (has_search g.mode) (asks 11 (eqb (length work) work_bytes) >> gives g) f b in
    let (h, k) = asks_out 11 (eqb (length work) work_bytes) (gives g) f d in
    let same : g ≡ f = give_inj k in
    subst (λ (g : JobFile). (read_job file ≡ gives g) × (g.after ≡ []) × ((g.mode ≡ mode_planes) ⊎ (g.mode ≡ mode_pauli)) × (length work ≡ work_bytes)) same
    (p, nothing_left_lem g.after true (ap (asks 8) a), modes g.mode (or_out (eqb g.mode mode_planes) (eqb g.mode mode_pauli) (from_true (has_search g.mode) c)), eqb→eq (length work) work_bytes (from_true (eqb (length work) work_bytes) h))
  where
    modes : (m : ℕ) → T (eqb m mode_planes) ⊎ T (eqb m mode_pauli) → (m ≡ mode_planes) ⊎ (m ≡ mode_pauli)
    modes m (inl t) = inl (eqb→eq m mode_planes t)
    modes m (inr t) = inr (eqb→eq m mode_pauli t)

-- no result is longer than `most_output`
pub found_fits : (f : JobFile) → f.n ≤ most_nodes → length (found_bytes f) ≤ most_output
found_fits f h = go (progress_by_mode (mode_of f) (job_of f))
  where
    go : (o : Option Progress) → length (flow_bytes (job_of f) o) ≤ most_output
    go none = subst (λ (k : ℕ). k ≤ most_output) (sym (written-length kind_no_flow [])) (omega arith)
    go (some s) = found_most (job_of f) s h

pub put_fits : (work result out : List ℕ) (k : ℕ) → (put work result out).answer ≡ gives k → take k (put work result out).out ≡ result
unfolding put
put_fits work result out k e = go (fits_in result out) e
  where
    go : (c : Bool) → (asks 20 c >> gives (length result)) ≡ gives k → take k (cond c (result ++ drop (length result) out) out) ≡ result
    go true e = let q : length result ≡ k = give_inj e in rw (← q) (take-append_seam result (drop (length result) out))
    go false e = absurd (never e)

pub demand3 : Demand3
unfolding find_call
demand3 file work out k e = go (find_asks file work) refl e
  where
    go : (a : Answer JobFile) → find_asks file work ≡ a → (find_outcome a work out).answer ≡ gives k
        → (job : JobFile) × (read_job file ≡ gives job) × DemandHolds file job (take k (find_outcome a work out).out)
    go (refuses r) p e = absurd (never e)
    go (gives f) p e =
        let (reads, ends, mode, size) = asked_find file work f p in
        (f, reads, subst (DemandHolds file f) (sym (put_fits (zeros (length work)) (found_bytes f) out k e)) (demand_holds file f reads ends (searched_works f mode)))
