-- The verifier accepts exactly what obeys the rule of its mode.
use Prim.Native.Nat.{ℕ, ◌≤◌, ◌<◌}
use mathlib.Core.Path.{◌≡◌, sym, ap₂, ◌∙◌, subst}
use mathlib.Core.Bool.{Bool, false, ◌&&◌}
use mathlib.Core.Option.{none, some}
use mathlib.Core.Logic.{◌⊎◌, inl, inr, ◌↔◌, ◌≢◌}
use native.Mathlib.Omega.{arith}
use lib.Dec.{T, eqb, ltb, eqb→eq, eqb_refl, ltb→lt, lt→ltb}
use Rattle.nodes.specs.Row.{any_below}
use Rattle.nodes.proofs.Logic.{is_false, from_false, dec, and_none}
use Rattle.nodes.proofs.Row.{any_in, any_out, parity_none}
use Rattle.flows.specs.Job.{Job, odd, own}
use Rattle.flows.specs.Conditions.{corrects}
use Rattle.flows.specs.Search.{Progress, first_round, later_than}
use Rattle.flows.specs.Flows.{find_at}
use Rattle.flows.proofs.Conditions.{own_inputs, own-measured, corrects_by, corrects_own, corrects-later, corrects_ext, causal_in, causal_inputs, causal_adjacent, needs_member}
use Rattle.flows.proofs.Table.{needs_one}
use Rattle.flows.proofs.Flows.{IsFoundAt, found_flow_lem, found_corrects, found_smallest}
use Rattle.records.specs.JobFile.{mode_causal, mode_planes, mode_pauli}
use Rattle.records.specs.FlowFile.{Flow}
use Rattle.verdicts.specs.Verdict as Q
use Rattle.verdicts.specs.Published.{IsMeasured, HasNoOtherInputs, HasOutputsAtZero, HasOthersAboveZero, IsDomain, MeetsLayerRule}
use Rattle.verdicts.specs.Rule.{MeetsFlowRule, MeetsCausalRule}
use Rattle.verdicts.proofs.Verdict.{IsPreliminary, verify_in, verify_preliminary, verify_nodes, node_in, node_out, causal_node_in, causal_node_adjacent, causal_node_later}

-- ---- what reading tells of the job and of the flow
pub record IsReadable (j : Job) (f : Flow) : Type 0 where
  pub unmeasured : (u : ℕ) → u < j.nodes → T (j.output u) → j.measured u ≡ 0
  pub measured : (u : ℕ) → IsMeasured j u → (0 < j.measured u) × (j.measured u < 7)
  pub entries : (u k : ℕ) → T (f.set u k) → T (f.entry u)
  pub nodes : (u k : ℕ) → T (f.set u k) → k < j.nodes

module _ (j : Job) (f : Flow) (r : IsReadable j f) where
  -- a set with a node's own measurement right is not empty, so 14 asks nothing more
  some_member : (i : ℕ) → IsMeasured j i → T (own (j.measured i) (f.set i i) (odd j (f.set i) i)) → T (any_below j.nodes (f.set i))
  some_member i s t = go (dec (any_below j.nodes (f.set i)))
    where
      go : T (any_below j.nodes (f.set i)) ⊎ (T (any_below j.nodes (f.set i)) → ⊥) → T (any_below j.nodes (f.set i))
      go (inl q) = q
      go (inr d) =
          absurd
          (needs_one (j.measured i) (r.measured i s).1
          (rw (empty i s.0, parity_none j.nodes (λ k. j.edge k i && f.set i k) (λ k l. rw (empty k l) (and_none (j.edge k i)))) at t))
        where
          empty : (k : ℕ) → k < j.nodes → f.set i k ≡ false
          empty k l = is_false (f.set i k) (λ q. d (any_in j.nodes (f.set i) k l q))

  -- each node's measurement is one of the table
  measured_known : (u : ℕ) → u < j.nodes → j.measured u < 7
  measured_known u l = go (dec (j.output u))
    where
      go : T (j.output u) ⊎ (T (j.output u) → ⊥) → j.measured u < 7
      go (inl t) = rw (r.unmeasured u l t) (omega arith)
      go (inr o) = (r.measured u (l, o)).1

  not_output : (u : ℕ) → u < j.nodes → j.measured u ≢ 0 → T (j.output u) → ⊥
  not_output u l d o = d (r.unmeasured u l o)

  -- ---- the questions before the node by node part, for any mode
  preliminary_domain : (mode : ℕ) → IsPreliminary j f mode → IsDomain j f.entry
  preliminary_domain mode p u l =
      ((λ t. not_output u l (p.entries u l t)), λ o. let (k, m, t) = any_out j.nodes (f.set u) ((p.domain u l).1 o) in r.entries u k t)

  preliminary : (mode : ℕ) → IsDomain j f.entry → HasOutputsAtZero j f.layer → (mode ≢ mode_pauli → HasOthersAboveZero j f.layer) → HasNoOtherInputs j f.set
      → ((i : ℕ) → IsMeasured j i → T (any_below j.nodes (f.set i))) → IsPreliminary j f mode
  preliminary mode d z a i m = record {
    inputs = λ u k l h t q. i u k (l, (d u l).0 (r.entries u k t)) h t q;
    domain = λ u l. ((λ t. let (k, h, q) = any_out j.nodes (f.set u) t in (d u l).0 (r.entries u k q)), λ o. m u (l, o));
    outputs = z;
    others = a;
    entries = λ u l t. positive (j.measured u) (r.measured u (l, (d u l).0 t)).0;
  }
    where
      positive : (m : ℕ) → 0 < m → m ≢ 0
      positive m l e = omega arith

  -- ---- modes 2 and 3
  module _ (mode : ℕ) (searched : (mode ≡ mode_planes) ⊎ (mode ≡ mode_pauli)) where
    abbrev pauli : Bool
    pauli = eqb mode mode_pauli

    not_causal : eqb mode mode_causal ≡ false
    not_causal = is_false (eqb mode mode_causal) (λ t. apart searched (eqb→eq mode mode_causal t))
      where
        apart : (mode ≡ mode_planes) ⊎ (mode ≡ mode_pauli) → mode ≡ mode_causal → ⊥
        apart (inl p) e = omega (arith, p, e)
        apart (inr p) e = omega (arith, p, e)

    planes_or : mode ≢ mode_pauli → mode ≡ mode_planes
    planes_or d = go searched
      where
        go : (mode ≡ mode_planes) ⊎ (mode ≡ mode_pauli) → mode ≡ mode_planes
        go (inl e) = e
        go (inr e) = absurd (d e)

    pub rule_corrects : MeetsFlowRule mode j f → (i : ℕ) → IsMeasured j i → T (corrects j pauli (later_than f.layer i) (f.set i) i)
    rule_corrects p i s = corrects_by j pauli (later_than f.layer i) (f.set i) i (p.own i s) (λ k l t. lt→ltb (f.layer k) (f.layer i) (p.later i k s l t))

    pub corrects_rule : IsDomain j f.entry → MeetsLayerRule mode j f.layer → ((i : ℕ) → IsMeasured j i → T (corrects j pauli (later_than f.layer i) (f.set i) i)) → MeetsFlowRule mode j f
    corrects_rule d y c = record {
      domain = d;
      layers = y;
      own = λ i s. corrects_own j pauli (later_than f.layer i) (f.set i) i (c i s);
      later = λ i k s l t. ltb→lt (f.layer k) (f.layer i) (corrects-later j pauli (later_than f.layer i) (f.set i) i (c i s) k l t);
    }

    accepted_rule : Q.verify j f mode ≡ none → MeetsFlowRule mode j f
    accepted_rule e =
        let asked = verify_preliminary j f mode e in
        corrects_rule (preliminary_domain mode asked) (record { outputs = asked.outputs; others = λ q. asked.others (λ p. omega (arith, p, q)) })
        (λ i s. node_out j f mode i (λ k l t q. asked.inputs i k s.0 l t q) (rw not_causal at (verify_nodes j f mode e i s)))

    rule_accepted : MeetsFlowRule mode j f → Q.verify j f mode ≡ none
    rule_accepted p =
        verify_in j f mode
        (preliminary mode p.domain p.layers.outputs (λ d. p.layers.others (planes_or d)) (λ i k s l t q. own_inputs j (f.set i) i (p.own i s) k l t q)
        (λ i s. some_member i s (own-measured j (f.set i) i (p.own i s))))
        (λ i s. rw not_causal (node_in j f mode i (rule_corrects p i s)))

    -- a flow is accepted exactly where it obeys the rule
    pub verify_rule : Q.verify j f mode ≡ none ↔ MeetsFlowRule mode j f
    verify_rule = (accepted_rule, rule_accepted)

    -- ---- a flow with the layers and sets that the search finds obeys the rule
    pub found_rule : (s : Progress) → find_at j pauli ≡ some s → IsDomain j f.entry → ((u : ℕ) → u < j.nodes → f.layer u ≡ s.layer u)
        → ((u k : ℕ) → IsMeasured j u → k < j.nodes → f.set u k ≡ s.set u k) → MeetsFlowRule mode j f
    found_rule s e d layers sets =
        corrects_rule d
        (record {
          outputs = λ u l o. layers u l ∙ found.output_layer u o;
          others = λ q u m. subst (λ (x : ℕ). 0 < x) (sym (layers u m.0)) (positive q (found.least u m.0 m.1));
        })
        (λ u m. corrects_ext j (s.set u) (f.set u) (λ k l. sym (sets u k m l)) pauli (later_than s.layer u) (later_than f.layer u)
        (λ k l. sym (ap₂ ltb (layers k l) (layers u m.0))) u m.0 (found_corrects j pauli measured_known s found u m.0 m.1))
      where
        found : IsFoundAt j pauli s
        found = found_flow_lem j pauli s e

        positive : {x : ℕ} → mode ≡ mode_planes → first_round pauli ≤ x → 0 < x
        positive q h = rw q at h

    -- ---- the search finds a flow wherever one obeys the rule, and no layer of that one is smaller
    pub rule_smallest : MeetsFlowRule mode j f → (s : Progress) × (find_at j pauli ≡ some s) × ((u : ℕ) → u < j.nodes → s.layer u ≤ f.layer u)
    rule_smallest p = found_smallest j pauli measured_known f.layer f.set (λ e u l o. p.layers.others (is_planes e) u (l, o)) (λ u l o. rule_corrects p u (l, o))
      where
        is_planes : pauli ≡ false → mode ≡ mode_planes
        is_planes e = planes_or (λ q. from_false pauli e (subst (λ (m : ℕ). T (eqb m mode_pauli)) (sym q) tt))

  -- ---- mode 1, where each entry has one member
  module _ (single : (u : ℕ) → T (f.entry u) → (k : ℕ) × (k < j.nodes) × ((v : ℕ) → f.set u v ≡ eqb v k)) where
    causal_accepted_rule : Q.verify j f mode_causal ≡ none → MeetsCausalRule j f
    causal_accepted_rule e =
        let asked = verify_preliminary j f mode_causal e in record {
          domain = preliminary_domain mode_causal asked;
          layers = record { outputs = asked.outputs; others = λ q. absurd (omega (arith, q)) };
          own = λ i s. causal_in j (f.set i) i (λ k l t q. asked.inputs i k s.0 l t q) (causal_node_adjacent j f i (verify_nodes j f mode_causal e i s));
          later = λ i k s l t. ltb→lt (f.layer k) (f.layer i) (causal_node_later j f i (verify_nodes j f mode_causal e i s) k l t);
        }

    causal_rule_accepted : MeetsCausalRule j f → Q.verify j f mode_causal ≡ none
    causal_rule_accepted p =
        verify_in j f mode_causal
        (preliminary mode_causal p.domain p.layers.outputs (λ d i s. let (k, l, t) = member i s in above (p.later i k s l (needs_member j (f.set i) i k t)))
        (λ i k s l t q. causal_inputs j (f.set i) i (p.own i s) k l t q) (λ i s. let (k, l, t) = member i s in any_in j.nodes (f.set i) k l t))
        (λ i s. causal_node_in j f i (causal_adjacent j (f.set i) i (p.own i s)) (λ k l t. lt→ltb (f.layer k) (f.layer i) (p.later i k s l t)))
      where
        member : (i : ℕ) → IsMeasured j i → (k : ℕ) × (k < j.nodes) × T (f.set i k)
        member i s = let (k, l, e) = single i ((p.domain i s.0).1 s.1) in (k, l, rw (e k) (eqb_refl k))

        above : {a b : ℕ} → a < b → 0 < b
        above h = omega arith

    pub verify_causal_rule : Q.verify j f mode_causal ≡ none ↔ MeetsCausalRule j f
    verify_causal_rule = (causal_accepted_rule, causal_rule_accepted)
