-- What the verifier accepts: no question is answered no exactly where the conditions hold.
use Prim.Native.Nat.{ℕ, ◌<◌}
use mathlib.Core.Path.{◌≡◌, refl}
use mathlib.Core.Bool.{Bool, true, false, cond, not, ◌||◌}
use mathlib.Core.Option.{Option, none}
use mathlib.Core.Logic.{◌⊎◌, inl, inr, ◌↔◌, ◌≢◌}
use lib.Dec.{T, eqb, ltb, eqb→eq, eqb_refl, ltb→lt, lt→ltb}
use Rattle.nodes.specs.Row.{any_below}
use Rattle.nodes.proofs.Logic.{is_true, is_false, from_true, from_false, dec, or_l, or_r, not_in, not_out, eqb_no}
use Rattle.flows.specs.Job.{Job, odd}
use Rattle.flows.specs.Conditions.{member_excused, odd_excused, y_asked, corrects, causal_need}
use Rattle.flows.specs.Search.{later_than}
use Rattle.flows.proofs.Conditions.{HasNoOtherInput, corrects_in, corrects_out, holds_in, holds_out, implies_in, implies_out, needs_member, needs_neighbour, needs_out}
use Rattle.answers.specs.Answer.{Refusal}
use Rattle.records.specs.JobFile.{mode_causal, mode_pauli}
use Rattle.records.specs.FlowFile.{Flow}
use Rattle.verdicts.specs.Verdict as Q
use Rattle.verdicts.specs.Verdict.{◌next◌, each}
use Rattle.verdicts.specs.Published.{IsMeasured, HasOutputsAtZero, HasOthersAboveZero}
use Rattle.verdicts.proofs.Questions.{ask_in, ask_out, next_in, next_l, next_r, each_in, each_out, unless_in, unless_out, when_in, when_out, late_in, late_out, both_in, both_out, beq_in, beq_out}

module _ (j : Job) (f : Flow) where
  -- ---- the questions before the node by node part
  pub record IsPreliminary (mode : ℕ) : Type 0 where
    pub inputs : (u k : ℕ) → u < j.nodes → k < j.nodes → T (f.set u k) → T (j.input k) → k ≡ u
    pub domain : (u : ℕ) → u < j.nodes → (T (any_below j.nodes (f.set u)) ↔ (T (j.output u) → ⊥))
    pub outputs : HasOutputsAtZero j f.layer
    pub others : mode ≢ mode_pauli → HasOthersAboveZero j f.layer
    pub entries : (u : ℕ) → u < j.nodes → T (f.entry u) → j.measured u ≢ 0

  -- what node i is asked in its mode
  abbrev pub node_questions : ℕ → ℕ → Option Refusal
  node_questions mode i = cond (eqb mode mode_causal) (Q.causal_node_ask j f i) (Q.node_ask j f mode i)

  abbrev pub inputs_ask : Option Refusal
  inputs_ask = each j.nodes (λ u. each j.nodes (Q.input_ask j f u))

  abbrev pub domains_ask : Option Refusal
  domains_ask = each j.nodes (Q.domain_ask j f)

  abbrev pub layers_ask : ℕ → Option Refusal
  layers_ask mode = each j.nodes (Q.layer_ask j f mode)

  abbrev pub entries_ask : Option Refusal
  entries_ask = each j.nodes (Q.measured_ask j f)

  abbrev pub definitions_ask : ℕ → Option Refusal
  definitions_ask mode = each j.nodes (Q.definition_ask j f mode)

  layer_in : (mode u : ℕ) → u < j.nodes → HasOutputsAtZero j f.layer → (mode ≢ mode_pauli → HasOthersAboveZero j f.layer) → Q.layer_ask j f mode u ≡ none
  layer_in mode u l o p = go (j.output u) refl
    where
      go : (c : Bool) → j.output u ≡ c → cond c (Q.output_layer_ask j f u) (Q.other_layer_ask j f mode u) ≡ none
      go true e = ask_in _ _ _ _ (rw (o u l (from_true (j.output u) e)) tt)
      go false e = ask_in _ _ _ _ (by (dec (eqb mode mode_pauli)))
        where
          by : T (eqb mode mode_pauli) ⊎ (T (eqb mode mode_pauli) → ⊥) → T (eqb mode mode_pauli || ltb 0 (f.layer u))
          by (inl t) = or_l (eqb mode mode_pauli) (ltb 0 (f.layer u)) t
          by (inr d) = or_r (eqb mode mode_pauli) (ltb 0 (f.layer u)) (lt→ltb 0 (f.layer u) (p (λ q. d (rw q tt)) u (l, from_false (j.output u) e)))

  output_out : (mode u : ℕ) → Q.layer_ask j f mode u ≡ none → T (j.output u) → f.layer u ≡ 0
  output_out mode u q t = eqb→eq (f.layer u) 0 (ask_out _ _ _ _ (rw (is_true (j.output u) t) at q))

  other_out : (mode u : ℕ) → Q.layer_ask j f mode u ≡ none → mode ≢ mode_pauli → (T (j.output u) → ⊥) → 0 < f.layer u
  other_out mode u q m o =
      ltb→lt 0 (f.layer u) (rw (eqb_no mode mode_pauli m) at (ask_out _ _ _ _ (rw (is_false (j.output u) o) at q)))

  -- ---- the whole
  pub verify_in : (mode : ℕ) → IsPreliminary mode → ((i : ℕ) → IsMeasured j i → node_questions mode i ≡ none) → Q.verify j f mode ≡ none
  unfolding Q.verify
  verify_in mode p h =
      next_in (inputs_ask next domains_ask) (layers_ask mode next (entries_ask next definitions_ask mode))
      (next_in inputs_ask domains_ask
      (each_in j.nodes (λ u. each j.nodes (Q.input_ask j f u)) (λ u l. each_in j.nodes (Q.input_ask j f u)
      (λ k m. ask_in _ _ _ _ (holds_in j (f.set u) u k (p.inputs u k l m)))))
      (each_in j.nodes (Q.domain_ask j f) (λ u l. ask_in _ _ _ _
      (beq_in (any_below j.nodes (f.set u)) (j.output u) (λ a b. (p.domain u l).0 a b) (p.domain u l).1))))
      (next_in (layers_ask mode) (entries_ask next definitions_ask mode)
      (each_in j.nodes (Q.layer_ask j f mode) (λ u l. layer_in mode u l p.outputs p.others))
      (next_in entries_ask (definitions_ask mode)
      (each_in j.nodes (Q.measured_ask j f) (λ u l. ask_in _ _ _ _ (implies_in (f.entry u) (not (eqb (j.measured u) 0)) (λ t. not_in (eqb (j.measured u) 0) (λ q. p.entries u l t (eqb→eq (j.measured u) 0 q))))))
      (each_in j.nodes (Q.definition_ask j f mode) (λ i l. unless_in (j.output i) (node_questions mode i) (λ o. h i (l, o))))))

  module _ (mode : ℕ) (e : Q.verify j f mode ≡ none) where
    all_asked : ((inputs_ask next domains_ask) next (layers_ask mode next (entries_ask next definitions_ask mode))) ≡ none
    unfolding Q.verify
    all_asked = e

    pub domain_asked : (inputs_ask next domains_ask) ≡ none
    domain_asked = next_l (inputs_ask next domains_ask) (layers_ask mode next (entries_ask next definitions_ask mode)) all_asked

    after_domain : (layers_ask mode next (entries_ask next definitions_ask mode)) ≡ none
    after_domain = next_r (inputs_ask next domains_ask) (layers_ask mode next (entries_ask next definitions_ask mode)) all_asked

    pub initial_asked : layers_ask mode ≡ none
    initial_asked = next_l (layers_ask mode) (entries_ask next definitions_ask mode) after_domain

    pub definition_asked : (entries_ask next definitions_ask mode) ≡ none
    definition_asked = next_r (layers_ask mode) (entries_ask next definitions_ask mode) after_domain

    layer_asked : (u : ℕ) → u < j.nodes → Q.layer_ask j f mode u ≡ none
    layer_asked = each_out j.nodes (Q.layer_ask j f mode) initial_asked

    pub verify_preliminary : IsPreliminary mode
    verify_preliminary = record {
      inputs = λ u k l m.
          holds_out j (f.set u) u k
          (ask_out _ _ _ _
          (each_out j.nodes (Q.input_ask j f u)
          (each_out j.nodes (λ u. each j.nodes (Q.input_ask j f u)) (next_l inputs_ask domains_ask domain_asked) u l) k m));
      domain = λ u l.
          beq_out (any_below j.nodes (f.set u)) (j.output u)
          (ask_out _ _ _ _
          (each_out j.nodes (Q.domain_ask j f) (next_r inputs_ask domains_ask domain_asked) u l));
      outputs = λ u l t. output_out mode u (layer_asked u l) t;
      others = λ m u s. other_out mode u (layer_asked u s.0) m s.1;
      entries = λ u l t q.
          not_out (eqb (j.measured u) 0)
          (implies_out (f.entry u) (not (eqb (j.measured u) 0))
          (ask_out _ _ _ _
          (each_out j.nodes (Q.measured_ask j f) (next_l entries_ask (definitions_ask mode) definition_asked) u l)) t)
          (rw q tt);
    }

    pub verify_nodes : (i : ℕ) → IsMeasured j i → node_questions mode i ≡ none
    verify_nodes i s =
        unless_out (j.output i) (node_questions mode i)
        (each_out j.nodes (Q.definition_ask j f mode) (next_r entries_ask (definitions_ask mode) definition_asked) i s.0) s.1

  -- ---- node i in modes 2 and 3
  module _ (mode i : ℕ) where
    abbrev pauli : Bool
    pauli = eqb mode mode_pauli

    abbrev members_ask : Option Refusal
    members_ask = each j.nodes (Q.member_ask j f mode i)

    abbrev odds_ask : Option Refusal
    odds_ask = each j.nodes (Q.odd_ask j f mode i)

    abbrev ys_ask : Option Refusal
    ys_ask = each j.nodes (Q.y_ask j f mode i)

    -- later, or excused
    same_node : {A : Type 0} (k : ℕ) → T (eqb k i) ⊎ A → (k ≡ i) ⊎ A
    same_node k (inl t) = inl (eqb→eq k i t)
    same_node k (inr a) = inr a

    node_same : {A : Type 0} (k : ℕ) → (k ≡ i) ⊎ A → T (eqb k i) ⊎ A
    node_same k (inl e) = inl (rw e (eqb_refl i))
    node_same k (inr a) = inr a

    pub node_in : T (corrects j pauli (later_than f.layer i) (f.set i) i) → Q.node_ask j f mode i ≡ none
    unfolding Q.node_ask
    node_in c =
        let holds = corrects_out j pauli (later_than f.layer i) (f.set i) i c in
        next_in members_ask (odds_ask next ys_ask next Q.own_ask j f i)
        (each_in j.nodes (Q.member_ask j f mode i)
        (λ k l. ask_in _ _ _ _
        (late_in (f.set i k) (eqb k i) (Q.later j f i k) (member_excused j pauli k) (λ a. node_same k (holds.members k l a)))))
        (next_in odds_ask (ys_ask next Q.own_ask j f i)
        (each_in j.nodes (Q.odd_ask j f mode i)
        (λ k l. ask_in _ _ _ _
        (late_in (odd j (f.set i) k) (eqb k i) (Q.later j f i k) (odd_excused j pauli k) (λ a. node_same k (holds.odds k l a)))))
        (next_in ys_ask (Q.own_ask j f i)
        (each_in j.nodes (Q.y_ask j f mode i)
        (λ k l. ask_in _ _ _ _
        (both_in (y_asked j pauli k) (f.set i k) (odd j (f.set i) k) (eqb k i) (Q.later j f i k) (λ a. node_same k (holds.ys k l a)))))
        (ask_in _ _ _ _ holds.owns)))

    pub node_out : HasNoOtherInput j (f.set i) i → Q.node_ask j f mode i ≡ none → T (corrects j pauli (later_than f.layer i) (f.set i) i)
    unfolding Q.node_ask
    node_out inputs e = corrects_in j pauli (later_than f.layer i) (f.set i) i (record {
      inputs = inputs;
      members = λ k l a.
          same_node k
          (late_out (f.set i k) (eqb k i) (Q.later j f i k) (member_excused j pauli k)
          (ask_out _ _ _ _
          (each_out j.nodes (Q.member_ask j f mode i) (next_l members_ask (odds_ask next ys_ask next Q.own_ask j f i) e) k l)) a);
      odds = λ k l a.
          same_node k
          (late_out (odd j (f.set i) k) (eqb k i) (Q.later j f i k) (odd_excused j pauli k)
          (ask_out _ _ _ _
          (each_out j.nodes (Q.odd_ask j f mode i) (next_l odds_ask (ys_ask next Q.own_ask j f i) (next_r members_ask (odds_ask next ys_ask next Q.own_ask j f i) e)) k l)) a);
      ys = λ k l a.
          same_node k
          (both_out (y_asked j pauli k) (f.set i k) (odd j (f.set i) k) (eqb k i) (Q.later j f i k)
          (ask_out _ _ _ _
          (each_out j.nodes (Q.y_ask j f mode i) (next_l ys_ask (Q.own_ask j f i) (next_r odds_ask (ys_ask next Q.own_ask j f i) (next_r members_ask (odds_ask next ys_ask next Q.own_ask j f i) e))) k l)) a);
      owns = ask_out _ _ _ _ (next_r ys_ask (Q.own_ask j f i) (next_r odds_ask (ys_ask next Q.own_ask j f i) (next_r members_ask (odds_ask next ys_ask next Q.own_ask j f i) e)));
    })

  -- ---- node i in mode 1, whatever the members of its set
  module _ (i : ℕ) where
    abbrev neighbours_ask : ℕ → Option Refusal
    neighbours_ask k = each j.nodes (Q.neighbour_ask j f i k)

    abbrev AllAdjacent : Type 0
    AllAdjacent = (s : ℕ) → s < j.nodes → T (f.set i s) → T (j.edge s i)

    abbrev IsNeededLater : Type 0
    IsNeededLater = (k : ℕ) → k < j.nodes → T (causal_need j (f.set i) i k) → T (later_than f.layer i k)

    pub causal_node_in : AllAdjacent → IsNeededLater → Q.causal_node_ask j f i ≡ none
    unfolding Q.causal_ask
    causal_node_in a h = each_in j.nodes (λ k. cond (f.set i k) (Q.causal_ask j f i k) none) (λ s l. when_in (f.set i s) (Q.causal_ask j f i s) (λ t.
        next_in (Q.successor_ask j f i s) (neighbours_ask s next Q.adjacent_ask j f i s) (ask_in _ _ _ _ (h s l (needs_member j (f.set i) i s t)))
        (next_in (neighbours_ask s) (Q.adjacent_ask j f i s)
        (each_in j.nodes (Q.neighbour_ask j f i s) (λ v m. ask_in _ _ _ _ (late_in (j.edge s v) (eqb v i) (Q.later j f i v) false (λ q. by s l t v m q (dec (eqb v i))))))
        (ask_in _ _ _ _ (a s l t)))))
      where
        by : (s : ℕ) → s < j.nodes → T (f.set i s) → (v : ℕ) → v < j.nodes → T (j.edge s v) → T (eqb v i) ⊎ (T (eqb v i) → ⊥) → T (eqb v i) ⊎ (T (Q.later j f i v) ⊎ ⊥)
        by s l t v m q (inl e) = inl e
        by s l t v m q (inr d) = inr (inl (h v m (needs_neighbour j (f.set i) i s v l t q (λ e. d (rw e (eqb_refl i))))))

    module _ (e : Q.causal_node_ask j f i ≡ none) where
      asked : (s : ℕ) → s < j.nodes → T (f.set i s) → (Q.successor_ask j f i s next neighbours_ask s next Q.adjacent_ask j f i s) ≡ none
      unfolding Q.causal_ask
      asked s l t = when_out (f.set i s) (Q.causal_ask j f i s) (each_out j.nodes (λ k. cond (f.set i k) (Q.causal_ask j f i k) none) e s l) t

      after_successor : (s : ℕ) → s < j.nodes → T (f.set i s) → (neighbours_ask s next Q.adjacent_ask j f i s) ≡ none
      after_successor s l t = next_r (Q.successor_ask j f i s) (neighbours_ask s next Q.adjacent_ask j f i s) (asked s l t)

      pub causal_node_adjacent : AllAdjacent
      causal_node_adjacent s l t = ask_out _ _ _ _ (next_r (neighbours_ask s) (Q.adjacent_ask j f i s) (after_successor s l t))

      pub causal_node_later : IsNeededLater
      causal_node_later k l t = go (needs_out j (f.set i) i k t)
        where
          go : T (f.set i k) ⊎ ((s : ℕ) × (s < j.nodes) × T (f.set i s) × T (j.edge s k) × (k ≢ i)) → T (later_than f.layer i k)
          go (inl t) = ask_out _ _ _ _ (next_l (Q.successor_ask j f i k) (neighbours_ask k next Q.adjacent_ask j f i k) (asked k l t))
          go (inr (s, m, t, q, d)) =
              from (late_out (j.edge s k) (eqb k i) (Q.later j f i k) false
              (ask_out _ _ _ _ (each_out j.nodes (Q.neighbour_ask j f i s) (next_l (neighbours_ask s) (Q.adjacent_ask j f i s) (after_successor s m t)) k l)) q)
            where
              from : T (eqb k i) ⊎ (T (Q.later j f i k) ⊎ ⊥) → T (later_than f.layer i k)
              from (inl q) = absurd (d (eqb→eq k i q))
              from (inr (inl q)) = q
              from (inr (inr q)) = absurd q
