-- The verifier of each mode accepts exactly the published conditions with the listed differences.
use Prim.Native.Nat.{ℕ, zero, suc, ◌≤◌, ◌<◌}
use mathlib.Core.Path.{◌≡◌, refl, sym, ap, ◌∙◌}
use mathlib.Core.Bool.{Bool, true, false, not, ◌&&◌, true≢false, false≢true}
use mathlib.Core.Option.{none}
use mathlib.Core.Logic.{◌⊎◌, inl, inr, ◌↔◌, ◌≢◌}
use native.Mathlib.Omega.{arith}
use lib.Dec.{T, eqb, eqb→eq, eqb_refl, ltb→lt, lt→ltb}
use Rattle.nodes.specs.Bit.{◌⊕◌}
use Rattle.nodes.specs.Row.{lowest}
use Rattle.nodes.proofs.Logic.{dec, and_l, and_r, and_in, eqb_no, eqb_yes}
use Rattle.nodes.proofs.Members.{lowest_unique}
use Rattle.flows.specs.Job.{Job, odd, own, is_x_or_y, is_y_or_z, plane_xy, plane_yz, plane_xz, pauli_x, pauli_y, pauli_z}
use Rattle.flows.specs.Conditions.{corrects}
use Rattle.flows.specs.Search.{later_than}
use Rattle.flows.proofs.Conditions.{Corrects, corrects_in, corrects_out, own_inputs, causal_in, causal_inputs, causal_adjacent, needs_member, needs_neighbour, needs_out}
use Rattle.records.specs.JobFile.{mode_causal, mode_planes, mode_pauli}
use Rattle.records.specs.FlowFile.{Flow}
use Rattle.verdicts.specs.Verdict as Q
use Rattle.verdicts.specs.Published.{IsStrictOrder, IsMeasured, IsCausalFlow, MeetsPlaneConditions, MeetsPauliConditions, ByLayer, HasNoOtherInputs, MeetsLayerRule, IsDomain, HasNoInputs, IsPublishedFlow, IsAcceptedFlow, IsCausalAccepted, IsPlanesAccepted, IsPaulisAccepted}
use Rattle.verdicts.specs.Rule.{MeetsFlowRule, MeetsCausalRule}
use Rattle.verdicts.proofs.Rule.{IsReadable, rule_corrects, corrects_rule, verify_rule, verify_causal_rule}

pub by_layer : (layer : ℕ → ℕ) → IsStrictOrder (ByLayer layer)
by_layer layer = record { irreflexive = λ i l. not_below (layer i) l; transitive = λ i k l a b. through (layer l) (layer k) (layer i) b a }
  where
    not_below : (a : ℕ) → a < a → ⊥
    not_below a l = omega arith

    through : (a b c : ℕ) → a < b → b < c → a < c
    through a b c p q = omega arith

-- the modes, and the planes, are 1, 2 and 3
pub one_to_three : (m : ℕ) → 0 < m → m ≤ 3 → (m ≡ 1) ⊎ ((m ≡ 2) ⊎ (m ≡ 3))
one_to_three zero a b = absurd (none_of a)
  where
    none_of : 0 < 0 → ⊥
    none_of a = omega arith
one_to_three (suc zero) a b = inl refl
one_to_three (suc (suc zero)) a b = inr (inl refl)
one_to_three (suc (suc (suc zero))) a b = inr (inr refl)
one_to_three (suc (suc (suc (suc m)))) a b = absurd (large m b)
  where
    large : (m : ℕ) → suc (suc (suc (suc m))) ≤ 3 → ⊥
    large m b = omega arith

-- ---- a node's own measurement, said by measurement
pairs_in : (a b : Bool) → (T a → ⊥) → T b → T (not a && b)
pairs_in true b f t = absurd (f tt)
pairs_in false b f t = t

pairs_out : (a b : Bool) → T (not a && b) → (T a → ⊥) × T b
pairs_out true b t = absurd t
pairs_out false b t = ((λ q. q), t)

xor_in : (a b : Bool) → a ≢ b → T (a ⊕ b)
xor_in true true d = absurd (d refl)
xor_in true false d = tt
xor_in false true d = tt
xor_in false false d = absurd (d refl)

xor_out : (a b : Bool) → T (a ⊕ b) → a ≢ b
xor_out true true t e = t
xor_out true false t e = true≢false e
xor_out false true t e = false≢true e
xor_out false false t e = t

swap_pair : (a b : Bool) → T (a && not b) → T a × (T b → ⊥)
swap_pair true true t = absurd t
swap_pair true false t = (tt, λ q. q)
swap_pair false b t = absurd t

pair_swap : (a b : Bool) → T a → (T b → ⊥) → T (a && not b)
pair_swap true true t f = f tt
pair_swap true false t f = tt
pair_swap false b t f = t

module _ (s o : Bool) where
  own_xy : (m : ℕ) → m ≡ plane_xy → own m s o ≡ not s && o
  unfolding own
  own_xy m e = rw e

  own_yz : (m : ℕ) → m ≡ plane_yz → own m s o ≡ s && not o
  unfolding own
  own_yz m e = rw e

  own_xz : (m : ℕ) → m ≡ plane_xz → own m s o ≡ s && o
  unfolding own
  own_xz m e = rw e

  own_x : (m : ℕ) → m ≡ pauli_x → own m s o ≡ o
  unfolding own
  own_x m e = rw e

  own_y : (m : ℕ) → m ≡ pauli_y → own m s o ≡ s ⊕ o
  unfolding own
  own_y m e = rw e

  own_z : (m : ℕ) → m ≡ pauli_z → own m s o ≡ s
  unfolding own
  own_z m e = rw e

module _ (j : Job) (f : Flow) (r : IsReadable j f) where
  later_lt : (i k : ℕ) → T (later_than f.layer i k) → f.layer k < f.layer i
  later_lt i k t = ltb→lt (f.layer k) (f.layer i) t

  lt_later : (i k : ℕ) → f.layer k < f.layer i → T (later_than f.layer i k)
  lt_later i k l = lt→ltb (f.layer k) (f.layer i) l

  abbrev IsRight : Bool → ℕ → Type 0
  IsRight pauli i = T (corrects j pauli (later_than f.layer i) (f.set i) i)

  rule_inputs : (mode : ℕ) → MeetsFlowRule mode j f → HasNoOtherInputs j f.set
  rule_inputs mode p i k s l t q = own_inputs j (f.set i) i (p.own i s) k l t q

  decide : {A : Type 0} (i k : ℕ) → (k ≢ i → A) → (k ≡ i) ⊎ A
  decide {A = A} i k g = go (dec (eqb k i))
    where
      go : T (eqb k i) ⊎ (T (eqb k i) → ⊥) → (k ≡ i) ⊎ A
      go (inl t) = inl (eqb→eq k i t)
      go (inr d) = inr (g (λ e. d (rw e (eqb_refl i))))

  -- ---- planes
  module _ (planes : (u : ℕ) → IsMeasured j u → j.measured u ≤ plane_xz) where
    plane : (i : ℕ) → IsMeasured j i → (j.measured i ≡ plane_xy) ⊎ ((j.measured i ≡ plane_yz) ⊎ (j.measured i ≡ plane_xz))
    plane i s = one_to_three (j.measured i) (r.measured i s).0 (planes i s)

    planes_corrects : MeetsPlaneConditions j (ByLayer f.layer) f.set → HasNoOtherInputs j f.set → (i : ℕ) → IsMeasured j i → IsRight false i
    planes_corrects p n i s = corrects_in j false (later_than f.layer i) (f.set i) i (record {
      inputs = λ k l t q. n i k s l t q;
      members = λ k l t. decide i k (λ d. inl (lt_later i k (p.members i k s l t d)));
      odds = λ k l t. decide i k (λ d. inl (lt_later i k (p.odds i k s l t d)));
      ys = λ k l t. absurd t;
      owns = own' (plane i s);
    })
      where
        own' : (j.measured i ≡ plane_xy) ⊎ ((j.measured i ≡ plane_yz) ⊎ (j.measured i ≡ plane_xz)) → T (own (j.measured i) (f.set i i) (odd j (f.set i) i))
        own' (inl e) = rw (own_xy (f.set i i) (odd j (f.set i) i) (j.measured i) e) (pairs_in (f.set i i) (odd j (f.set i) i) (p.xy i s e).0 (p.xy i s e).1)
        own' (inr (inl e)) = rw (own_yz (f.set i i) (odd j (f.set i) i) (j.measured i) e) (pair_swap (f.set i i) (odd j (f.set i) i) (p.yz i s e).0 (p.yz i s e).1)
        own' (inr (inr e)) = rw (own_xz (f.set i i) (odd j (f.set i) i) (j.measured i) e) (and_in (f.set i i) (odd j (f.set i) i) (p.xz i s e).0 (p.xz i s e).1)

    corrects_planes : ((i : ℕ) → IsMeasured j i → IsRight false i) → MeetsPlaneConditions j (ByLayer f.layer) f.set
    corrects_planes right = record {
      order = by_layer f.layer;
      members = λ i k s l t d. late i k ((holds i s).members k l t) d;
      odds = λ i k s l t d. late i k ((holds i s).odds k l t) d;
      xy = λ i s e. pairs_out (f.set i i) (odd j (f.set i) i) (rw (own_xy (f.set i i) (odd j (f.set i) i) (j.measured i) e) at (holds i s).owns);
      xz = λ i s e. let t = rw (own_xz (f.set i i) (odd j (f.set i) i) (j.measured i) e) at (holds i s).owns in (and_l (f.set i i) (odd j (f.set i) i) t, and_r (f.set i i) (odd j (f.set i) i) t);
      yz = λ i s e. swap_pair (f.set i i) (odd j (f.set i) i) (rw (own_yz (f.set i i) (odd j (f.set i) i) (j.measured i) e) at (holds i s).owns);
    }
      where
        holds : (i : ℕ) → IsMeasured j i → Corrects j false (later_than f.layer i) (f.set i) i
        holds i s = corrects_out j false (later_than f.layer i) (f.set i) i (right i s)

        late : (i k : ℕ) → (k ≡ i) ⊎ (T (later_than f.layer i k) ⊎ ⊥) → k ≢ i → f.layer k < f.layer i
        late i k (inl e) d = absurd (d e)
        late i k (inr (inl t)) d = later_lt i k t
        late i k (inr (inr x)) d = absurd x

    -- Backens et al.: no question is answered no exactly where the conditions hold, a node's own input excepted
    pub planes_accepts : Q.verify j f mode_planes ≡ none → IsPlanesAccepted j f
    planes_accepts e =
        let p = (verify_rule j f r mode_planes (inl refl)).0 e in record {
          domain = p.domain;
          outputs = p.layers.outputs;
          others = p.layers.others refl;
          inputs = rule_inputs mode_planes p;
          conditions = corrects_planes (rule_corrects j f r mode_planes (inl refl) p);
        }

    pub accepts_planes : IsPlanesAccepted j f → Q.verify j f mode_planes ≡ none
    accepts_planes a =
        (verify_rule j f r mode_planes (inl refl)).1
        (corrects_rule j f r mode_planes (inl refl) a.domain (record { outputs = a.outputs; others = λ q. a.others }) (planes_corrects a.conditions a.inputs))

  -- ---- Paulis
  pauli_cases : (i : ℕ) → IsMeasured j i → (P : ℕ → Type 0) → (j.measured i ≡ plane_xy → P plane_xy) → (j.measured i ≡ plane_yz → P plane_yz) → (j.measured i ≡ plane_xz → P plane_xz)
      → (j.measured i ≡ pauli_x → P pauli_x) → (j.measured i ≡ pauli_y → P pauli_y) → (j.measured i ≡ pauli_z → P pauli_z) → P (j.measured i)
  pauli_cases i s P a b c d e g = go (j.measured i) refl (r.measured i s).0 (r.measured i s).1
    where
      go : (m : ℕ) → j.measured i ≡ m → 0 < m → m < 7 → P m
      go zero q l h = absurd (none_of l)
        where
          none_of : 0 < 0 → ⊥
          none_of a = omega arith
      go (suc zero) q l h = a q
      go (suc (suc zero)) q l h = b q
      go (suc (suc (suc zero))) q l h = c q
      go (suc (suc (suc (suc zero)))) q l h = d q
      go (suc (suc (suc (suc (suc zero))))) q l h = e q
      go (suc (suc (suc (suc (suc (suc zero)))))) q l h = g q
      go (suc (suc (suc (suc (suc (suc (suc m))))))) q l h = absurd (large m h)
        where
          large : (m : ℕ) → suc (suc (suc (suc (suc (suc (suc m)))))) < 7 → ⊥
          large m h = omega arith

  excused : (i k : ℕ) (c : Bool) → ((T c → ⊥) → f.layer k < f.layer i) → T (later_than f.layer i k) ⊎ T c
  excused i k c g = go (dec c)
    where
      go : T c ⊎ (T c → ⊥) → T (later_than f.layer i k) ⊎ T c
      go (inl t) = inr t
      go (inr d) = inl (lt_later i k (g d))

  paulis_corrects : MeetsPauliConditions j (ByLayer f.layer) f.set → HasNoOtherInputs j f.set → (i : ℕ) → IsMeasured j i → IsRight true i
  paulis_corrects p n i s = corrects_in j true (later_than f.layer i) (f.set i) i (record {
    inputs = λ k l t q. n i k s l t q;
    members = λ k l t. decide i k (λ d. excused i k (is_x_or_y (j.measured k)) (p.members i k s l t d));
    odds = λ k l t. decide i k (λ d. excused i k (is_y_or_z (j.measured k)) (p.odds i k s l t d));
    ys = λ k l t. decide i k (λ d. y' k l (eqb→eq (j.measured k) pauli_y t) d (dec (later_than f.layer i k)));
    owns = pauli_cases i s (λ m. T (own m (f.set i i) (odd j (f.set i) i)))
        (λ e. rw (own_xy (f.set i i) (odd j (f.set i) i) plane_xy refl) (pairs_in (f.set i i) (odd j (f.set i) i) (p.xy i s e).0 (p.xy i s e).1))
        (λ e. rw (own_yz (f.set i i) (odd j (f.set i) i) plane_yz refl) (pair_swap (f.set i i) (odd j (f.set i) i) (p.yz i s e).0 (p.yz i s e).1))
        (λ e. rw (own_xz (f.set i i) (odd j (f.set i) i) plane_xz refl) (and_in (f.set i i) (odd j (f.set i) i) (p.xz i s e).0 (p.xz i s e).1))
        (λ e. rw (own_x (f.set i i) (odd j (f.set i) i) pauli_x refl) (p.x i s e))
        (λ e. rw (own_y (f.set i i) (odd j (f.set i) i) pauli_y refl) (xor_in (f.set i i) (odd j (f.set i) i) (p.y i s e)))
        (λ e. rw (own_z (f.set i i) (odd j (f.set i) i) pauli_z refl) (p.z i s e));
  })
    where
      same : (a b : Bool) → (T a ↔ T b) → b ≡ a
      same true true q = refl
      same true false q = absurd (q.0 tt)
      same false true q = absurd (q.1 tt)
      same false false q = refl

      y' : (k : ℕ) → k < j.nodes → j.measured k ≡ pauli_y → k ≢ i → T (later_than f.layer i k) ⊎ (T (later_than f.layer i k) → ⊥) → T (later_than f.layer i k) ⊎ (odd j (f.set i) k ≡ f.set i k)
      y' k l e d (inl t) = inl t
      y' k l e d (inr m) = inr (same (f.set i k) (odd j (f.set i) k) (p.ys i k s l e d (λ q. m (lt_later i k q))))

  corrects_paulis : ((i : ℕ) → IsMeasured j i → IsRight true i) → MeetsPauliConditions j (ByLayer f.layer) f.set
  corrects_paulis right = record {
    order = by_layer f.layer;
    members = λ i k s l t d m. late i k (is_x_or_y (j.measured k)) ((holds i s).members k l t) d m;
    odds = λ i k s l t d m. late i k (is_y_or_z (j.measured k)) ((holds i s).odds k l t) d m;
    ys = λ i k s l e d m. both i k ((holds i s).ys k l (rw e tt)) d m;
    xy = λ i s e. pairs_out (f.set i i) (odd j (f.set i) i) (rw (own_xy (f.set i i) (odd j (f.set i) i) (j.measured i) e) at (holds i s).owns);
    xz = λ i s e. let t = rw (own_xz (f.set i i) (odd j (f.set i) i) (j.measured i) e) at (holds i s).owns in (and_l (f.set i i) (odd j (f.set i) i) t, and_r (f.set i i) (odd j (f.set i) i) t);
    yz = λ i s e. swap_pair (f.set i i) (odd j (f.set i) i) (rw (own_yz (f.set i i) (odd j (f.set i) i) (j.measured i) e) at (holds i s).owns);
    x = λ i s e. rw (own_x (f.set i i) (odd j (f.set i) i) (j.measured i) e) at (holds i s).owns;
    z = λ i s e. rw (own_z (f.set i i) (odd j (f.set i) i) (j.measured i) e) at (holds i s).owns;
    y = λ i s e. xor_out (f.set i i) (odd j (f.set i) i) (rw (own_y (f.set i i) (odd j (f.set i) i) (j.measured i) e) at (holds i s).owns);
  }
    where
      holds : (i : ℕ) → IsMeasured j i → Corrects j true (later_than f.layer i) (f.set i) i
      holds i s = corrects_out j true (later_than f.layer i) (f.set i) i (right i s)

      late : (i k : ℕ) (c : Bool) → (k ≡ i) ⊎ (T (later_than f.layer i k) ⊎ T c) → k ≢ i → (T c → ⊥) → f.layer k < f.layer i
      late i k c (inl e) d m = absurd (d e)
      late i k c (inr (inl t)) d m = later_lt i k t
      late i k c (inr (inr x)) d m = absurd (m x)

      both : (i k : ℕ) → (k ≡ i) ⊎ (T (later_than f.layer i k) ⊎ (odd j (f.set i) k ≡ f.set i k)) → k ≢ i → (f.layer k < f.layer i → ⊥) → (T (f.set i k) ↔ T (odd j (f.set i) k))
      both i k (inl e) d m = absurd (d e)
      both i k (inr (inl t)) d m = absurd (m (later_lt i k t))
      both i k (inr (inr e)) d m = ((λ t. rw e t), λ t. rw e at t)

  -- Simmons: the same for Paulis
  pub paulis_accepts : Q.verify j f mode_pauli ≡ none → IsPaulisAccepted j f
  paulis_accepts e =
      let p = (verify_rule j f r mode_pauli (inr refl)).0 e in record {
        domain = p.domain;
        outputs = p.layers.outputs;
        inputs = rule_inputs mode_pauli p;
        conditions = corrects_paulis (rule_corrects j f r mode_pauli (inr refl) p);
      }

  pub accepts_paulis : IsPaulisAccepted j f → Q.verify j f mode_pauli ≡ none
  accepts_paulis a =
      (verify_rule j f r mode_pauli (inr refl)).1
      (corrects_rule j f r mode_pauli (inr refl) a.domain (record { outputs = a.outputs; others = λ q. absurd (three_two q) }) (paulis_corrects a.conditions a.inputs))
    where
      three_two : mode_pauli ≡ mode_planes → ⊥
      three_two q = omega arith

  -- ---- causal flow, where each entry has one member
  module _ (single : (u : ℕ) → T (f.entry u) → (k : ℕ) × (k < j.nodes) × ((v : ℕ) → f.set u v ≡ eqb v k)) where
    -- f(i)
    abbrev successor : ℕ → ℕ
    successor i = lowest j.nodes (f.set i)

    the_member : (i : ℕ) → T (f.entry i) → (successor i < j.nodes) × ((v : ℕ) → f.set i v ≡ eqb v (successor i))
    the_member i t = go (single i t)
      where
        go : (k : ℕ) × (k < j.nodes) × ((v : ℕ) → f.set i v ≡ eqb v k) → (successor i < j.nodes) × ((v : ℕ) → f.set i v ≡ eqb v (successor i))
        go (k, l, e) =
            let q : successor i ≡ k = lowest_unique j.nodes (f.set i) k (omega arith) (λ v m. e v ∙ eqb_no v k (omega arith)) (λ m. e k ∙ eqb_yes k) in
            (rw q l, λ v. e v ∙ ap (eqb v) (sym q))

    -- Danos and Kashefi: the same for causal flow; here no node's own input is excepted, since f(i) is later than i
    pub causal_accepts : Q.verify j f mode_causal ≡ none → IsCausalAccepted j f
    causal_accepts e = record {
      domain = rule.domain;
      outputs = rule.layers.outputs;
      others = λ i s. omega (arith, f_later i s);
      flow = (
        successor,
        record {
          order = by_layer f.layer;
          node = λ i s. (member i s).0;
          no_input = λ i s t. self f.layer i (successor i) (causal_inputs j (f.set i) i (rule.own i s) (successor i) (member i s).0 (in_set i s) t) (f_later i s);
          adjacent = λ i s. causal_adjacent j (f.set i) i (rule.own i s) (successor i) (member i s).0 (in_set i s);
          successor = f_later;
          neighbours = λ i k s l t d. rule.later i k s l (needs_neighbour j (f.set i) i (successor i) k (member i s).0 (in_set i s) t d);
        },
        λ i k s l. (member i s).1 k,
      );
    }
      where
        rule : MeetsCausalRule j f
        rule = (verify_causal_rule j f r single).0 e

        member : (i : ℕ) → IsMeasured j i → (successor i < j.nodes) × ((v : ℕ) → f.set i v ≡ eqb v (successor i))
        member i s = the_member i ((rule.domain i s.0).1 s.1)

        in_set : (i : ℕ) → IsMeasured j i → T (f.set i (successor i))
        in_set i s = rw ((member i s).1 (successor i)) (eqb_refl (successor i))

        f_later : (i : ℕ) → IsMeasured j i → f.layer (successor i) < f.layer i
        f_later i s = rule.later i (successor i) s (member i s).0 (needs_member j (f.set i) i (successor i) (in_set i s))

        self : (layer : ℕ → ℕ) (i k : ℕ) → k ≡ i → layer k < layer i → ⊥
        self layer i k q l = not_below (layer i) (rw q at l)
          where
            not_below : (a : ℕ) → a < a → ⊥
            not_below a l = omega arith

    pub accepts_causal : IsCausalAccepted j f → Q.verify j f mode_causal ≡ none
    accepts_causal a = (verify_causal_rule j f r single).1 (record {
      domain = a.domain;
      layers = record { outputs = a.outputs; others = λ q. a.others };
      own = λ i s. causal_in j (f.set i) i (λ k l t q. absurd (c.no_input i s (rw (← is_f i k s l t) q))) (λ k l t. rw (is_f i k s l t) (c.adjacent i s));
      later = λ i k s l t. needed i k s l (needs_out j (f.set i) i k t);
    })
      where
        c : IsCausalFlow j (ByLayer f.layer) a.flow.0
        c = a.flow.1

        is_f : (i k : ℕ) → IsMeasured j i → k < j.nodes → T (f.set i k) → k ≡ a.flow.0 i
        is_f i k s l t = eqb→eq k (a.flow.0 i) (rw (a.flow.2 i k s l) at t)

        needed : (i k : ℕ) → IsMeasured j i → k < j.nodes → T (f.set i k) ⊎ ((v : ℕ) × (v < j.nodes) × T (f.set i v) × T (j.edge v k) × (k ≢ i)) → f.layer k < f.layer i
        needed i k s l (inl t) = rw (is_f i k s l t) (c.successor i s)
        needed i k s l (inr (v, m, t, q, d)) = c.neighbours i k s l (rw (is_f i v s m t) at q) d

-- ---- the published flows themselves
module _ (mode : ℕ) (j : Job) (f : Flow) where
  pub published_conditions : IsDomain j f.entry → MeetsLayerRule mode j f.layer → IsPublishedFlow mode j (ByLayer f.layer) f.set → IsAcceptedFlow mode j f
  published_conditions d r (inl (q, c)) = inl (q, record { domain = d; outputs = r.outputs; others = λ u m. omega (arith, c.1.successor u m); flow = c })
  published_conditions d r (inr (inl (q, p))) =
      inr (inl (q, record { domain = d; outputs = r.outputs; others = r.others q; inputs = λ i k s l t h. absurd (p.no_inputs i k s l t h); conditions = p.conditions }))
  published_conditions d r (inr (inr (q, p))) = inr (inr (q, record { domain = d; outputs = r.outputs; inputs = λ i k s l t h. absurd (p.no_inputs i k s l t h); conditions = p.conditions }))

  pub conditions_published : HasNoInputs j f.set → IsAcceptedFlow mode j f → IsDomain j f.entry × MeetsLayerRule mode j f.layer × IsPublishedFlow mode j (ByLayer f.layer) f.set
  conditions_published i (inl (q, a)) = (a.domain, record { outputs = a.outputs; others = λ e. a.others }, inl (q, a.flow))
  conditions_published i (inr (inl (q, a))) = (a.domain, record { outputs = a.outputs; others = λ e. a.others }, inr (inl (q, record { no_inputs = i; conditions = a.conditions })))
  conditions_published i (inr (inr (q, a))) = (a.domain, record { outputs = a.outputs; others = λ e. absurd (omega (arith, q, e)) }, inr (inr (q, record { no_inputs = i; conditions = a.conditions })))
