-- The conditions on one node's set, one by one, and what follows where more nodes are later.
use Prim.Native.Nat.{ℕ, ◌<◌}
use mathlib.Core.Path.{◌≡◌, refl}
use mathlib.Core.Bool.{Bool, true, false, not, ◌&&◌, ◌||◌, true≢false, false≢true}
use mathlib.Core.Logic.{◌⊎◌, inl, inr, ◌≢◌}
use lib.Dec.{T, eqb, eqb→eq, eqb_refl}
use Rattle.nodes.specs.Bit.{◌⊕◌}
use Rattle.nodes.specs.Row.{any_below, all_below}
use Rattle.nodes.proofs.Logic.{dec, and_l, and_r, and_in, or_l, or_r, or_out, not_in, not_out}
use Rattle.nodes.proofs.Row.{any_in, any_out, all_in, all_out, parity_ext}
use Rattle.nodes.proofs.Count.{IsWithin}
use Rattle.flows.specs.Job.{Job, odd, own}
use Rattle.flows.specs.Conditions.{member_excused, odd_excused, y_asked, need, input_holds, own_holds, corrects, causal_need, causal_holds}

-- a test that is asked only where a holds
pub implies_in : (a b : Bool) → (T a → T b) → T (not a || b)
implies_in true b h = h tt
implies_in false b h = tt

pub implies_out : (a b : Bool) → T (not a || b) → T a → T b
implies_out true b t p = t
implies_out false b t p = absurd p

-- a node of the set is no input, or the node itself
input_in : (a b c : Bool) → (T a → T b → T c) → T (not a || not b || c)
input_in true true c f = f tt tt
input_in true false c f = tt
input_in false b c f = tt

input_out : (a b c : Bool) → T (not a || not b || c) → T a → T b → T c
input_out true true c t p q = t
input_out true false c t p q = absurd q
input_out false b c t p q = absurd p

-- ---- what is asked of the set alone
module _ (j : Job) (set : ℕ → Bool) (i : ℕ) where
  abbrev pub HasNoOtherInput : Type 0
  HasNoOtherInput = (k : ℕ) → k < j.nodes → T (set k) → T (j.input k) → k ≡ i

  pub holds_in : (k : ℕ) → (T (set k) → T (j.input k) → k ≡ i) → T (input_holds j set i k)
  holds_in k f = input_in (set k) (j.input k) (eqb k i) (λ a b. rw (f a b) (eqb_refl i))

  pub holds_out : (k : ℕ) → T (input_holds j set i k) → T (set k) → T (j.input k) → k ≡ i
  holds_out k t a b = eqb→eq k i (input_out (set k) (j.input k) (eqb k i) t a b)

  pub own_in : HasNoOtherInput → T (own (j.measured i) (set i) (odd j set i)) → T (own_holds j set i)
  unfolding own_holds
  own_in f t =
      and_in (all_below j.nodes (input_holds j set i)) (own (j.measured i) (set i) (odd j set i))
      (all_in j.nodes (input_holds j set i) (λ k l. holds_in k (f k l))) t

  pub own_inputs : T (own_holds j set i) → HasNoOtherInput
  unfolding own_holds
  own_inputs t k l =
      holds_out k (all_out j.nodes (input_holds j set i) (and_l (all_below j.nodes (input_holds j set i)) (own (j.measured i) (set i) (odd j set i)) t) k l)

  pub own-measured : T (own_holds j set i) → T (own (j.measured i) (set i) (odd j set i))
  unfolding own_holds
  own-measured t = and_r (all_below j.nodes (input_holds j set i)) (own (j.measured i) (set i) (odd j set i)) t

module _ (j : Job) (pauli : Bool) (later set : ℕ → Bool) (i : ℕ) where
  abbrev asked : ℕ → Bool
  asked k = not (need j pauli set i k) || later k

  -- ---- the set alone, and each needed node
  pub corrects_by : T (own_holds j set i) → ((k : ℕ) → k < j.nodes → T (need j pauli set i k) → T (later k)) → T (corrects j pauli later set i)
  unfolding corrects
  corrects_by t h = and_in (own_holds j set i) (all_below j.nodes asked) t (all_in j.nodes asked (λ k l. implies_in (need j pauli set i k) (later k) (h k l)))

  pub corrects_own : T (corrects j pauli later set i) → T (own_holds j set i)
  unfolding corrects
  corrects_own t = and_l (own_holds j set i) (all_below j.nodes asked) t

  pub corrects-later : T (corrects j pauli later set i) → (k : ℕ) → k < j.nodes → T (need j pauli set i k) → T (later k)
  unfolding corrects
  corrects-later t k l = implies_out (need j pauli set i k) (later k) (all_out j.nodes asked (and_r (own_holds j set i) (all_below j.nodes asked) t) k l)

  -- ---- one by one: members and Odd are later or excused, and a Y node that is not later is in both of set and Odd or in neither
  pub record Corrects : Type 0 where
    pub inputs : HasNoOtherInput j set i
    pub members : (k : ℕ) → k < j.nodes → T (set k) → (k ≡ i) ⊎ (T (later k) ⊎ T (member_excused j pauli k))
    pub odds : (k : ℕ) → k < j.nodes → T (odd j set k) → (k ≡ i) ⊎ (T (later k) ⊎ T (odd_excused j pauli k))
    pub ys : (k : ℕ) → k < j.nodes → T (y_asked j pauli k) → (k ≡ i) ⊎ (T (later k) ⊎ (odd j set k ≡ set k))
    pub owns : T (own (j.measured i) (set i) (odd j set i))

  abbrev member : ℕ → Bool
  member k = set k && not (member_excused j pauli k)

  abbrev in_odd : ℕ → Bool
  in_odd k = odd j set k && not (odd_excused j pauli k)

  abbrev in_one : ℕ → Bool
  in_one k = y_asked j pauli k && (set k ⊕ odd j set k)

  pub corrects_in : Corrects → T (corrects j pauli later set i)
  unfolding need
  corrects_in c = corrects_by (own_in j set i c.inputs c.owns) needed
    where
      needed : (k : ℕ) → k < j.nodes → T (not (eqb k i) && (member k || in_odd k || in_one k)) → T (later k)
      needed k l t = by (or_out (member k || in_odd k) (in_one k) (and_r (not (eqb k i)) (member k || in_odd k || in_one k) t))
        where
          other : {A : Type 0} → (k ≡ i) ⊎ A → A
          other (inl e) = absurd (not_out (eqb k i) (and_l (not (eqb k i)) (member k || in_odd k || in_one k) t) (rw e (eqb_refl i)))
          other (inr a) = a

          unless : (a e : Bool) → T (a && not e) → (T a → T (later k) ⊎ T e) → T (later k)
          unless true true t h = absurd t
          unless true false t h = go (h tt)
            where
              go : T (later k) ⊎ ⊥ → T (later k)
              go (inl a) = a
              go (inr x) = absurd x
          unless false e t h = absurd t

          differ : (a b : Bool) → T (a ⊕ b) → T (later k) ⊎ (b ≡ a) → T (later k)
          differ a b t (inl q) = q
          differ true true t (inr e) = absurd t
          differ true false t (inr e) = absurd (false≢true e)
          differ false true t (inr e) = absurd (true≢false e)
          differ false false t (inr e) = absurd t

          either : T (member k) ⊎ T (in_odd k) → T (later k)
          either (inl a) = unless (set k) (member_excused j pauli k) a (λ q. other (c.members k l q))
          either (inr a) = unless (odd j set k) (odd_excused j pauli k) a (λ q. other (c.odds k l q))

          by : T (member k || in_odd k) ⊎ T (in_one k) → T (later k)
          by (inl a) = either (or_out (member k) (in_odd k) a)
          by (inr a) =
              differ (set k) (odd j set k) (and_r (y_asked j pauli k) (set k ⊕ odd j set k) a)
              (other (c.ys k l (and_l (y_asked j pauli k) (set k ⊕ odd j set k) a)))

  pub corrects_out : T (corrects j pauli later set i) → Corrects
  unfolding need
  corrects_out t = record {
    inputs = own_inputs j set i (corrects_own t);
    members = λ k l a. excused k l (member_excused j pauli k) (λ e. or_l (member k || in_odd k) (in_one k) (or_l (member k) (in_odd k) (and_in (set k) (not (member_excused j pauli k)) a e)));
    odds = λ k l a. excused k l (odd_excused j pauli k) (λ e. or_l (member k || in_odd k) (in_one k) (or_r (member k) (in_odd k) (and_in (odd j set k) (not (odd_excused j pauli k)) a e)));
    ys = λ k l a. same k l (set k) (odd j set k) (λ e. or_r (member k || in_odd k) (in_one k) (and_in (y_asked j pauli k) (set k ⊕ odd j set k) a e));
    owns = own-measured j set i (corrects_own t);
  }
    where
      this : (k : ℕ) → k < j.nodes → (T (eqb k i) → ⊥) → T (member k || in_odd k || in_one k) → T (later k)
      this k l d a = corrects-later t k l (and_in (not (eqb k i)) (member k || in_odd k || in_one k) (not_in (eqb k i) d) a)

      excused : (k : ℕ) → k < j.nodes → (e : Bool) → (T (not e) → T (member k || in_odd k || in_one k)) → (k ≡ i) ⊎ (T (later k) ⊎ T e)
      excused k l e g = go (dec (eqb k i)) (dec e)
        where
          go : T (eqb k i) ⊎ (T (eqb k i) → ⊥) → T e ⊎ (T e → ⊥) → (k ≡ i) ⊎ (T (later k) ⊎ T e)
          go (inl q) d = inl (eqb→eq k i q)
          go (inr q) (inl a) = inr (inr a)
          go (inr q) (inr a) = inr (inl (this k l q (g (not_in e a))))

      same : (k : ℕ) → k < j.nodes → (a b : Bool) → (T (a ⊕ b) → T (member k || in_odd k || in_one k)) → (k ≡ i) ⊎ (T (later k) ⊎ (b ≡ a))
      same k l a b g = go (dec (eqb k i)) a b g
        where
          go : T (eqb k i) ⊎ (T (eqb k i) → ⊥) → (a b : Bool) → (T (a ⊕ b) → T (member k || in_odd k || in_one k)) → (k ≡ i) ⊎ (T (later k) ⊎ (b ≡ a))
          go (inl q) a b g = inl (eqb→eq k i q)
          go (inr q) true true g = inr (inr refl)
          go (inr q) true false g = inr (inl (this k l q (g tt)))
          go (inr q) false true g = inr (inl (this k l q (g tt)))
          go (inr q) false false g = inr (inr refl)

-- ---- the conditions stay right where more nodes are later
pub more_later : (j : Job) (pauli : Bool) (s t : ℕ → Bool) → IsWithin j.nodes s t → (set : ℕ → Bool) (i : ℕ) → T (corrects j pauli s set i) → T (corrects j pauli t set i)
more_later j pauli s t w set i c = corrects_by j pauli t set i (corrects_own j pauli s set i c) (λ k l q. w k l (corrects-later j pauli s set i c k l q))

-- ---- they depend on the nodes below n only
module _ (j : Job) (set set' : ℕ → Bool) (same : (k : ℕ) → k < j.nodes → set k ≡ set' k) where
  pub odd_ext : (v : ℕ) → odd j set v ≡ odd j set' v
  odd_ext v = parity_ext j.nodes (λ k. j.edge k v && set k) (λ k. j.edge k v && set' k) (λ k m. rw (same k m))

  pub own_ext : (i : ℕ) → i < j.nodes → T (own_holds j set i) → T (own_holds j set' i)
  own_ext i l t = own_in j set' i (λ k m a b. own_inputs j set i t k m (rw (same k m) a) b) (rw (odd_ext i, same i l) at (own-measured j set i t))

  pub need_ext : (pauli : Bool) (i k : ℕ) → k < j.nodes → need j pauli set i k ≡ need j pauli set' i k
  unfolding need
  need_ext pauli i k l = rw (odd_ext k, same k l)

  pub corrects_ext : (pauli : Bool) (later later' : ℕ → Bool) → ((k : ℕ) → k < j.nodes → later k ≡ later' k) → (i : ℕ) → i < j.nodes → T (corrects j pauli later set i) → T (corrects j pauli later' set' i)
  corrects_ext pauli later later' e i l c =
      corrects_by j pauli later' set' i (own_ext i l (corrects_own j pauli later set i c))
      (λ k m q. rw (e k m) at (corrects-later j pauli later set i c k m (rw (need_ext pauli i k m) q)))

-- ---- mode 1
module _ (j : Job) (set : ℕ → Bool) (i : ℕ) where
  abbrev holds_at : ℕ → Bool
  holds_at s = input_holds j set i s && (not (set s) || j.edge s i)

  abbrev meets : ℕ → ℕ → Bool
  meets k s = set s && j.edge s k

  pub causal_in : HasNoOtherInput j set i → ((s : ℕ) → s < j.nodes → T (set s) → T (j.edge s i)) → T (causal_holds j set i)
  unfolding causal_holds
  causal_in f g = all_in j.nodes holds_at (λ s l. and_in (input_holds j set i s) (not (set s) || j.edge s i) (holds_in j set i s (f s l)) (implies_in (set s) (j.edge s i) (g s l)))

  pub causal_inputs : T (causal_holds j set i) → HasNoOtherInput j set i
  unfolding causal_holds
  causal_inputs t s l = holds_out j set i s (and_l (input_holds j set i s) (not (set s) || j.edge s i) (all_out j.nodes holds_at t s l))

  pub causal_adjacent : T (causal_holds j set i) → (s : ℕ) → s < j.nodes → T (set s) → T (j.edge s i)
  unfolding causal_holds
  causal_adjacent t s l = implies_out (set s) (j.edge s i) (and_r (input_holds j set i s) (not (set s) || j.edge s i) (all_out j.nodes holds_at t s l))

  -- which nodes are needed: f(i), and a neighbour of it other than i
  pub needs_member : (k : ℕ) → T (set k) → T (causal_need j set i k)
  unfolding causal_need
  needs_member k t = or_l (set k) (not (eqb k i) && any_below j.nodes (meets k)) t

  pub needs_neighbour : (s k : ℕ) → s < j.nodes → T (set s) → T (j.edge s k) → k ≢ i → T (causal_need j set i k)
  unfolding causal_need
  needs_neighbour s k l t e d =
      or_r (set k) (not (eqb k i) && any_below j.nodes (meets k))
      (and_in (not (eqb k i)) (any_below j.nodes (meets k)) (not_in (eqb k i) (λ q. d (eqb→eq k i q))) (any_in j.nodes (meets k) s l (and_in (set s) (j.edge s k) t e)))

  pub needs_out : (k : ℕ) → T (causal_need j set i k) → T (set k) ⊎ ((s : ℕ) × (s < j.nodes) × T (set s) × T (j.edge s k) × (k ≢ i))
  unfolding causal_need
  needs_out k t = go (or_out (set k) (not (eqb k i) && any_below j.nodes (meets k)) t)
    where
      go : T (set k) ⊎ T (not (eqb k i) && any_below j.nodes (meets k)) → T (set k) ⊎ ((s : ℕ) × (s < j.nodes) × T (set s) × T (j.edge s k) × (k ≢ i))
      go (inl a) = inl a
      go (inr a) =
          let (s, l, b) = any_out j.nodes (meets k) (and_r (not (eqb k i)) (any_below j.nodes (meets k)) a) in
          inr (s, l, and_l (set s) (j.edge s k) b, and_r (set s) (j.edge s k) b, λ e. not_out (eqb k i) (and_l (not (eqb k i)) (any_below j.nodes (meets k)) a) (rw e (eqb_refl i)))
