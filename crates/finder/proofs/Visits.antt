-- A round visits its nodes one after the other, and the rounds follow one another: what stands in the search's set and in
-- the lent buffers is at each point the progress of the definition, of the nodes below n.
use Prim.Native.Nat.{ℕ, suc, ◌+◌, ◌≤◌, ◌<◌, ◌*◌}
use mathlib.Core.Path.{◌≡◌, refl, sym, ap, ap₂, ◌∙◌, subst, fun_ext}
use mathlib.Core.Bool.{Bool, true, false, cond, not, ◌&&◌, ◌||◌}
use mathlib.Core.Logic.{◌⊎◌, inl, inr}
use mathlib.Core.Option.{none, Option, some}
use native.Mathlib.Omega.{arith}
use lib.Dec.{T, eqb, leb, ltb, eqb→eq, le→leb}
use Rattle.nodes.specs.Bit.{◌⊕◌}
use Rattle.nodes.specs.Row.{all_below, count}
use Rattle.nodes.specs.NodeSet.{capacity, highest, member, words_of}
use Rattle.nodes.proofs.Logic.{is_true, is_false, from_true, from_false, both_ways, dec, and_l, and_r, and_in, and_none, and_all, or_l, or_r, or_false, not_in, not_out, eqb_yes, lt_or_ge, ⊕_eq, eqb_no}
use Rattle.nodes.proofs.Row.{any_in, any_none, all_in, all_out, ltb_yes, ltb_no}
use Rattle.nodes.proofs.Count.{IsWithin, count-le, grows}
use Rattle.nodes.proofs.Remove.{removed}
use Rattle.nodes.specs.Options.{is_some}
use Rattle.flows.specs.Search.{Progress, no_node, or_none, start, solved_now, round, solves_some, rounds, first_round, search_from}
use Rattle.finder.specs.Visits.{unsolved, cut_to, placed, visited, progress_in}
use Rattle.flows.proofs.Search.{fresh_open, rounds_step, rounds_idle, rounds_enough}
use Rattle.flows.proofs.Progress.{SameProgress, progress_sym, progress_trans, round_agree, rounds_agree}
use mathlib.Core.List.{List}
use native.Mathlib.Decide.{ℕ_discrete}
use lib.ListN.{length, get_or, set}
use lib.Seq.{get_or-set_same, get_or-set_other}
use Rattle.nodes.specs.SetTable.{table_words, set_words, set_at, put_set}
use Rattle.nodes.proofs.SetTable.{put_same, put_other}

pub progress_eq : (p q : Progress) → ((u : ℕ) → p.solved u ≡ q.solved u) → ((u : ℕ) → p.layer u ≡ q.layer u) → ((u : ℕ) → p.set u ≡ q.set u) → p ≡ q
progress_eq p q a b c =
    ap {B = Progress} (λ (f : ℕ → Bool). record { solved = f; layer = p.layer; set = p.set }) (fun_ext a)
    ∙ ap {B = Progress} (λ (f : ℕ → ℕ). record { solved = q.solved; layer = f; set = p.set }) (fun_ext b)
    ∙ ap {B = Progress} (λ (f : ℕ → ℕ → Bool). record { solved = q.solved; layer = q.layer; set = f }) (fun_ext c)

-- ---- a node is placed
module _ (solved : List ℕ) (layers sets : List ℕ) (u r : ℕ) where
  pub place_none : progress_in solved layers sets ≡ placed u r none (progress_in solved layers sets)
  place_none =
      progress_eq (progress_in solved layers sets) (placed u r none (progress_in solved layers sets))
      (λ v. sym (ap (λ (b : Bool). member solved v || b) (and_none (eqb v u)) ∙ or_false (member solved v)))
      (λ v. sym (ap (λ (b : Bool). cond b r (get_or layers v 0)) (and_none (eqb v u))))
      (λ v. sym (ap (λ (b : Bool). cond b (λ (k : ℕ). false) (set_at sets v)) (and_none (eqb v u))))

  module _ (h : u < capacity) (hl : length layers ≡ capacity) (hs : length sets ≡ table_words) (s next : List ℕ) (after : List ℕ)
      (e : member next ≡ (λ v. member solved v || eqb v u)) (f : after ≡ put_set sets u (words_of s)) where
    solved_place : (v : ℕ) → member next v ≡ member solved v || (eqb v u && true)
    solved_place v = ap (λ (g : ℕ → Bool). g v) e ∙ ap (λ (b : Bool). member solved v || b) (sym (and_all (eqb v u)))

    layer_place : (v : ℕ) → Dec (v ≡ u) → get_or (set layers u r) v 0 ≡ cond (eqb v u && true) r (get_or layers v 0)
    layer_place v (yes q) = rw (q, eqb_yes u) (get_or-set_same layers u r 0 (omega arith))
    layer_place v (no q) = rw (eqb_no v u q) (get_or-set_other layers u v r 0 q)

    fits : set_words * u + set_words ≤ length sets
    fits = omega arith

    set_place : (v : ℕ) → Dec (v ≡ u) → set_at after v ≡ cond (eqb v u && true) (member s) (set_at sets v)
    set_place v (yes q) = rw (q, eqb_yes u, f) (put_same sets u (words_of s) refl fits)
    set_place v (no q) = rw (eqb_no v u q, f) (put_other sets u (words_of s) refl v (λ x. q (sym x)))

    pub place_some : progress_in next (set layers u r) after ≡ placed u r (some (member s)) (progress_in solved layers sets)
    place_some =
        progress_eq (progress_in next (set layers u r) after) (placed u r (some (member s)) (progress_in solved layers sets))
        solved_place (λ v. layer_place v (ℕ_discrete v u)) (λ v. set_place v (ℕ_discrete v u))

-- ---- the nodes below n alone
pub cut_ext : (n : ℕ) (s t : Progress) → SameProgress n s t → cut_to n s ≡ cut_to n t
cut_ext n s t h = progress_eq (cut_to n s) (cut_to n t) (λ u. solved' u (lt_or_ge u n)) (λ u. layer' u (lt_or_ge u n)) (λ u. set' u (lt_or_ge u n))
  where
    solved' : (u : ℕ) → (u < n) ⊎ (n ≤ u) → ltb u n && s.solved u ≡ ltb u n && t.solved u
    solved' u (inl l) = rw (h.solved u l)
    solved' u (inr l) = rw (ltb_no u n l)

    layer' : (u : ℕ) → (u < n) ⊎ (n ≤ u) → cond (ltb u n) (s.layer u) 0 ≡ cond (ltb u n) (t.layer u) 0
    layer' u (inl l) = rw (h.layer u l)
    layer' u (inr l) = rw (ltb_no u n l)

    set' : (u : ℕ) → (u < n) ⊎ (n ≤ u) → ◌≡◌ {A = ℕ → Bool} (λ v. ltb u n && s.set u v) (λ v. ltb u n && t.set u v)
    set' u (inl l) = ap {B = ℕ → Bool} (λ (f : ℕ → Bool) (v : ℕ). ltb u n && f v) (h.set u l)
    set' u (inr l) = fun_ext (λ v. rw (ltb_no u n l))

pub cut_below : (n : ℕ) (t : Progress) → SameProgress n (cut_to n t) t
cut_below n t = record {
  solved = λ u l. ap (λ (b : Bool). b && t.solved u) (ltb_yes u n l);
  layer = λ u l. ap (λ (b : Bool). cond b (t.layer u) 0) (ltb_yes u n l);
  set = λ u l. ap {B = ℕ → Bool} (λ (b : Bool) (v : ℕ). b && t.set u v) (ltb_yes u n l);
}

pub cut_same : (n : ℕ) (s t : Progress) → s ≡ cut_to n t → SameProgress n s t
cut_same n s t e = rw e (cut_below n t)

progress_same : {n : ℕ} {s t : Progress} → s ≡ t → SameProgress n s t
progress_same {s = s} e = record { solved = λ u l. ap (λ (p : Progress). p.solved u) e; layer = λ u l. ap (λ (p : Progress). p.layer u) e; set = λ u l. ap (λ (p : Progress). p.set u) e }

-- what is cut stays as it is
pub cut_again : (n : ℕ) (s t : Progress) → s ≡ cut_to n t → s ≡ cut_to n s
cut_again n s t e = e ∙ cut_ext n t s (progress_sym (cut_same n s t e))

-- ---- one node after the other
module _ (try : ℕ → Option (ℕ → Bool)) (r : ℕ) (p : Progress) where
  pub visited_start : (visit : ℕ → Bool) → p ≡ visited (λ u. visit u && not (visit u)) try r p
  visited_start visit = progress_eq p (visited (λ u. visit u && not (visit u)) try r p) (λ u. sym (rw (never' (visit u)) (or_false (p.solved u)))) (λ u. rw (never' (visit u))) (λ u. rw (never' (visit u)))
    where
      never' : (b : Bool) → b && not b ≡ false
      never' true = refl
      never' false = refl

  -- the next node is u
  module _ (visit left next : ℕ → Bool) (u : ℕ) (a : T (visit u)) (l : T (left u)) (e : next ≡ removed left u) where
    abbrev old : ℕ → Bool
    old v = (visit v && not (left v)) && is_some (try v)

    abbrev new : ℕ → Bool
    new v = (visit v && not (next v)) && is_some (try v)

    abbrev here : ℕ → Bool
    here v = eqb v u && is_some (try u)

    -- u is the node that is placed, or another
    abbrev Marks : ℕ → Type 0
    Marks v = ((old v ≡ false) × (here v ≡ new v) × (or_none (try u) ≡ or_none (try v))) ⊎ ((here v ≡ false) × (old v ≡ new v))

    marks : (v : ℕ) → T (eqb v u) ⊎ (T (eqb v u) → ⊥) → Marks v
    marks v (inl t) = let q : v ≡ u = eqb→eq v u t in inl (rw (q, is_true (visit u) a, is_true (left u) l), rw (e, q, is_true (visit u) a, is_true (left u) l, eqb_yes u), rw q)
    marks v (inr f) = inr (rw (is_false (eqb v u) f), rw (e, is_false (eqb v u) f, and_all (left v)))

    solved_step : (v : ℕ) → Marks v → (p.solved v || old v) || here v ≡ p.solved v || new v
    solved_step v (inl (x, y, z)) = rw (x, y, or_false (p.solved v))
    solved_step v (inr (x, y)) = rw (x, y) (or_false (p.solved v || new v))

    layer_step : (v : ℕ) → Marks v → cond (here v) r (cond (old v) r (p.layer v)) ≡ cond (new v) r (p.layer v)
    layer_step v (inl (x, y, z)) = rw (x, y)
    layer_step v (inr (x, y)) = rw (x, y)

    set_step : (v : ℕ) → Marks v → cond (here v) (or_none (try u)) (cond (old v) (or_none (try v)) (p.set v)) ≡ cond (new v) (or_none (try v)) (p.set v)
    set_step v (inl (x, y, z)) = rw (x, y, z)
    set_step v (inr (x, y)) = rw (x, y)

    pub visited_step : placed u r (try u) (visited (λ v. visit v && not (left v)) try r p) ≡ visited (λ v. visit v && not (next v)) try r p
    visited_step =
        progress_eq (placed u r (try u) (visited (λ v. visit v && not (left v)) try r p)) (visited (λ v. visit v && not (next v)) try r p)
        (λ v. solved_step v (marks v (dec (eqb v u)))) (λ v. layer_step v (marks v (dec (eqb v u)))) (λ v. set_step v (marks v (dec (eqb v u))))

  -- the same of what stands in the buffers
  pub visited_more : (visit left next : ℕ → Bool) (u : ℕ) (t : Option (ℕ → Bool)) (here after : Progress) → here ≡ visited (λ v. visit v && not (left v)) try r p
      → after ≡ placed u r t here → t ≡ try u → T (visit u) → T (left u) → next ≡ removed left u → after ≡ visited (λ v. visit v && not (next v)) try r p
  visited_more visit left next u t here after e f g a l q =
      f ∙ ap₂ (λ (x : Option (ℕ → Bool)) (y : Progress). placed u r x y) g e ∙ visited_step visit left next u a l q

  -- none is left
  pub visited_end : (visit left : ℕ → Bool) → ((v : ℕ) → T (left v) → ⊥) → visited (λ u. visit u && not (left u)) try r p ≡ visited visit try r p
  visited_end visit left f = ap (λ (g : ℕ → Bool). visited g try r p) (fun_ext (λ u. ap (λ (b : Bool). visit u && not b) (is_false (left u) (f u)) ∙ and_all (visit u)))

  -- those that are passed over would get nothing
  pub visited_fewer : (visit fewer : ℕ → Bool) → ((u : ℕ) → T (fewer u) → T (visit u)) → ((u : ℕ) → T (visit u) → (T (fewer u) → ⊥) → try u ≡ none) → visited fewer try r p ≡ visited visit try r p
  visited_fewer visit fewer h f =
      progress_eq (visited fewer try r p) (visited visit try r p) (λ u. ap (λ (b : Bool). p.solved u || b) (same u)) (λ u. ap (λ (b : Bool). cond b r (p.layer u)) (same u))
      (λ u. ap (λ (b : Bool). cond b (or_none (try u)) (p.set u)) (same u))
    where
      same : (u : ℕ) → fewer u && is_some (try u) ≡ visit u && is_some (try u)
      same u = by (dec (visit u)) (dec (fewer u))
        where
          by : T (visit u) ⊎ (T (visit u) → ⊥) → T (fewer u) ⊎ (T (fewer u) → ⊥) → fewer u && is_some (try u) ≡ visit u && is_some (try u)
          by (inl a) (inl b) = rw (is_true (visit u) a, is_true (fewer u) b)
          by (inl a) (inr b) = rw (is_false (fewer u) b, f u a b) (sym (and_none (visit u)))
          by (inr a) (inl b) = absurd (a (h u b))
          by (inr a) (inr b) = rw (is_false (visit u) a, is_false (fewer u) b)

  -- all unsolved nodes were visited: a round
  pub visited-round : (n : ℕ) (visit : ℕ → Bool) (full : ℕ → Option (ℕ → Bool)) → n ≤ capacity → p ≡ cut_to n p
      → visit ≡ (λ u. (ltb u n && leb u highest) && not (p.solved u))
      → ((u : ℕ) → u < n → (T (p.solved u) → ⊥) → try u ≡ full u)
      → visited visit try r p ≡ cut_to n (round full r p)
  visited-round n visit full h cut e same = progress_eq (visited visit try r p) (cut_to n (round full r p)) (λ u. solved' u (lt_or_ge u n)) (λ u. layer' u (lt_or_ge u n)) (λ u. set' u (lt_or_ge u n))
    where
      inside : (u : ℕ) → u < n → visit u && is_some (try u) ≡ solved_now full p u
      inside u l = rw (e, ltb_yes u n l, is_true (leb u highest) (le→leb u highest (omega arith))) (by (dec (p.solved u)))
        where
          by : T (p.solved u) ⊎ (T (p.solved u) → ⊥) → not (p.solved u) && is_some (try u) ≡ not (p.solved u) && is_some (full u)
          by (inl t) = rw (is_true (p.solved u) t)
          by (inr f) = rw (same u l f)

      outside : (u : ℕ) → n ≤ u → visit u ≡ false
      outside u l = rw (e, ltb_no u n l)

      solved' : (u : ℕ) → (u < n) ⊎ (n ≤ u) → p.solved u || (visit u && is_some (try u)) ≡ ltb u n && (p.solved u || solved_now full p u)
      solved' u (inl l) = ap (λ (b : Bool). p.solved u || b) (inside u l) ∙ sym (ap (λ (b : Bool). b && (p.solved u || solved_now full p u)) (ltb_yes u n l))
      solved' u (inr l) =
          ap (λ (b : Bool). p.solved u || (b && is_some (try u))) (outside u l) ∙ or_false (p.solved u) ∙ ap (λ (q : Progress). q.solved u) cut
          ∙ ap (λ (b : Bool). b && p.solved u) (ltb_no u n l) ∙ sym (ap (λ (b : Bool). b && (p.solved u || solved_now full p u)) (ltb_no u n l))

      layer' : (u : ℕ) → (u < n) ⊎ (n ≤ u) → cond (visit u && is_some (try u)) r (p.layer u) ≡ cond (ltb u n) (cond (solved_now full p u) r (p.layer u)) 0
      layer' u (inl l) = ap (λ (b : Bool). cond b r (p.layer u)) (inside u l) ∙ sym (ap (λ (b : Bool). cond b (cond (solved_now full p u) r (p.layer u)) 0) (ltb_yes u n l))
      layer' u (inr l) =
          ap (λ (b : Bool). cond (b && is_some (try u)) r (p.layer u)) (outside u l) ∙ ap (λ (q : Progress). q.layer u) cut
          ∙ ap (λ (b : Bool). cond b (p.layer u) 0) (ltb_no u n l) ∙ sym (ap (λ (b : Bool). cond b (cond (solved_now full p u) r (p.layer u)) 0) (ltb_no u n l))

      given : (u : ℕ) → u < n → (b : Bool) → b ≡ solved_now full p u → cond b (or_none (try u)) (p.set u) ≡ cond b (or_none (full u)) (p.set u)
      given u l false q = refl
      given u l true q = ap or_none (same u l (not_out (p.solved u) (and_l (not (p.solved u)) (is_some (full u)) (rw (← q) tt))))

      set' : (u : ℕ) → (u < n) ⊎ (n ≤ u) → cond (visit u && is_some (try u)) (or_none (try u)) (p.set u) ≡ (λ v. ltb u n && cond (solved_now full p u) (or_none (full u)) (p.set u) v)
      set' u (inl l) =
          given u l (visit u && is_some (try u)) (inside u l) ∙ ap (λ (b : Bool). cond b (or_none (full u)) (p.set u)) (inside u l)
          ∙ sym (ap {B = ℕ → Bool} (λ (b : Bool) (v : ℕ). b && cond (solved_now full p u) (or_none (full u)) (p.set u) v) (ltb_yes u n l))
      set' u (inr l) =
          ap (λ (b : Bool). cond (b && is_some (try u)) (or_none (try u)) (p.set u)) (outside u l) ∙ ap (λ (q : Progress). q.set u) cut
          ∙ ap {B = ℕ → Bool} (λ (b : Bool) (v : ℕ). b && p.set u v) (ltb_no u n l)
          ∙ sym (ap {B = ℕ → Bool} (λ (b : Bool) (v : ℕ). b && cond (solved_now full p u) (or_none (full u)) (p.set u) v) (ltb_no u n l))

-- ---- one round after the other
module _ (try : (ℕ → Bool) → ℕ → Option (ℕ → Bool)) (n : ℕ) where
  -- what the rounds from r on make of s
  abbrev onward : ℕ → Progress → Progress
  onward = rounds try n n

  -- Before round r, with s found so far, the search is on its way to w: this round, where the nodes `later` are later than all of it,
  -- and those behind it lead there. They are no more than the nodes that can still become later.
  pub record IsPending (w : Progress) (r : ℕ) (later : ℕ → Bool) (s : Progress) : Type 0 where
    pub cut : s ≡ cut_to n s
    pub sub : (u : ℕ) → T (later u) → T (s.solved u)
    pub all : r + count n (λ u. not (later u)) ≤ n + 1
    pub leads : SameProgress n (onward (r + 1) (round (try later) r s)) w

-- a try asks of the later nodes those below n only
module _ (try : (ℕ → Bool) → ℕ → Option (ℕ → Bool)) (n : ℕ)
    (ext : (later later' : ℕ → Bool) → ((v : ℕ) → v < n → later v ≡ later' v) → (u : ℕ) → try later u ≡ try later' u) where
  onward_agree : (r : ℕ) (s t : Progress) → SameProgress n s t → SameProgress n (onward try n r s) (onward try n r t)
  onward_agree = rounds_agree try n (λ x y q u l. ext x y q u) n

  -- the first of the rounds, which may be idle
  onward_step : (r : ℕ) (s : Progress) → SameProgress n (onward try n (r + 1) (round (try s.solved) r s)) (onward try n r s)
  onward_step r s = by (rounds_step try n n r s)
    where
      next : Progress
      next = round (try s.solved) r s

      by : ((solves_some try n s ≡ false) × (rounds try n (suc n) r s ≡ s)) ⊎ (T (solves_some try n s) × (rounds try n (suc n) r s ≡ onward try n (r + 1) next))
          → SameProgress n (onward try n (r + 1) next) (onward try n r s)
      by (inl (e, p)) =
          progress_trans (onward_agree (r + 1) next s (record { solved = λ u l. rw (none' u l) (or_false (s.solved u)); layer = λ u l. rw (none' u l); set = λ u l. rw (none' u l) }))
          (progress_same (rounds_idle try n n (r + 1) s e ∙ sym (rounds_idle try n n r s e)))
        where
          none' : (u : ℕ) → u < n → solved_now (try s.solved) s u ≡ false
          none' u l = is_false (solved_now (try s.solved) s u) (λ a. from_false (solves_some try n s) e (any_in n (solved_now (try s.solved) s) u l a))
      by (inr (a, p)) =
          let h = count-le n (λ u. not (s.solved u)) in progress_same (sym p ∙ rounds_enough try n (suc n) n r s (omega arith) h)

  -- what round r has made of s
  module _ (w : Progress) (r : ℕ) (later : ℕ → Bool) (s t : Progress) (g : IsPending try n w r later s) (e : t ≡ cut_to n (round (try later) r s)) where
    abbrev unchanged : Bool
    unchanged = all_below capacity (λ u. not (t.solved u ⊕ later u))

    made : SameProgress n t (round (try later) r s)
    made = cut_same n t (round (try later) r s) e

    led : SameProgress n (onward try n (r + 1) t) w
    led = progress_trans (onward_agree (r + 1) t (round (try later) r s) made) g.leads

    kept : (u : ℕ) → u < n → T (s.solved u) → T (t.solved u)
    kept u l a = rw (made.solved u l) (or_l (s.solved u) (solved_now (try later) s u) a)

    -- no more nodes are later: the search is at its end
    pub pending_end : n ≤ capacity → unchanged ≡ true → t ≡ cut_to n w
    pending_end h q = cut_again n t (round (try later) r s) e ∙ cut_ext n t w (rw (rounds_idle try n n (r + 1) t quiet) at led)
      where
        as_before : (u : ℕ) → u < n → t.solved u ≡ later u
        as_before u l =
            ⊕_eq (t.solved u) (later u)
            (is_false (t.solved u ⊕ later u)
            (not_out (t.solved u ⊕ later u) (all_out capacity (λ u. not (t.solved u ⊕ later u)) (from_true unchanged q) u (omega arith))))

        quiet : solves_some try n t ≡ false
        quiet = any_none n (solved_now (try t.solved) t) (λ u l a. fresh_open (try t.solved) t u (now_solved u l a (dec (s.solved u))) a)
          where
            now_solved : (u : ℕ) → u < n → T (solved_now (try t.solved) t u) → T (s.solved u) ⊎ (T (s.solved u) → ⊥) → T (t.solved u)
            now_solved u l a (inl b) = kept u l b
            now_solved u l a (inr f) =
                rw (made.solved u l)
                (or_r (s.solved u) (solved_now (try later) s u)
                (and_in (not (s.solved u)) (is_some (try later u)) (not_in (s.solved u) f)
                (rw (ext t.solved later as_before u) at (and_r (not (t.solved u)) (is_some (try t.solved u)) a))))

    -- more nodes are later
    module _ (q : unchanged ≡ false) where
      pub pending_less : count n (λ u. not (t.solved u)) < count n (λ u. not (later u))
      pending_less = by (grows n (λ u. not (t.solved u)) (λ u. not (later u)) (λ u l a. not_in (later u) (λ b. not_out (t.solved u) a (kept u l (g.sub u b)))))
        where
          outside : (p : Progress) → p ≡ cut_to n p → (u : ℕ) → n ≤ u → p.solved u ≡ false
          outside p c u l = ap (λ (x : Progress). x.solved u) c ∙ ap (λ (b : Bool). b && p.solved u) (ltb_no u n l)

          by : (count n (λ u. not (t.solved u)) < count n (λ u. not (later u))) ⊎ ((count n (λ u. not (t.solved u)) ≡ count n (λ u. not (later u))) × IsWithin n (λ u. not (later u)) (λ u. not (t.solved u)))
              → count n (λ u. not (t.solved u)) < count n (λ u. not (later u))
          by (inl a) = a
          by (inr (a, b)) = absurd (both_ways unchanged (is_true unchanged (all_in capacity (λ u. not (t.solved u ⊕ later u)) (λ u l. same u (lt_or_ge u n) (dec (later u))))) q)
            where
              same : (u : ℕ) → (u < n) ⊎ (n ≤ u) → T (later u) ⊎ (T (later u) → ⊥) → T (not (t.solved u ⊕ later u))
              same u (inl l) (inl d) = rw (is_true (later u) d, is_true (t.solved u) (kept u l (g.sub u d))) tt
              same u (inl l) (inr d) = rw (is_false (later u) d, is_false (t.solved u) (not_out (t.solved u) (b u l (not_in (later u) d)))) tt
              same u (inr l) (inl d) = absurd (from_false (s.solved u) (outside s g.cut u l) (g.sub u d))
              same u (inr l) (inr d) = rw (is_false (later u) d, outside t (cut_again n t (round (try later) r s) e) u l) tt

      pub pending_next : IsPending try n w (r + 1) t.solved t
      pending_next = record {
        cut = cut_again n t (round (try later) r s) e;
        sub = λ u a. a;
        all = omega (arith, pending_less, g.all);
        leads = progress_trans (onward_step (r + 1) t) led;
      }

  -- the search begins with round 0, where no node is later, or with round 1
  pub pending_start : (from_zero : Bool) (output later : ℕ → Bool) (s : Progress) → s ≡ cut_to n (start output) → later ≡ cond from_zero no_node s.solved
      → IsPending try n (search_from from_zero try n output) (first_round from_zero) later s
  pending_start true output later s e f = record {
    cut = cut_again n s (start output) e;
    sub = λ u a. absurd (rw f at a);
    all = omega (arith, count-le n (λ u. not (later u)));
    leads = rw f (onward_agree 1 (round (try no_node) 0 s) (round (try no_node) 0 (start output)) (round_agree n (try no_node) (try no_node) (λ u l. refl) 0 s (start output) (cut_same n s (start output) e)));
  }
  pending_start false output later s e f = record {
    cut = cut_again n s (start output) e;
    sub = λ u a. rw f at a;
    all = omega (arith, count-le n (λ u. not (later u)));
    leads = rw f (progress_trans (onward_step 1 s) (onward_agree 1 s (start output) (cut_same n s (start output) e)));
  }

-- a node of a part that leaves out `plain` where it is no pivot, and is not in it, is one of these
-- the unsolved nodes that are visited: not those in `plain` whose row is no pivot
abbrev pub picked : (n : ℕ) (solved plain pivots : ℕ → Bool) → ℕ → Bool
picked n solved plain pivots u = unsolved n solved u && not (plain u && not (pivots u))

pub passed_plain : (all plain pivots part : ℕ → Bool) → part ≡ (λ u. all u && not (plain u && not (pivots u))) → (u : ℕ) → T (all u) → (T (part u) → ⊥) → {o : Option (ℕ → Bool)}
    → (T (plain u) → (T (pivots u) → ⊥) → o ≡ none) → o ≡ none
passed_plain all plain pivots part e u t f {o = o} h = by (dec (plain u && not (pivots u)))
  where
    by : T (plain u && not (pivots u)) ⊎ (T (plain u && not (pivots u)) → ⊥) → o ≡ none
    by (inl q) = h (and_l (plain u) (not (pivots u)) q) (not_out (pivots u) (and_r (plain u) (not (pivots u)) q))
    by (inr g) = absurd (f (subst (λ (p : ℕ → Bool). T (p u)) (sym e) (and_in (all u) (not (plain u && not (pivots u))) t (not_in (plain u && not (pivots u)) g))))
