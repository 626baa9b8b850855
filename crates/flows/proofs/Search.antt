-- The search by rounds: it ends by its own rule, what it solves was solved by a try at its layer, and no right layering has a smaller
-- layer.
use Prim.Native.Nat.{ℕ, zero, suc, ◌+◌, ◌≤◌, ◌<◌}
use mathlib.Core.Path.{◌≡◌, refl, sym, ap, ap₂, ◌∙◌, fun_ext}
use mathlib.Core.Bool.{Bool, true, false, cond, not, ◌&&◌, ◌||◌}
use mathlib.Core.Logic.{◌⊎◌, inl, inr}
use mathlib.Core.Option.{Option, none, some}
use native.Mathlib.Omega.{arith}
use native.Mathlib.Nat.{not-suc-le-zero, le_step, lt-suc_self, le_of_suc-le-suc}
use lib.Dec.{T, ltb, ltb→lt, lt→ltb}
use Rattle.nodes.specs.Row.{count}
use Rattle.nodes.proofs.Logic.{is_true, is_false, from_false, dec, and_l, and_r, and_in, or_l, or_r, or_out, not_in, not_out, cond_t, cond_f, beq_eq, le_or_lt, and_none}
use Rattle.nodes.proofs.Row.{any_in, any_out, any_none, ltb_no}
use Rattle.nodes.proofs.Count.{IsWithin, count_pos, grows}
use Rattle.nodes.specs.Options.{is_some}
use Rattle.flows.specs.Search.{Progress, no_node, or_none, start, solved_now, round, solves_some, rounds, later_than}

some_of : (o : Option (ℕ → Bool)) → T (is_some o) → o ≡ some (or_none o)
some_of none t = absurd t
some_of (some x) t = refl

pub fresh_open : (try : ℕ → Option (ℕ → Bool)) (s : Progress) (u : ℕ) → T (s.solved u) → T (solved_now try s u) → ⊥
fresh_open try s u t f = not_out (s.solved u) (and_l (not (s.solved u)) (is_some (try u)) f) t

-- ---- how a search goes on
module _ (try : (ℕ → Bool) → ℕ → Option (ℕ → Bool)) (n : ℕ) where
  abbrev after : ℕ → Progress → Progress
  after r s = round (try s.solved) r s

  -- one step: an end, or a round and the rest
  pub rounds_step : (k r : ℕ) (s : Progress) → ((solves_some try n s ≡ false) × (rounds try n (suc k) r s ≡ s)) ⊎ (T (solves_some try n s) × (rounds try n (suc k) r s ≡ rounds try n k (r + 1) (after r s)))
  unfolding rounds
  rounds_step k r s = go (dec (solves_some try n s))
    where
      go : T (solves_some try n s) ⊎ (T (solves_some try n s) → ⊥)
          → ((solves_some try n s ≡ false) × (cond (solves_some try n s) (rounds try n k (r + 1) (after r s)) s ≡ s))
          ⊎ (T (solves_some try n s) × (cond (solves_some try n s) (rounds try n k (r + 1) (after r s)) s ≡ rounds try n k (r + 1) (after r s)))
      go (inl t) = inr (t, rw (is_true (solves_some try n s) t))
      go (inr f) = inl (is_false (solves_some try n s) f, rw (is_false (solves_some try n s) f))

  -- a round that solves some node leaves fewer unsolved
  pub fewer : (r : ℕ) (s : Progress) → T (solves_some try n s) → count n (λ u. not ((after r s).solved u)) < count n (λ u. not (s.solved u))
  fewer r s t = go (grows n (λ u. not ((after r s).solved u)) (λ u. not (s.solved u)) less)
    where
      less : IsWithin n (λ u. not ((after r s).solved u)) (λ u. not (s.solved u))
      less v l a = not_in (s.solved v) (λ b. not_out ((after r s).solved v) a (or_l (s.solved v) (solved_now (try s.solved) s v) b))

      go : (count n (λ u. not ((after r s).solved u)) < count n (λ u. not (s.solved u)))
          ⊎ ((count n (λ u. not ((after r s).solved u)) ≡ count n (λ u. not (s.solved u))) × IsWithin n (λ u. not (s.solved u)) (λ u. not ((after r s).solved u)))
          → count n (λ u. not ((after r s).solved u)) < count n (λ u. not (s.solved u))
      go (inl a) = a
      go (inr (e, w)) =
          let (u, l, f) = any_out n (solved_now (try s.solved) s) t in
          absurd (not_out ((after r s).solved u) (w u l (and_l (not (s.solved u)) (is_some (try s.solved u)) f)) (or_r (s.solved u) (solved_now (try s.solved) s u) f))

  none_left : (s : Progress) → count n (λ u. not (s.solved u)) ≤ 0 → (u : ℕ) → u < n → T (s.solved u)
  none_left s c u l = go (dec (s.solved u))
    where
      none_of : (a : ℕ) → 0 < a → a ≤ 0 → ⊥
      none_of a p q = omega arith

      go : T (s.solved u) ⊎ (T (s.solved u) → ⊥) → T (s.solved u)
      go (inl t) = t
      go (inr f) = absurd (none_of (count n (λ u. not (s.solved u))) (count_pos n (λ u. not (s.solved u)) u l (not_in (s.solved u) f)) c)

  -- where nothing is unsolved a round solves nothing
  pub solved_idle : (s : Progress) → ((u : ℕ) → u < n → T (s.solved u)) → solves_some try n s ≡ false
  solved_idle s h = any_none n (solved_now (try s.solved) s) (λ u l t. fresh_open (try s.solved) s u (h u l) t)

  -- the bound on rounds is never what ends a search
  pub rounds_end : (k r : ℕ) (s : Progress) → count n (λ u. not (s.solved u)) ≤ k → solves_some try n (rounds try n k r s) ≡ false
  unfolding rounds
  rounds_end zero r s c = solved_idle s (none_left s c)
  rounds_end (suc k) r s c = go (rounds_step k r s) (rounds_end k)
    where
      go : ((solves_some try n s ≡ false) × (rounds try n (suc k) r s ≡ s))
          ⊎ (T (solves_some try n s) × (rounds try n (suc k) r s ≡ rounds try n k (r + 1) (after r s)))
          → ((r : ℕ) (s : Progress) → count n (λ u. not (s.solved u)) ≤ k → solves_some try n (rounds try n k r s) ≡ false) → solves_some try n (rounds try n (suc k) r s) ≡ false
      go (inl (e, p)) ih = rw p e
      go (inr (t, p)) ih = let l = fewer r s t in rw p (ih (r + 1) (after r s) (omega arith))

  -- where a round solves nothing the search has ended, whatever the bound
  pub rounds_idle : (k r : ℕ) (s : Progress) → solves_some try n s ≡ false → rounds try n k r s ≡ s
  unfolding rounds
  rounds_idle zero r s e = refl
  rounds_idle (suc k) r s e = rw e

  -- any bound that the unsolved nodes do not exceed gives the same
  pub rounds_enough : (k m r : ℕ) (s : Progress) → count n (λ u. not (s.solved u)) ≤ k → count n (λ u. not (s.solved u)) ≤ m → rounds try n k r s ≡ rounds try n m r s
  unfolding rounds
  rounds_enough zero m r s c d = sym (rounds_idle m r s (solved_idle s (none_left s c)))
  rounds_enough (suc k) zero r s c d = rounds_idle (suc k) r s (solved_idle s (none_left s d))
  rounds_enough (suc k) (suc m) r s c d = go (dec (solves_some try n s)) (rounds_enough k m)
    where
      go : T (solves_some try n s) ⊎ (T (solves_some try n s) → ⊥)
          → ((r : ℕ) (s : Progress) → count n (λ u. not (s.solved u)) ≤ k → count n (λ u. not (s.solved u)) ≤ m → rounds try n k r s ≡ rounds try n m r s)
          → rounds try n (suc k) r s ≡ rounds try n (suc m) r s
      go (inl t) ih = let l = fewer r s t in rw (ih (r + 1) (after r s) (omega arith) (omega arith))
      go (inr f) ih = rounds_idle (suc k) r s (is_false _ f) ∙ sym (rounds_idle (suc m) r s (is_false _ f))

  -- k rounds from r on give no node a layer from r + k on, solved or not
  pub layers_below : (k r : ℕ) (s : Progress) → ((u : ℕ) → s.layer u < r) → (u : ℕ) → (rounds try n k r s).layer u < r + k
  unfolding rounds
  layers_below zero r s h u = omega (arith, h u)
  layers_below (suc k) r s h u = go (rounds_step k r s) (layers_below k)
    where
      kept : (c : Bool) (a : ℕ) → a < r → cond c r a < r + 1
      kept true a l = omega arith
      kept false a l = omega arith

      go : ((solves_some try n s ≡ false) × (rounds try n (suc k) r s ≡ s))
          ⊎ (T (solves_some try n s) × (rounds try n (suc k) r s ≡ rounds try n k (r + 1) (after r s)))
          → ((r : ℕ) (s : Progress) → ((u : ℕ) → s.layer u < r) → (u : ℕ) → (rounds try n k r s).layer u < r + k) → (rounds try n (suc k) r s).layer u < r + suc k
      go (inl (e, p)) ih = rw p (omega (arith, h u))
      go (inr (t, p)) ih = rw p (omega (arith, ih (r + 1) (after r s) (λ v. kept (solved_now (try s.solved) s v) (s.layer v) (h v)) u))

-- only the tries of unsolved nodes count
pub now_ext : (f g : ℕ → Option (ℕ → Bool)) (s : Progress) → ((u : ℕ) → (T (s.solved u) → ⊥) → f u ≡ g u) → solved_now f s ≡ solved_now g s
now_ext f g s h = fun_ext (λ u. go u (dec (s.solved u)))
  where
    go : (u : ℕ) → T (s.solved u) ⊎ (T (s.solved u) → ⊥) → solved_now f s u ≡ solved_now g s u
    go u (inl t) = rw (is_true (s.solved u) t)
    go u (inr m) = rw (h u m)

pub round_ext : (f g : ℕ → Option (ℕ → Bool)) (r : ℕ) (s : Progress) → ((u : ℕ) → (T (s.solved u) → ⊥) → f u ≡ g u) → round f r s ≡ round g r s
round_ext f g r s h = ap₂ (λ (q : ℕ → Bool) (z : ℕ → ℕ → Bool). record { solved = λ u. s.solved u || q u; layer = λ u. cond (q u) r (s.layer u); set = z }) (now_ext f g s h) (fun_ext (λ u. go u (dec (s.solved u))))
  where
    go : (u : ℕ) → T (s.solved u) ⊎ (T (s.solved u) → ⊥) → cond (solved_now f s u) (or_none (f u)) (s.set u) ≡ cond (solved_now g s u) (or_none (g u)) (s.set u)
    go u (inl t) = rw (is_true (s.solved u) t)
    go u (inr m) = rw (h u m)

-- so tries that agree on them make the same search
pub rounds_ext : (try other : (ℕ → Bool) → ℕ → Option (ℕ → Bool)) (n : ℕ) → ((s : Progress) (u : ℕ) → (T (s.solved u) → ⊥) → try s.solved u ≡ other s.solved u)
    → (k r : ℕ) (s : Progress) → rounds try n k r s ≡ rounds other n k r s
unfolding rounds
rounds_ext try other n same zero r s = refl
rounds_ext try other n same (suc k) r s =
    rw (now_ext (try s.solved) (other s.solved) s (same s), round_ext (try s.solved) (other s.solved) r s (same s), rounds_ext try other n same k (r + 1) (round (other s.solved) r s))

-- ---- what is solved was solved by a try
module _ (n : ℕ) (output : ℕ → Bool) (try : (ℕ → Bool) → ℕ → Option (ℕ → Bool)) (first : ℕ) where
  -- u's set is what a try gave it when just the solved nodes of smaller layers were later
  pub record IsTried (s : Progress) (u : ℕ) : Type 0 where
    pub later : ℕ → Bool
    pub smaller : (v : ℕ) → v < n → later v ≡ (s.solved v && ltb (s.layer v) (s.layer u))
    pub gave : try later u ≡ some (s.set u)

  -- the progress before round r, where `first` was the first round
  pub record IsSearched (r : ℕ) (s : Progress) : Type 0 where
    pub outputs : (u : ℕ) → T (output u) → T (s.solved u)
    pub output_layer : (u : ℕ) → T (output u) → s.layer u ≡ 0
    pub output_set : (u : ℕ) → T (output u) → s.set u ≡ no_node
    pub below : (u : ℕ) → u < n → T (s.solved u) → s.layer u < r
    pub above : (u : ℕ) → u < n → (T (output u) → ⊥) → T (s.solved u) → first ≤ s.layer u
    pub tried : (u : ℕ) → u < n → (T (output u) → ⊥) → T (s.solved u) → IsTried s u

  -- round r, in which the later nodes are those of smaller layers
  module _ (later : ℕ → Bool) (r : ℕ) (from : first ≤ r) (s : Progress) (g : IsSearched (suc r) s) (past : (v : ℕ) → v < n → later v ≡ (s.solved v && ltb (s.layer v) r)) where
    abbrev next : Progress
    next = round (try later) r s

    kept_layer : (u : ℕ) → T (s.solved u) → next.layer u ≡ s.layer u
    kept_layer u t = cond_f (solved_now (try later) s u) r (s.layer u) (fresh_open (try later) s u t)

    kept_set : (u : ℕ) → T (s.solved u) → next.set u ≡ s.set u
    kept_set u t = cond_f (solved_now (try later) s u) (or_none (try later u)) (s.set u) (fresh_open (try later) s u t)

    new_layer : (u : ℕ) → T (solved_now (try later) s u) → next.layer u ≡ r
    new_layer u f = cond_t (solved_now (try later) s u) r (s.layer u) f

    new_set : (u : ℕ) → T (solved_now (try later) s u) → next.set u ≡ or_none (try later u)
    new_set u f = cond_t (solved_now (try later) s u) (or_none (try later u)) (s.set u) f

    still : (v : ℕ) → T (s.solved v) → T (next.solved v)
    still v t = or_l (s.solved v) (solved_now (try later) s v) t

    -- nodes of layers below l, which is at most r, are as they were
    same_past : (l v : ℕ) → l ≤ r → (next.solved v && ltb (next.layer v) l) ≡ (s.solved v && ltb (s.layer v) l)
    same_past l v h = go (dec (s.solved v)) (dec (solved_now (try later) s v))
      where
        go : T (s.solved v) ⊎ (T (s.solved v) → ⊥) → T (solved_now (try later) s v) ⊎ (T (solved_now (try later) s v) → ⊥)
            → (next.solved v && ltb (next.layer v) l) ≡ (s.solved v && ltb (s.layer v) l)
        go (inl t) d = rw (kept_layer v t, is_true (s.solved v) t)
        go (inr f) (inl q) = rw (new_layer v q, ltb_no r l h, and_none (next.solved v), is_false (s.solved v) f)
        go (inr f) (inr m) = rw (is_false (solved_now (try later) s v) m, is_false (s.solved v) f)

    pub step : IsSearched (suc r) next
    step = record {
      outputs = λ u o. still u (g.outputs u o);
      output_layer = λ u o. kept_layer u (g.outputs u o) ∙ g.output_layer u o;
      output_set = λ u o. kept_set u (g.outputs u o) ∙ g.output_set u o;
      below = λ u l t. below' u l (or_out (s.solved u) (solved_now (try later) s u) t);
      above = λ u l o t. above' u l o (or_out (s.solved u) (solved_now (try later) s u) t);
      tried = λ u l o t. tried' u l o (or_out (s.solved u) (solved_now (try later) s u) t);
    }
      where
        below' : (u : ℕ) → u < n → T (s.solved u) ⊎ T (solved_now (try later) s u) → next.layer u < suc r
        below' u l (inl t) = rw (kept_layer u t) (g.below u l t)
        below' u l (inr f) = rw (new_layer u f) (lt-suc_self r)

        above' : (u : ℕ) → u < n → (T (output u) → ⊥) → T (s.solved u) ⊎ T (solved_now (try later) s u) → first ≤ next.layer u
        above' u l o (inl t) = rw (kept_layer u t) (g.above u l o t)
        above' u l o (inr f) = rw (new_layer u f) from

        tried' : (u : ℕ) → u < n → (T (output u) → ⊥) → T (s.solved u) ⊎ T (solved_now (try later) s u) → IsTried next u
        tried' u l o (inl t) =
            let p = g.tried u l o t in record {
              later = p.later;
              smaller = λ v m. p.smaller v m ∙ sym (ap (λ (q : ℕ). next.solved v && ltb (next.layer v) q) (kept_layer u t) ∙ same_past (s.layer u) v (le_of_suc-le-suc (g.below u l t)));
              gave = p.gave ∙ ap some (sym (kept_set u t));
            }
        tried' u l o (inr f) = record {
          later = later;
          smaller = λ v m. past v m ∙ sym (ap (λ (q : ℕ). next.solved v && ltb (next.layer v) q) (new_layer u f) ∙ same_past r v (omega arith));
          gave = some_of (try later u) (and_r (not (s.solved u)) (is_some (try later u)) f) ∙ ap some (sym (new_set u f));
        }

  pub searched_start : IsSearched 1 (start output)
  searched_start = record {
    outputs = λ u o. o;
    output_layer = λ u o. refl;
    output_set = λ u o. refl;
    below = λ u l t. lt-suc_self 0;
    above = λ u l o t. absurd (o t);
    tried = λ u l o t. absurd (o t);
  }

  later_bound : (r : ℕ) (s : Progress) → IsSearched r s → IsSearched (suc r) s
  later_bound r s g = record { outputs = g.outputs; output_layer = g.output_layer; output_set = g.output_set; below = λ u l t. le_step (g.below u l t); above = g.above; tried = g.tried }

  all_past : (r : ℕ) (s : Progress) → IsSearched r s → (v : ℕ) → v < n → s.solved v ≡ (s.solved v && ltb (s.layer v) r)
  all_past r s g v l = beq_eq (s.solved v) (s.solved v && ltb (s.layer v) r) (λ t. and_in (s.solved v) (ltb (s.layer v) r) t (lt→ltb (s.layer v) r (g.below v l t))) (λ t. and_l (s.solved v) (ltb (s.layer v) r) t)

  -- k rounds from r on: the layers stay below r + k
  pub searched : (k r : ℕ) → first ≤ r → (s : Progress) → IsSearched r s → IsSearched (r + k) (rounds try n k r s)
  unfolding rounds
  searched zero r from s g = rw (nothing r) g
    where
      nothing : (r : ℕ) → r + 0 ≡ r
      nothing r = omega arith
  searched (suc k) r from s g = go (rounds_step try n k r s) (searched k)
    where
      more : (r k : ℕ) → r ≤ k → (s : Progress) → IsSearched r s → IsSearched k s
      more r k h s g = record { outputs = g.outputs; output_layer = g.output_layer; output_set = g.output_set; below = λ u l t. le_trans' (s.layer u) r k (g.below u l t) h; above = g.above; tried = g.tried }
        where
          le_trans' : (a r k : ℕ) → a < r → r ≤ k → a < k
          le_trans' a r k p q = omega arith

      suc_one : (r : ℕ) → suc r ≡ r + 1
      suc_one r = omega arith

      shift : (r k : ℕ) → r + 1 + k ≡ r + suc k
      shift r k = omega arith

      go : ((solves_some try n s ≡ false) × (rounds try n (suc k) r s ≡ s))
          ⊎ (T (solves_some try n s) × (rounds try n (suc k) r s ≡ rounds try n k (r + 1) (round (try s.solved) r s)))
          → ((r : ℕ) → first ≤ r → (s : Progress) → IsSearched r s → IsSearched (r + k) (rounds try n k r s)) → IsSearched (r + suc k) (rounds try n (suc k) r s)
      go (inl (e, p)) ih = rw p (more r (r + suc k) (omega arith) s g)
      go (inr (t, p)) ih =
          rw (p, ← shift r k) (ih (r + 1) (omega arith) (round (try s.solved) r s) (rw (← suc_one r) (step s.solved r from s (later_bound r s g) (all_past r s g))))

-- ---- no layering has a smaller layer: over any try that still gives a set where more nodes are later
module _
    (n : ℕ)
    (output : ℕ → Bool)
    (try : (ℕ → Bool) → ℕ → Option (ℕ → Bool))
    (monotone : (s t : ℕ → Bool) → IsWithin n s t → (u : ℕ) → u < n → (T (output u) → ⊥) → T (is_some (try s u)) → T (is_some (try t u)))
    (layer : ℕ → ℕ)
    (solvable : (u : ℕ) → u < n → (T (output u) → ⊥) → T (is_some (try (later_than layer u) u)))
  where
    -- before round r: every node of a smaller layer is solved, and no solved node has a larger layer
    pub record IsSmallestTill (r : ℕ) (s : Progress) : Type 0 where
      pub outputs : (u : ℕ) → u < n → T (output u) → T (s.solved u)
      pub solved : (u : ℕ) → u < n → layer u < r → T (s.solved u)
      pub smallest : (u : ℕ) → u < n → T (s.solved u) → s.layer u ≤ layer u

    -- all are solved, and none has a larger layer
    pub record IsSmallest (s : Progress) : Type 0 where
      pub all : (u : ℕ) → u < n → T (s.solved u)
      pub smallest : (u : ℕ) → u < n → s.layer u ≤ layer u

    -- an unsolved node is solved where all of smaller layers are later
    pub can : (later : ℕ → Bool) (s : Progress) (u : ℕ) → u < n → (T (output u) → T (s.solved u)) → IsWithin n (later_than layer u) later → (T (s.solved u) → ⊥) → T (solved_now (try later) s u)
    can later s u l outs w f =
        and_in (not (s.solved u)) (is_some (try later u)) (not_in (s.solved u) f)
        (monotone (later_than layer u) later w u l (λ o. f (outs o)) (solvable u l (λ o. f (outs o))))

    pub step_smallest : (later : ℕ → Bool) (r : ℕ) (s : Progress) → IsSmallestTill r s → ((v : ℕ) → v < n → layer v < r → T (later v)) → IsSmallestTill (suc r) (round (try later) r s)
    step_smallest later r s b past = record {
      outputs = λ u l o. or_l (s.solved u) (solved_now (try later) s u) (b.outputs u l o);
      solved = λ u l h. solved' u l h (dec (s.solved u));
      smallest = λ u l t. smallest' u l (dec (solved_now (try later) s u)) (or_out (s.solved u) (solved_now (try later) s u) t) (le_or_lt r (layer u));
    }
      where
        solved' : (u : ℕ) → u < n → layer u < suc r → T (s.solved u) ⊎ (T (s.solved u) → ⊥) → T (s.solved u || solved_now (try later) s u)
        solved' u l h (inl t) = or_l (s.solved u) (solved_now (try later) s u) t
        solved' u l h (inr f) =
            or_r (s.solved u) (solved_now (try later) s u)
            (can later s u l (b.outputs u l) (λ v m d. let e : layer v < layer u = ltb→lt (layer v) (layer u) d in past v m (omega arith)) f)

        smallest' : (u : ℕ) → u < n → T (solved_now (try later) s u) ⊎ (T (solved_now (try later) s u) → ⊥) → T (s.solved u) ⊎ T (solved_now (try later) s u) → (r ≤ layer u) ⊎ (layer u < r)
            → cond (solved_now (try later) s u) r (s.layer u) ≤ layer u
        smallest' u l (inl f) q (inl h) = rw (cond_t (solved_now (try later) s u) r (s.layer u) f) h
        smallest' u l (inl f) q (inr h) = absurd (fresh_open (try later) s u (b.solved u l h) f)
        smallest' u l (inr m) (inl t) h = rw (cond_f (solved_now (try later) s u) r (s.layer u) m) (b.smallest u l t)
        smallest' u l (inr m) (inr f) h = absurd (m f)

    -- a round that solves nothing is a fixpoint: by induction on a bound for the layer, all is solved
    fixpoint : (r : ℕ) (s : Progress) → IsSmallestTill r s → (T (solves_some try n s) → ⊥) → (m u : ℕ) → u < n → layer u < m → T (s.solved u)
    fixpoint r s b f zero u l h = absurd (not-suc-le-zero h)
    fixpoint r s b f (suc m) u l h = go (dec (s.solved u)) (fixpoint r s b f m)
      where
        go : T (s.solved u) ⊎ (T (s.solved u) → ⊥) → ((v : ℕ) → v < n → layer v < m → T (s.solved v)) → T (s.solved u)
        go (inl t) ih = t
        go (inr g) ih =
            absurd
            (f (any_in n (solved_now (try s.solved) s) u l
            (can s.solved s u l (b.outputs u l) (λ v k d. let e : layer v < layer u = ltb→lt (layer v) (layer u) d in ih v k (omega arith)) g)))

    end_smallest : (r : ℕ) (s : Progress) → IsSmallestTill r s → solves_some try n s ≡ false → IsSmallest s
    end_smallest r s b e =
        let all' : (u : ℕ) → u < n → T (s.solved u) = λ u l. fixpoint r s b (from_false (solves_some try n s) e) (suc (layer u)) u l (lt-suc_self (layer u)) in
        record { all = all'; smallest = λ u l. b.smallest u l (all' u l) }

    pub rounds_smallest : (k r : ℕ) (s : Progress) → IsSmallestTill r s → count n (λ u. not (s.solved u)) ≤ k → IsSmallest (rounds try n k r s)
    unfolding rounds
    rounds_smallest zero r s b c = end_smallest r s b (solved_idle try n s (none_left try n s c))
    rounds_smallest (suc k) r s b c = go (rounds_step try n k r s) (rounds_smallest k)
      where
        suc_one : (r : ℕ) → suc r ≡ r + 1
        suc_one r = omega arith

        go : ((solves_some try n s ≡ false) × (rounds try n (suc k) r s ≡ s))
            ⊎ (T (solves_some try n s) × (rounds try n (suc k) r s ≡ rounds try n k (r + 1) (round (try s.solved) r s)))
            → ((r : ℕ) (s : Progress) → IsSmallestTill r s → count n (λ u. not (s.solved u)) ≤ k → IsSmallest (rounds try n k r s)) → IsSmallest (rounds try n (suc k) r s)
        go (inl (e, p)) ih = rw p (end_smallest r s b e)
        go (inr (t, p)) ih =
            let l = fewer try n r s t in
            rw p (ih (r + 1) (round (try s.solved) r s) (rw (← suc_one r) (step_smallest s.solved r s b b.solved)) (omega arith))
