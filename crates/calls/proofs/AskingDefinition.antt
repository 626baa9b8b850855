-- For flow.rt and pflow.rt: the questions of one node, by what the code has answered, and the members of a set, visited from the least on.
use Prim.Native.Nat.{ℕ, ◌+◌, ◌≤◌, ◌<◌}
use mathlib.Core.Path.{◌≡◌, refl}
use mathlib.Core.Bool.{Bool, true, false, cond, not, ◌&&◌, ◌||◌}
use mathlib.Core.Option.{Option, none, some}
use mathlib.Core.Logic.{◌⊎◌, inl, inr, ◌≢◌}
use native.Mathlib.Omega.{arith}
use native.Mathlib.Decide.{ℕ_discrete}
use lib.Dec.{T, eqb, leb}
use borrow.Author.Tests.{le-leb, lt-leb, eq-eqb, ne_eqb}
use Rattle.nodes.specs.Row.{any_below, lowest}
use Rattle.nodes.specs.NodeSet.{capacity}
use Rattle.nodes.proofs.Logic.{is_true, is_false, from_true, and_all, lt_or_ge, le_or_lt}
use Rattle.nodes.proofs.Row.{any_in}
use Rattle.nodes.proofs.Members.{lowest_none, lowest_member}
use Rattle.nodes.proofs.Remove.{removed, removed_other, removed_same}
use Rattle.flows.specs.Job.{Job}
use Rattle.answers.specs.Answer.{Refusal}
use Rattle.records.specs.JobFile.{mode_causal}
use Rattle.records.specs.FlowFile.{Flow}
use Rattle.verdicts.specs.Verdict.{ask, ◌next◌, each, later, member_ask, odd_ask, y_ask, own_ask, node_ask, neighbour_ask, adjacent_ask, causal_ask, causal_node_ask, definition_ask}
use Rattle.calls.specs.Loaded.{within}
use Rattle.verdicts.proofs.Questions.{each_in}
use Rattle.calls.proofs.Asking.{each_ext, each_at, within_yes}

-- ---- modes 2 and 3
module _ (j : Job) (f : Flow) (mode i : ℕ) where
  pub node_output : j.output i ≡ true → none ≡ definition_ask j f mode i
  node_output o = rw o

  module _ (o : j.output i ≡ false) (c : eqb mode mode_causal ≡ false) where
    pub node_members : (r : Refusal) → each j.nodes (member_ask j f mode i) ≡ some r → definition_ask j f mode i ≡ some r
    unfolding node_ask
    node_members r e = rw (o, c, e)

    module _ (e : each j.nodes (member_ask j f mode i) ≡ none) where
      pub node_odd : (r : Refusal) → each j.nodes (odd_ask j f mode i) ≡ some r → definition_ask j f mode i ≡ some r
      unfolding node_ask
      node_odd r g = rw (o, c, e, g)

      pub node_rest : each j.nodes (odd_ask j f mode i) ≡ none → definition_ask j f mode i ≡ (each j.nodes (y_ask j f mode i) next own_ask j f i)
      unfolding node_ask
      node_rest g = rw (o, c, e, g)

-- ---- mode 1
module _ (j : Job) (f : Flow) (i k : ℕ) where
  pub pair_late : later j f i k ≡ false → some (record { number = 18; a = i; b = k }) ≡ causal_ask j f i k
  unfolding causal_ask ask
  pair_late e = rw e

  module _ (e : later j f i k ≡ true) where
    pub pair_around : (r : Refusal) → each j.nodes (neighbour_ask j f i k) ≡ some r → causal_ask j f i k ≡ some r
    unfolding causal_ask ask
    pair_around r g = rw (e, g)

    pub pair_last : each j.nodes (neighbour_ask j f i k) ≡ none → causal_ask j f i k ≡ adjacent_ask j f i k
    unfolding causal_ask ask
    pair_last g = rw (e, g)

pub causal_node : (j : Job) (f : Flow) (i : ℕ) → j.output i ≡ false → definition_ask j f mode_causal i ≡ causal_node_ask j f i
causal_node j f i o = rw o

-- the questions g of the members of s
abbrev pub only : (ℕ → Bool) → (ℕ → Option Refusal) → ℕ → Option Refusal
only s g k = cond (s k) (g k) none

module _ (n : ℕ) (s : ℕ → Bool) (g : ℕ → Option Refusal) where
  pub only_start : ((k : ℕ) → capacity ≤ k → s k ≡ false) → each n (only s g) ≡ each n (only (λ k. s k && within n k) g)
  only_start z = each_ext n (only s g) (only (λ k. s k && within n k) g) (λ k l. by k l (lt_or_ge k capacity))
    where
      by : (k : ℕ) → k < n → (k < capacity) ⊎ (capacity ≤ k) → only s g k ≡ only (λ k. s k && within n k) g k
      by k l (inl c) = rw (within_yes n k l c, and_all (s k))
      by k l (inr c) = rw (z k c)

  pub only-none : ((k : ℕ) → capacity ≤ k → s k ≡ false) → (T (any_below capacity s) → ⊥) → each n (only s g) ≡ none
  only-none z h = each_in n (only s g) (λ k l. by k (lt_or_ge k capacity))
    where
      by : (k : ℕ) → (k < capacity) ⊎ (capacity ≤ k) → only s g k ≡ none
      by k (inl c) = rw (is_false (s k) (λ t. h (any_in capacity s k c t)))
      by k (inr c) = rw (z k c)

  module _ (h : T (any_below capacity s)) (low : ℕ) (e : low ≡ lowest capacity s) where
    here : s low ≡ true
    here = is_true (s low) (rw e (lowest_member capacity s h))

    pub only_at : ((k : ℕ) → T (s k) → k < n) → (r : Refusal) → g low ≡ some r → each n (only s g) ≡ some r
    only_at b r p = each_at n low (only s g) r (b low (from_true (s low) here)) (λ j m. quiet j m) (rw (here, p))
      where
        quiet : (j : ℕ) → j < low → only s g j ≡ none
        quiet j m = rw (lowest_none capacity s j (rw (← e) m))

    pub only_next : g low ≡ none → each n (only s g) ≡ each n (only (removed s (lowest capacity s)) g)
    only_next p = each_ext n (only s g) (only (removed s (lowest capacity s)) g) (λ k l. by k (ℕ_discrete k (lowest capacity s)))
      where
        by : (k : ℕ) → Dec (k ≡ lowest capacity s) → only s g k ≡ only (removed s (lowest capacity s)) g k
        by k (yes q) = rw (q, removed_same s (lowest capacity s), ← e, here, p)
        by k (no d) = rw (removed_other s (lowest capacity s) k d)

-- ---- the Paulis by their numbers
pub range_cut : (w a b : Bool) → (w && a) && not (w && b) ≡ w && (a && not b)
range_cut true a b = refl
range_cut false a b = refl

pub two_of : (low m : ℕ) → leb low m && not (leb (low + 2) m) ≡ eqb m low || eqb m (low + 1)
two_of low m = by (ℕ_discrete m low) (ℕ_discrete m (low + 1)) (le_or_lt low m)
  where
    by : Dec (m ≡ low) → Dec (m ≡ low + 1) → (low ≤ m) ⊎ (m < low) → leb low m && not (leb (low + 2) m) ≡ eqb m low || eqb m (low + 1)
    by (yes p) q l = rw (eq-eqb m low p, le-leb low m (omega arith), lt-leb (low + 2) m (omega arith))
    by (no d) (yes q) l = rw (ne_eqb m low d, eq-eqb m (low + 1) q, le-leb low m (omega arith), lt-leb (low + 2) m (omega arith))
    by (no d) (no q) (inl l) = rw (ne_eqb m low d, ne_eqb m (low + 1) q, le-leb low m l, le-leb (low + 2) m (past d q l))
      where
        past : m ≢ low → m ≢ low + 1 → low ≤ m → low + 2 ≤ m
        past d q l = omega arith
    by (no d) (no q) (inr l) = rw (ne_eqb m low d, ne_eqb m (low + 1) q, lt-leb low m l)

pub one_of : (low m : ℕ) → leb low m && not (leb (low + 1) m) ≡ eqb m low
one_of low m = by (ℕ_discrete m low) (le_or_lt low m)
  where
    by : Dec (m ≡ low) → (low ≤ m) ⊎ (m < low) → leb low m && not (leb (low + 1) m) ≡ eqb m low
    by (yes p) l = rw (eq-eqb m low p, le-leb low m (omega arith), lt-leb (low + 1) m (omega arith))
    by (no d) (inl l) = rw (ne_eqb m low d, le-leb low m l, le-leb (low + 1) m (past d l))
      where
        past : m ≢ low → low ≤ m → low + 1 ≤ m
        past d l = omega arith
    by (no d) (inr l) = rw (ne_eqb m low d, lt-leb low m l)
