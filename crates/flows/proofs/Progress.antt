-- The searches of specs/Search depend on the nodes below n only: progress that agrees there goes on to agree.
use Prim.Native.Nat.{ℕ, zero, suc, ◌+◌, ◌<◌}
use mathlib.Core.Path.{◌≡◌, sym, ◌∙◌}
use mathlib.Core.Bool.{Bool, true, false, cond}
use mathlib.Core.Option.{Option}
use Rattle.nodes.proofs.Row.{any_ext}
use Rattle.flows.specs.Search.{Progress, solved_now, round, solves_some, rounds}

pub record SameProgress (n : ℕ) (s t : Progress) : Type 0 where
  pub solved : (u : ℕ) → u < n → s.solved u ≡ t.solved u
  pub layer : (u : ℕ) → u < n → s.layer u ≡ t.layer u
  pub set : (u : ℕ) → u < n → s.set u ≡ t.set u

pub progress_sym : {n : ℕ} {s t : Progress} → SameProgress n s t → SameProgress n t s
progress_sym h = record { solved = λ u l. sym (h.solved u l); layer = λ u l. sym (h.layer u l); set = λ u l. sym (h.set u l) }

pub progress_trans : {n : ℕ} {s t w : Progress} → SameProgress n s t → SameProgress n t w → SameProgress n s w
progress_trans h k = record { solved = λ u l. h.solved u l ∙ k.solved u l; layer = λ u l. h.layer u l ∙ k.layer u l; set = λ u l. h.set u l ∙ k.set u l }

pub now_agree : (n : ℕ) (f g : ℕ → Option (ℕ → Bool)) → ((u : ℕ) → u < n → f u ≡ g u) → (s t : Progress) → SameProgress n s t → (u : ℕ) → u < n → solved_now f s u ≡ solved_now g t u
now_agree n f g e s t h u l = rw (h.solved u l, e u l)

pub round_agree : (n : ℕ) (f g : ℕ → Option (ℕ → Bool)) → ((u : ℕ) → u < n → f u ≡ g u) → (r : ℕ) (s t : Progress) → SameProgress n s t → SameProgress n (round f r s) (round g r t)
round_agree n f g e r s t h = record {
  solved = λ u l. rw (h.solved u l, e u l);
  layer = λ u l. rw (h.solved u l, h.layer u l, e u l);
  set = λ u l. rw (h.solved u l, h.set u l, e u l);
}

pub rounds_agree : (try : (ℕ → Bool) → ℕ → Option (ℕ → Bool)) (n : ℕ)
    → ((later later' : ℕ → Bool) → ((v : ℕ) → v < n → later v ≡ later' v) → (u : ℕ) → u < n → try later u ≡ try later' u)
    → (k r : ℕ) (s t : Progress) → SameProgress n s t → SameProgress n (rounds try n k r s) (rounds try n k r t)
unfolding rounds
rounds_agree try n q zero r s t h = h
rounds_agree try n q (suc k) r s t h = go (solves_some try n s) (solves_some try n t) same_now (rounds_agree try n q k (r + 1) (round (try s.solved) r s) (round (try t.solved) r t) (round_agree n (try s.solved) (try t.solved) (q s.solved t.solved h.solved) r s t h))
  where
    same_now : solves_some try n s ≡ solves_some try n t
    same_now = any_ext n (solved_now (try s.solved) s) (solved_now (try t.solved) t) (now_agree n (try s.solved) (try t.solved) (q s.solved t.solved h.solved) s t h)

    go : (c d : Bool) → c ≡ d
        → SameProgress n (rounds try n k (r + 1) (round (try s.solved) r s)) (rounds try n k (r + 1) (round (try t.solved) r t))
        → SameProgress n (cond c (rounds try n k (r + 1) (round (try s.solved) r s)) s) (cond d (rounds try n k (r + 1) (round (try t.solved) r t)) t)
    go true d f ih = rw (← f) ih
    go false d f ih = rw (← f) h
