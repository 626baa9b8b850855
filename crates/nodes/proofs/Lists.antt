-- A list by what stands at each place, and lists of zeros.
use Prim.Native.Nat.{ℕ, zero, suc, ◌+◌, ◌≤◌, ◌<◌}
use mathlib.Core.Path.{◌≡◌, refl, sym, ap, ◌∙◌}
use mathlib.Core.List.{List, [], ◌∷◌, ◌++◌}
use mathlib.Core.Logic.{◌⊎◌, inl, inr}
use native.Mathlib.Nat.{not-suc-le-zero, le_of_suc-le-suc}
use native.Mathlib.Omega.{arith}
use lib.ListN.{get_or, length, set, take, length-replicate, get_or-eq_default, get_or-replicate, replicate-append-replicate}
use lib.Seq.{ext_get_or, take-length, take-suc-set}
use Rattle.nodes.specs.Lists.{list_of, zeros}
use Rattle.nodes.proofs.Logic.{lt_or_ge}

pub length-list_of : {A : Type 0} (n : ℕ) (f : ℕ → A) → length (list_of n f) ≡ n
unfolding list_of
length-list_of zero f = refl
length-list_of (suc n) f = ap suc (length-list_of n (λ k. f (suc k)))

pub get_or-list_of : (n : ℕ) (f : ℕ → ℕ) (k : ℕ) → k < n → get_or (list_of n f) k 0 ≡ f k
unfolding list_of
get_or-list_of zero f k h = absurd (not-suc-le-zero h)
get_or-list_of (suc n) f zero h = refl
get_or-list_of (suc n) f (suc k) h = get_or-list_of n (λ i. f (suc i)) k (le_of_suc-le-suc h)

pub is_list_of : (l : List ℕ) (n : ℕ) (f : ℕ → ℕ) → length l ≡ n → ((k : ℕ) → k < n → get_or l k 0 ≡ f k) → l ≡ list_of n f
is_list_of l n f e h =
    ext_get_or 0 l (list_of n f) (e ∙ sym (length-list_of n f)) (λ k j. h k (rw e at j) ∙ sym (get_or-list_of n f k (rw e at j)))

-- ---- zeros
pub zeros_at : (n i : ℕ) → get_or (zeros n) i 0 ≡ 0
zeros_at n i = by (lt_or_ge i n)
  where
    by : (i < n) ⊎ (n ≤ i) → get_or (zeros n) i 0 ≡ 0
    by (inl h) = get_or-replicate n i 0 0 h
    by (inr h) = get_or-eq_default (zeros n) 0 (omega (arith, length-replicate {A = ℕ} n 0))

-- one element more is 0
pub zeros_more : (ws : List ℕ) (i : ℕ) → i < length ws → take i ws ≡ zeros i → take (i + 1) (set ws i 0) ≡ zeros (i + 1)
zeros_more ws i h e =
    ap (λ (k : ℕ). take k (set ws i 0)) next ∙ take-suc-set ws i 0 h ∙ ap (λ (l : List ℕ). l ++ (0 ∷ [])) e ∙ replicate-append-replicate i 1 0
  where
    next : i + 1 ≡ suc i
    next = omega arith

pub zeros_whole : (ws : List ℕ) (i n : ℕ) → i ≡ length ws → length ws ≡ n → take i ws ≡ zeros i → ws ≡ zeros n
zeros_whole ws i n a b e = sym (take-length ws) ∙ ap (λ (k : ℕ). take k ws) (sym a) ∙ e ∙ ap zeros (a ∙ b)
