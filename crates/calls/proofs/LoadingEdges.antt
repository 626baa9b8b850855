-- For `load_graph`: edges as a table of sets: those put in so far, and those of the rest.
use Prim.Native.Nat.{ℕ, ◌+◌, ◌*◌, ◌/◌, ◌%◌, ◌^◌, ◌<◌, ◌≤◌}
use mathlib.Core.Path.{◌≡◌, refl, sym, ap, ap₂, ◌∙◌}
use mathlib.Core.Bool.{Bool, true, false, cond, ◌&&◌, ◌||◌}
use mathlib.Core.Logic.{◌⊎◌, inl, inr}
use mathlib.Core.List.{List, [], ◌∷◌, ◌++◌}
use native.Mathlib.Omega.{arith}
use native.Mathlib.Decide.{ℕ_discrete}
use borrow.Author.Tests.{le-leb, lt-leb, lt-ltb, ltb-true, eq-eqb}
use lib.Bits.{bit_or}
use lib.Dec.{eqb, ltb, eqb→eq}
use lib.ListN.{length, get_or, set}
use lib.Seq.{get_or-set_same, get_or-set_other}
use Rattle.nodes.specs.Bit.{bit}
use Rattle.nodes.specs.NodeSet.{member, words_of, word_bits, capacity}
use Rattle.nodes.specs.Lists.{zeros, all}
use Rattle.nodes.specs.SetTable.{set_words, set_at, put_set}
use Rattle.nodes.proofs.Logic.{is_false, and_l, and_r, and_all, and_none, or_false, eqb_comm, eqb_yes, eqb_no, le_or_lt, lt_or_ge}
use Rattle.nodes.proofs.Bit.{bit-or, bit-pow}
use Rattle.nodes.proofs.SetTable.{set_in, set_past, put_each, put_out, zeros_empty}
use Rattle.records.specs.JobFile.{has_edge}
use Rattle.calls.specs.Loaded.{has_set}
use Rattle.records.proofs.Records.{all_more, all_left, all_right, below_at}
use Rattle.records.proofs.ReadingLoops.{pair_of}

-- ---- a table to which the members of s are added at u, where it has room
module _ (ws : List ℕ) (u : ℕ) (s : List ℕ) (more : ℕ → Bool) (e : member s ≡ (λ w. set_at ws u w || more w)) (v w : ℕ) where
  pub put_union : set_at (put_set ws u (words_of s)) v w ≡ set_at ws v w || ((eqb v u && more w) && has_set ws u)
  put_union = by (le_or_lt (set_words * u + set_words) (length ws)) (ℕ_discrete v u)
    where
      by : (set_words * u + set_words ≤ length ws) ⊎ (length ws < set_words * u + set_words) → Dec (v ≡ u)
          → set_at (put_set ws u (words_of s)) v w ≡ set_at ws v w || ((eqb v u && more w) && has_set ws u)
      by (inl h) (yes p) =
          put_each ws u (words_of s) refl h v w ∙ ap (λ (f : ℕ → Bool). cond (eqb v u) (f w) (set_at ws v w)) e
          ∙ rw (p, eqb_yes u, le-leb (set_words * u + set_words) (length ws) h) (ap (λ (b : Bool). set_at ws u w || b) (sym (and_all (more w))))
      by (inl h) (no d) = put_each ws u (words_of s) refl h v w ∙ rw (eqb_no v u d) (sym (or_false (set_at ws v w)))
      by (inr h) d =
          ap (λ (l : List ℕ). set_at l v w) (put_out ws u (words_of s) h)
          ∙ rw (lt-leb (set_words * u + set_words) (length ws) h, and_none (eqb v u && more w)) (sym (or_false (set_at ws v w)))

-- ---- a table to which b is added at a: one digit of one word
module _ (ws : List ℕ) (a b : ℕ) (fits : set_words * a + set_words ≤ length ws) (low : b < capacity) where
  abbrev place : ℕ
  place = set_words * a + b / word_bits

  abbrev word : ℕ
  word = bit_or (get_or ws place 0) (2 ^ (b % word_bits))

  pub put_digit : (u v : ℕ) → set_at (set ws place word) u v ≡ set_at ws u v || (eqb u a && eqb v b)
  put_digit u v = by (lt_or_ge v capacity) (ℕ_discrete (set_words * u + v / word_bits) place)
    where
      digit : set_words * u + v / word_bits ≡ place → v < capacity → eqb (v % word_bits) (b % word_bits) ≡ (eqb u a && eqb v b)
      digit e h = rw (eq-eqb u a (omega arith)) (same (ℕ_discrete v b))
        where
          same : Dec (v ≡ b) → eqb (v % word_bits) (b % word_bits) ≡ eqb v b
          same (yes d) = rw (d, eqb_yes (b % word_bits), eqb_yes b)
          same (no d) = rw (eqb_no v b d, eqb_no (v % word_bits) (b % word_bits) (λ g. d (omega arith)))

      apart : (set_words * u + v / word_bits ≡ place → ⊥) → (eqb u a && eqb v b) ≡ false
      apart d = is_false (eqb u a && eqb v b) (λ t. let p = eqb→eq u a (and_l (eqb u a) (eqb v b) t) in let q = eqb→eq v b (and_r (eqb u a) (eqb v b) t) in d (rw (p, q) refl))

      by : (v < capacity) ⊎ (capacity ≤ v) → Dec (set_words * u + v / word_bits ≡ place) → set_at (set ws place word) u v ≡ set_at ws u v || (eqb u a && eqb v b)
      by (inl h) (yes e) =
          set_in (set ws place word) u v h ∙ ap (λ (k : ℕ). bit (get_or (set ws place word) k 0) (v % word_bits)) e
          ∙ ap (λ (x : ℕ). bit x (v % word_bits)) (get_or-set_same ws place word 0 (omega arith))
          ∙ bit-or (get_or ws place 0) (2 ^ (b % word_bits)) (v % word_bits)
          ∙ ap₂ ◌||◌ (ap (λ (k : ℕ). bit (get_or ws k 0) (v % word_bits)) (sym e) ∙ sym (set_in ws u v h)) (bit-pow (b % word_bits) (v % word_bits) ∙ digit e h)
      by (inl h) (no d) =
          set_in (set ws place word) u v h ∙ ap (λ (x : ℕ). bit x (v % word_bits)) (get_or-set_other ws place (set_words * u + v / word_bits) word 0 d)
          ∙ sym (set_in ws u v h) ∙ rw (apart d) (sym (or_false (set_at ws u v)))
      by (inr h) e = set_past (set ws place word) u v h ∙ rw (set_past ws u v h, eqb_no v b (λ d. omega arith)) (sym (and_none (eqb u a)))

pub cleared : (ws : List ℕ) (n : ℕ) → ws ≡ zeros n → (u v : ℕ) → set_at ws u v ≡ false
cleared ws n e u v = ap (λ (l : List ℕ). set_at l u v) e ∙ ap (λ (f : ℕ → Bool). f v) (zeros_empty n u)

-- ---- edges, two nodes at a time
pub has_edge_end : (s : List ℕ) (u v : ℕ) → length s < 2 → has_edge s u v ≡ false
unfolding has_edge
has_edge_end [] u v h = refl
has_edge_end (a ∷ []) u v h = refl
has_edge_end (a ∷ b ∷ s) u v h = absurd (omega arith)

module _ (s e r : List ℕ) (q : s ≡ e ++ r) (two : length e ≡ 2) where
  pub both_below : all (λ v. ltb v capacity) s ≡ true → (get_or e 0 0 < capacity) × (get_or e 1 0 < capacity) × (all (λ v. ltb v capacity) r ≡ true)
  both_below h =
      let front : all (λ v. ltb v capacity) e ≡ true = all_left (λ v. ltb v capacity) e r (sym (ap (all (λ v. ltb v capacity)) q) ∙ h) in
      (below_at capacity e 0 front (omega arith), below_at capacity e 1 front (omega arith), all_right (λ v. ltb v capacity) e r (sym (ap (all (λ v. ltb v capacity)) q) ∙ h))

  pub has_edge_more : (u v : ℕ) (m : Bool)
      → m || has_edge s u v ≡ ((m || (eqb u (get_or e 0 0) && eqb v (get_or e 1 0))) || (eqb u (get_or e 1 0) && eqb v (get_or e 0 0))) || has_edge r u v
  unfolding has_edge
  has_edge_more u v m =
      let a = get_or e 0 0 in
      let b = get_or e 1 0 in
      ap (λ (t : List ℕ). m || has_edge t u v) (q ∙ ap (λ (x : List ℕ). x ++ r) (pair_of e two))
      ∙ rw (eqb_comm u a, eqb_comm v b, eqb_comm u b, eqb_comm v a) (swap m (eqb a u && eqb b v) (eqb a v) (eqb b u) (has_edge r u v))
    where
      swap : (m x p q z : Bool) → m || (x || p && q || z) ≡ ((m || x) || (q && p)) || z
      swap true x p q z = refl
      swap false true p q z = refl
      swap false false true true z = refl
      swap false false true false z = refl
      swap false false false true z = refl
      swap false false false false z = refl

-- nodes below n have their digits in a table for each node
pub edges_fit : (n : ℕ) (l : List ℕ) → n ≤ capacity → all (λ v. ltb v n) l ≡ true → all (λ v. ltb v capacity) l ≡ true
edges_fit n l h a = all_more (λ v. ltb v n) (λ v. ltb v capacity) l (λ v e. lt-ltb v capacity (omega (arith, ltb-true v n e))) a
