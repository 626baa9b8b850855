-- A table of sets: the words of one set, what a set that is put in leaves of the others, and a table of empty sets.
use Prim.Native.Nat.{ℕ, zero, suc, ◌+◌, ◌-◌, ◌*◌, ◌/◌, ◌%◌, ◌^◌, ◌≤◌, ◌<◌}
use mathlib.Core.Path.{◌≡◌, refl, sym, ap, ap₂, ◌∙◌, subst, fun_ext}
use mathlib.Core.Bool.{Bool, true, false, cond, not, ◌&&◌}
use mathlib.Core.List.{List, [], ◌∷◌, ◌++◌, append_assoc, append-nil}
use mathlib.Core.Logic.{◌≢◌, ◌⊎◌, inl, inr}
use native.Mathlib.Nat.{min-le_left}
use native.Mathlib.Decide.{ℕ_discrete}
use native.Mathlib.Omega.{arith}
use native.Mathlib.Numerals.{lt_of_le_of_ne}
use lib.Bits.{bit_and, bit_xor, xor_zero_r}
use lib.Dec.{T, eqb, leb, ltb, leb→le, le→leb, eqb→eq}
use lib.ListN.{length, get_or, set, take, drop, length-append, length-take, length-drop, length-set, get_or-append, get_or-eq_default}
use lib.Seq.{get_or-set_same, get_or-set_other, length-take-le, take_at, drop_at, get_or-take, get_or-drop, get_or-append-add, sets-eq}
use Rattle.nodes.specs.Bit.{◌⊕◌, bit}
use Rattle.nodes.specs.Row.{parity, any_below, lowest, members, members_from}
use Rattle.nodes.specs.NodeSet.{word_bits, capacity, member_of, member, words_of}
use Rattle.nodes.specs.Lists.{zeros}
use Rattle.nodes.specs.SetTable.{set_words, table_words, set_at, put_set, add_words, add_set, add_sets, raised}
use Rattle.nodes.proofs.Lists.{zeros_at}
use Rattle.nodes.proofs.Logic.{is_true, is_false, from_false, dec, and_none, and_all, ⊕_none, ⊕_assoc, lt_or_ge, le_or_lt, cond_t, cond_f, eqb_no, eqb_yes}
use Rattle.nodes.proofs.Row.{parity_none, any_in, any_out, dot_comm, ltb_yes, ltb_no}
use Rattle.nodes.proofs.Members.{members_snoc, members_ext, members_none}
use Rattle.nodes.proofs.Remove.{removed, parity-lowest, members-cons}
use Rattle.nodes.proofs.Digits.{bit_drop}
use Rattle.nodes.proofs.Bit.{bit_zero, bit-xor}
use Rattle.nodes.proofs.NodeSet.{member_head, member_tail, member_past}
use Rattle.nodes.proofs.NodeSetCount.{word_some}

-- ---- the words of one set
part_at : (n m : ℕ) (ws : List ℕ) (q : ℕ) → q < m → get_or (take m (drop n ws)) q 0 ≡ get_or ws (n + q) 0
part_at n m ws q h = get_or-take m (drop n ws) q 0 h ∙ get_or-drop n ws q 0

part_past : (n m : ℕ) (ws : List ℕ) (q : ℕ) → m ≤ q → get_or (take m (drop n ws)) q 0 ≡ 0
part_past n m ws q h = get_or-eq_default (take m (drop n ws)) 0 (omega (arith, length-take m (drop n ws), min-le_left m (length (drop n ws))))

-- a node's digit in the table
pub set_in : (ws : List ℕ) (u v : ℕ) → v < capacity → set_at ws u v ≡ bit (get_or ws (set_words * u + v / word_bits) 0) (v % word_bits)
unfolding set_at member_of
set_in ws u v h = ap (λ (x : ℕ). bit x (v % word_bits)) (part_at (set_words * u) set_words ws (v / word_bits) (omega arith))

-- no set has more than its words
pub set_past : (ws : List ℕ) (u v : ℕ) → capacity ≤ v → set_at ws u v ≡ false
unfolding set_at member_of
set_past ws u v h = ap (λ (x : ℕ). bit x (v % word_bits)) (part_past (set_words * u) set_words ws (v / word_bits) (omega arith)) ∙ bit_zero (v % word_bits)

-- a set in its two words, of which one past the table is 0
pub set_words_lem : (ws : List ℕ) (u low high : ℕ) → low ≡ get_or ws (set_words * u) 0 → high ≡ get_or ws (set_words * u + 1) 0 → member_of (low ∷ high ∷ []) ≡ set_at ws u
unfolding set_at member_of
set_words_lem ws u low high a b = fun_ext (λ v. ap (λ (x : ℕ). bit x (v % word_bits)) (word (v / word_bits)))
  where
    word : (q : ℕ) → get_or (low ∷ high ∷ []) q 0 ≡ get_or (take set_words (drop (set_words * u) ws)) q 0
    word zero = a ∙ ap (λ (k : ℕ). get_or ws k 0) plain ∙ sym (part_at (set_words * u) set_words ws 0 (omega arith))
      where
        plain : set_words * u ≡ set_words * u + 0
        plain = omega arith
    word (suc zero) = b ∙ sym (part_at (set_words * u) set_words ws 1 (omega arith))
    word (suc (suc q)) = sym (part_past (set_words * u) set_words ws (suc (suc q)) (omega arith))

-- tables with the same words from set u's first on, as far as they are its own
pub set_agree : (ws xs : List ℕ) (u : ℕ) → ((q : ℕ) → q < set_words → get_or ws (set_words * u + q) 0 ≡ get_or xs (set_words * u + q) 0) → set_at ws u ≡ set_at xs u
set_agree ws xs u h = fun_ext (λ v. by v (lt_or_ge v capacity))
  where
    by : (v : ℕ) → (v < capacity) ⊎ (capacity ≤ v) → set_at ws u v ≡ set_at xs u v
    by v (inl l) = set_in ws u v l ∙ ap (λ (x : ℕ). bit x (v % word_bits)) (h (v / word_bits) (omega arith)) ∙ sym (set_in xs u v l)
    by v (inr l) = set_past ws u v l ∙ sym (set_past xs u v l)

-- ---- a set is put in

module _ (ws : List ℕ) (u : ℕ) (s : List ℕ) where
  pub put_in : set_words * u + set_words ≤ length ws → put_set ws u s ≡ take (set_words * u) ws ++ (s ++ drop (set_words * u + set_words) ws)
  unfolding put_set
  put_in h =
      cond_t (leb (set_words * u + set_words) (length ws)) (take (set_words * u) ws ++ (s ++ drop (set_words * u + set_words) ws)) ws
      (le→leb (set_words * u + set_words) (length ws) h)

  pub put_out : length ws < set_words * u + set_words → put_set ws u s ≡ ws
  unfolding put_set
  put_out h =
      cond_f (leb (set_words * u + set_words) (length ws)) (take (set_words * u) ws ++ (s ++ drop (set_words * u + set_words) ws)) ws
      (λ t. apart (leb→le (set_words * u + set_words) (length ws) t))
    where
      apart : set_words * u + set_words ≤ length ws → ⊥
      apart g = omega arith

  module _ (e : length s ≡ set_words) where
    pub put_length : length (put_set ws u s) ≡ length ws
    put_length = by (le_or_lt (set_words * u + set_words) (length ws))
      where
        by : (set_words * u + set_words ≤ length ws) ⊎ (length ws < set_words * u + set_words) → length (put_set ws u s) ≡ length ws
        by (inl h) =
            ap length (put_in h) ∙ length-append (take (set_words * u) ws) (s ++ drop (set_words * u + set_words) ws)
            ∙ omega (arith, length-take-le (set_words * u) ws (omega arith), length-append s (drop (set_words * u + set_words) ws), length-drop (set_words * u + set_words) ws)
        by (inr h) = ap length (put_out h)

    -- the set itself
    pub put_same : set_words * u + set_words ≤ length ws → set_at (put_set ws u s) u ≡ member_of s
    unfolding set_at
    put_same h =
        ap (λ (l : List ℕ). member_of (take set_words (drop (set_words * u) l))) (put_in h)
        ∙ ap (λ (l : List ℕ). member_of (take set_words l)) (drop_at (take (set_words * u) ws) (s ++ drop (set_words * u + set_words) ws) (set_words * u) (length-take-le (set_words * u) ws (omega arith)))
        ∙ ap member_of (take_at s (drop (set_words * u + set_words) ws) set_words e)

    before : (i : ℕ) → set_words * u + set_words ≤ length ws → i < set_words * u → get_or (put_set ws u s) i 0 ≡ get_or ws i 0
    before i h l =
        ap (λ (l : List ℕ). get_or l i 0) (put_in h)
        ∙ get_or-append (take (set_words * u) ws) (s ++ drop (set_words * u + set_words) ws) 0 i (omega (arith, length-take-le (set_words * u) ws (omega arith)))
        ∙ get_or-take (set_words * u) ws i 0 l

    after : (i : ℕ) → set_words * u + set_words ≤ length ws → set_words * u + set_words ≤ i → get_or (put_set ws u s) i 0 ≡ get_or ws i 0
    after i h l =
        let a = take (set_words * u) ws in
        let d = drop (set_words * u + set_words) ws in
        let k = i - (set_words * u + set_words) in
        let n : length a ≡ set_words * u = length-take-le (set_words * u) ws (omega arith) in
        let p : i ≡ length a + (length s + k) = omega arith in
        let q : set_words * u + set_words + k ≡ i = omega arith in
        ap₂ (λ (l : List ℕ) (j : ℕ). get_or l j 0) (put_in h) p ∙ get_or-append-add a (s ++ d) (length s + k) 0 ∙ get_or-append-add s d k 0
        ∙ get_or-drop (set_words * u + set_words) ws k 0 ∙ ap (λ (j : ℕ). get_or ws j 0) q

    -- the other sets are as they were
    pub put_other : (v : ℕ) → u ≢ v → set_at (put_set ws u s) v ≡ set_at ws v
    put_other v n = by (le_or_lt (set_words * u + set_words) (length ws))
      where
        by : (set_words * u + set_words ≤ length ws) ⊎ (length ws < set_words * u + set_words) → set_at (put_set ws u s) v ≡ set_at ws v
        by (inl h) = set_agree (put_set ws u s) ws v (λ q l. place q l (lt_or_ge u v))
          where
            place : (q : ℕ) → q < set_words → (u < v) ⊎ (v ≤ u) → get_or (put_set ws u s) (set_words * v + q) 0 ≡ get_or ws (set_words * v + q) 0
            place q l (inl g) = after (set_words * v + q) h (omega arith)
            place q l (inr g) = let d : v ≢ u = λ x. n (sym x) in before (set_words * v + q) h (below d g)
              where
                below : v ≢ u → v ≤ u → set_words * v + q < set_words * u
                below d g = omega (arith, lt_of_le_of_ne g d)
        by (inr h) = ap (λ (l : List ℕ). set_at l v) (put_out h)

    -- each set, in one line
    pub put_each : set_words * u + set_words ≤ length ws → (v w : ℕ) → set_at (put_set ws u s) v w ≡ cond (eqb v u) (member_of s w) (set_at ws v w)
    put_each h v w = by (ℕ_discrete u v)
      where
        by : Dec (u ≡ v) → set_at (put_set ws u s) v w ≡ cond (eqb v u) (member_of s w) (set_at ws v w)
        by (yes p) = ap (λ (k : ℕ). set_at (put_set ws u s) k w) (sym p) ∙ ap (λ (f : ℕ → Bool). f w) (put_same h)
            ∙ ap (λ (b : Bool). cond b (member_of s w) (set_at ws v w)) (sym (ap (λ (k : ℕ). eqb k u) (sym p) ∙ eqb_yes u))
        by (no n) = ap (λ (f : ℕ → Bool). f w) (put_other v n) ∙ ap (λ (b : Bool). cond b (member_of s w) (set_at ws v w)) (sym (eqb_no v u (λ x. n (sym x))))

-- two words that are written one after the other
pub put_words : (ws : List ℕ) (u low high : ℕ) → set_words * u + set_words ≤ length ws → set (set ws (set_words * u) low) (set_words * u + 1) high ≡ put_set ws u (low ∷ high ∷ [])
put_words ws u low high h =
    ap (λ (k : ℕ). set (set ws (set_words * u) low) k high) next ∙ sets-eq (low ∷ high ∷ []) ws (set_words * u) h
    ∙ append_assoc (take (set_words * u) ws) (low ∷ high ∷ []) (drop (set_words * u + set_words) ws) ∙ sym (put_in ws u (low ∷ high ∷ []) h)
  where
    next : set_words * u + 1 ≡ suc (set_words * u)
    next = omega arith

-- ---- a set is added to others
pub add_length : (x ws : List ℕ) (i : ℕ) → length (add_words ws i x) ≡ length ws
unfolding add_words
add_length [] ws i = refl
add_length (w ∷ x) ws i = add_length x (set ws i (bit_xor (get_or ws i 0) w)) (suc i) ∙ length-set ws i (bit_xor (get_or ws i 0) w)

-- the word that x has for place j, where it begins at place i
abbrev word_from : ℕ → List ℕ → ℕ → ℕ
word_from i x j = cond (leb i j) (get_or x (j - i) 0) 0

word_before : (i j : ℕ) (x : List ℕ) → j < i → word_from i x j ≡ 0
word_before i j x h = ap (λ (b : Bool). cond b (get_or x (j - i) 0) 0) (is_false (leb i j) (λ t. absurd (omega (arith, leb→le i j t))))

word_at : (i j : ℕ) (x : List ℕ) → i ≤ j → word_from i x j ≡ get_or x (j - i) 0
word_at i j x h = ap (λ (b : Bool). cond b (get_or x (j - i) 0) 0) (is_true (leb i j) (le→leb i j h))

added_word : (x ws : List ℕ) (i j : ℕ) → j < length ws → get_or (add_words ws i x) j 0 ≡ bit_xor (get_or ws j 0) (word_from i x j)
unfolding add_words
added_word [] ws i j h = sym (ap (bit_xor (get_or ws j 0)) (by (leb i j)) ∙ xor_zero_r (get_or ws j 0))
  where
    by : (b : Bool) → ◌≡◌ {A = ℕ} (cond b 0 0) 0
    by true = refl
    by false = refl
added_word (w ∷ x) ws i j h = added_word x ws' (suc i) j (omega (arith, length-set ws i v)) ∙ by (lt_or_ge j i) (ℕ_discrete j i)
  where
    v : ℕ
    v = bit_xor (get_or ws i 0) w

    ws' : List ℕ
    ws' = set ws i v

    by : (j < i) ⊎ (i ≤ j) → Dec (j ≡ i) → bit_xor (get_or ws' j 0) (word_from (suc i) x j) ≡ bit_xor (get_or ws j 0) (word_from i (w ∷ x) j)
    by (inl l) (yes e) = absurd (omega arith)
    by (inl l) (no n) = ap₂ bit_xor (get_or-set_other ws i j v 0 n) (word_before (suc i) j x (omega arith) ∙ sym (word_before i j (w ∷ x) l))
    by (inr l) (yes e) =
        let z : j - i ≡ 0 = omega arith in
        ap₂ bit_xor (ap (λ (k : ℕ). get_or ws' k 0) e ∙ get_or-set_same ws i v 0 (omega arith)) (word_before (suc i) j x (omega arith))
        ∙ xor_zero_r v
        ∙ sym (ap₂ (λ (k : ℕ) (y : ℕ). bit_xor (get_or ws k 0) y) e (word_at i j (w ∷ x) l ∙ ap (λ (k : ℕ). get_or (w ∷ x) k 0) z))
    by (inr l) (no n) =
        let g : suc i ≤ j = later n l in
        let z : j - i ≡ suc (j - suc i) = omega arith in
        ap₂ bit_xor (get_or-set_other ws i j v 0 n) (word_at (suc i) j x g ∙ sym (word_at i j (w ∷ x) l ∙ ap (λ (k : ℕ). get_or (w ∷ x) k 0) z))
      where
        later : j ≢ i → i ≤ j → suc i ≤ j
        later n l = omega (arith, lt_of_le_of_ne l (λ e. n (sym e)))

module _ (ws : List ℕ) (u : ℕ) (x : List ℕ) (e : length x ≡ set_words) (h : set_words * u + set_words ≤ length ws) where
  pub added_set : (v k : ℕ) → set_at (add_set ws u x) v k ≡ set_at ws v k ⊕ (eqb v u && member_of x k)
  unfolding member_of
  added_set v k = by (lt_or_ge k capacity)
    where
      j : ℕ
      j = set_words * v + k / word_bits

      -- what x adds at this place
      digit : k < capacity → bit (word_from (set_words * u) x j) (k % word_bits) ≡ eqb v u && bit (get_or x (k / word_bits) 0) (k % word_bits)
      digit l = at (ℕ_discrete v u) (lt_or_ge v u)
        where
          at : Dec (v ≡ u) → (v < u) ⊎ (u ≤ v) → bit (word_from (set_words * u) x j) (k % word_bits) ≡ eqb v u && bit (get_or x (k / word_bits) 0) (k % word_bits)
          at (yes p) d =
              let z : j - set_words * u ≡ k / word_bits = omega arith in
              ap (λ (y : ℕ). bit y (k % word_bits)) (word_at (set_words * u) j x (omega arith) ∙ ap (λ (q : ℕ). get_or x q 0) z)
              ∙ ap (λ (b : Bool). b && bit (get_or x (k / word_bits) 0) (k % word_bits)) (sym (ap (λ (q : ℕ). eqb q u) p ∙ eqb_yes u))
          at (no n) (inl q) =
              ap (λ (y : ℕ). bit y (k % word_bits)) (word_before (set_words * u) j x (omega arith)) ∙ bit_zero (k % word_bits)
              ∙ ap (λ (b : Bool). b && bit (get_or x (k / word_bits) 0) (k % word_bits)) (sym (eqb_no v u n))
          at (no n) (inr q) =
              ap (λ (y : ℕ). bit y (k % word_bits))
              (word_at (set_words * u) j x (omega arith) ∙ get_or-eq_default x 0 (past (λ p. n (sym p)) q)) ∙ bit_zero (k % word_bits)
              ∙ ap (λ (b : Bool). b && bit (get_or x (k / word_bits) 0) (k % word_bits)) (sym (eqb_no v u n))
            where
              past : u ≢ v → u ≤ v → length x ≤ j - set_words * u
              past n q = omega (arith, lt_of_le_of_ne q n)

      inside : k < capacity → (j < length ws) ⊎ (length ws ≤ j) → bit (get_or (add_set ws u x) j 0) (k % word_bits) ≡ bit (get_or ws j 0) (k % word_bits) ⊕ (eqb v u && bit (get_or x (k / word_bits) 0) (k % word_bits))
      inside l (inl q) =
          ap (λ (y : ℕ). bit y (k % word_bits)) (added_word x ws (set_words * u) j q) ∙ bit-xor (get_or ws j 0) (word_from (set_words * u) x j) (k % word_bits)
          ∙ ap (λ (b : Bool). bit (get_or ws j 0) (k % word_bits) ⊕ b) (digit l)
      inside l (inr q) =
          ap (λ (y : ℕ). bit y (k % word_bits)) (get_or-eq_default (add_set ws u x) 0 (omega (arith, add_length x ws (set_words * u))) ∙ sym (get_or-eq_default ws 0 q))
          ∙ sym (ap (λ (b : Bool). bit (get_or ws j 0) (k % word_bits) ⊕ (b && bit (get_or x (k / word_bits) 0) (k % word_bits))) (eqb_no v u (λ p. absurd (omega arith)))
          ∙ ⊕_none (bit (get_or ws j 0) (k % word_bits)))

      by : (k < capacity) ⊎ (capacity ≤ k) → set_at (add_set ws u x) v k ≡ set_at ws v k ⊕ (eqb v u && bit (get_or x (k / word_bits) 0) (k % word_bits))
      by (inl l) =
          set_in (add_set ws u x) v k l ∙ inside l (lt_or_ge j (length ws))
          ∙ ap (λ (b : Bool). b ⊕ (eqb v u && bit (get_or x (k / word_bits) 0) (k % word_bits))) (sym (set_in ws v k l))
      by (inr l) =
          set_past (add_set ws u x) v k l
          ∙ sym (ap₂ (λ (a b : Bool). a ⊕ (eqb v u && b)) (set_past ws v k l) (ap (λ (y : ℕ). bit y (k % word_bits)) (get_or-eq_default x 0 (omega arith)) ∙ bit_zero (k % word_bits))
          ∙ and_none (eqb v u))

pub sets-length : (us ws x : List ℕ) → length (add_sets ws us x) ≡ length ws
unfolding add_sets
sets-length [] ws x = refl
sets-length (u ∷ us) ws x = sets-length us (add_set ws u x) x ∙ add_length x ws (set_words * u)

pub sets-append : (us vs ws x : List ℕ) → add_sets ws (us ++ vs) x ≡ add_sets (add_sets ws us x) vs x
unfolding add_sets
sets-append [] vs ws x = refl
sets-append (u ∷ us) vs ws x = sets-append us vs (add_set ws u x) x

-- ---- members word by word
raised_none : (l : List ℕ) → raised 0 l ≡ l
unfolding raised
raised_none [] = refl
raised_none (k ∷ l) = let e : 0 + k ≡ k = omega arith in ap₂ (λ (a : ℕ) (m : List ℕ). a ∷ m) e (raised_none l)

raised-append : (base : ℕ) (l m : List ℕ) → raised base (l ++ m) ≡ raised base l ++ raised base m
unfolding raised
raised-append base [] m = refl
raised-append base (k ∷ l) m = ap (λ (r : List ℕ). (base + k) ∷ r) (raised-append base l m)

members_split : (m n : ℕ) (s : ℕ → Bool) → members (m + n) s ≡ members m s ++ raised m (members n (λ k. s (m + k)))
unfolding members_from raised
members_split m zero s = let e : m + 0 ≡ m = omega arith in ap (λ (k : ℕ). members k s) e ∙ sym (append-nil (members m s))
members_split m (suc n) s =
    let e : m + suc n ≡ suc (m + n) = omega arith in
    ap (λ (k : ℕ). members k s) e ∙ members_snoc (m + n) s
    ∙ ap (λ (l : List ℕ). l ++ cond (s (m + n)) ((m + n) ∷ []) []) (members_split m n s)
    ∙ append_assoc (members m s) (raised m (members n (λ k. s (m + k)))) (cond (s (m + n)) ((m + n) ∷ []) [])
    ∙ ap (λ (l : List ℕ). members m s ++ l)
    (ap (λ (l : List ℕ). raised m (members n (λ k. s (m + k))) ++ l) (by (s (m + n)))
    ∙ sym (raised-append m (members n (λ k. s (m + k))) (cond (s (m + n)) (n ∷ []) [])) ∙ ap (raised m) (sym (members_snoc n (λ k. s (m + k)))))
  where
    by : (b : Bool) → cond b ((m + n) ∷ []) [] ≡ raised m (cond b (n ∷ []) [])
    by true = refl
    by false = refl

pub members_words : (nodes : List ℕ) → members capacity (member nodes) ≡ raised 0 (members word_bits (bit (get_or nodes 0 0))) ++ raised word_bits (members word_bits (bit (get_or nodes 1 0)))
members_words nodes =
    members_split word_bits word_bits (member nodes)
    ∙ ap₂ (λ (l m : List ℕ). l ++ raised word_bits m)
    (members_ext word_bits (member nodes) (bit (get_or nodes 0 0)) (λ k h. member_head (get_or nodes 0 0) (get_or nodes 1 0 ∷ []) k h) ∙ sym (raised_none (members word_bits (bit (get_or nodes 0 0)))))
    (members_ext word_bits (λ k. member nodes (word_bits + k)) (bit (get_or nodes 1 0)) (λ k h. member_tail (get_or nodes 0 0) (get_or nodes 1 0 ∷ []) k ∙ member_head (get_or nodes 1 0) [] k h))

-- the node of the lowest digit, and then those of the others
pub word_cons : (base w : ℕ) → w < 2 ^ word_bits → w ≢ 0 → raised base (members word_bits (bit w)) ≡ (base + lowest word_bits (bit w)) ∷ raised base (members word_bits (bit (bit_and w (w - 1))))
unfolding raised
word_cons base w h n =
    ap (raised base) (members-cons word_bits (bit w) (word_some w h n)
    ∙ ap (λ (l : List ℕ). lowest word_bits (bit w) ∷ l) (members_ext word_bits (removed (bit w) (lowest word_bits (bit w))) (bit (bit_and w (w - 1))) (λ k l. sym (bit_drop word_bits w k h))))

pub word_nil : (base : ℕ) → raised base (members word_bits (bit 0)) ≡ []
unfolding raised
word_nil base = ap (raised base) (members_none word_bits (bit 0) (λ t. let (k, l, q) = any_out word_bits (bit 0) t in from_false (bit 0 k) (bit_zero k) q))

-- of the n sets from k on
added_from : (n k : ℕ) (s : ℕ → Bool) (ws x : List ℕ) → length x ≡ set_words → length ws ≡ table_words → k + n ≤ capacity → (v i : ℕ)
    → set_at (add_sets ws (members_from k n s) x) v i ≡ set_at ws v i ⊕ ((leb k v && ltb v (k + n)) && s v) && member_of x i
unfolding add_sets members_from
added_from zero k s ws x e h l v i =
    sym (ap (λ (b : Bool). set_at ws v i ⊕ (b && s v) && member_of x i) (none (lt_or_ge v k)) ∙ ⊕_none (set_at ws v i))
  where
    none : (v < k) ⊎ (k ≤ v) → leb k v && ltb v (k + 0) ≡ false
    none (inl q) = ap (λ (b : Bool). b && ltb v (k + 0)) (is_false (leb k v) (λ t. absurd (omega (arith, leb→le k v t))))
    none (inr q) = ap (λ (b : Bool). leb k v && b) (ltb_no v (k + 0) (omega arith)) ∙ and_none (leb k v)
added_from (suc n) k s ws x e h l v i =
    by (dec (s k)) (added_from n (k + 1) s (add_set ws k x) x e (add_length x ws (set_words * k) ∙ h) (omega arith) v i) (added_from n (k + 1) s ws x e h (omega arith) v i)
  where
    m : Bool
    m = member_of x i

    later : leb (k + 1) v && ltb v (k + 1 + n) ≡ (leb k v && ltb v (k + suc n)) && not (eqb v k)
    later = at (ℕ_discrete v k) (lt_or_ge v k)
      where
        same : ltb v (k + 1 + n) ≡ ltb v (k + suc n)
        same = let z : k + 1 + n ≡ k + suc n = omega arith in ap (ltb v) z

        at : Dec (v ≡ k) → (v < k) ⊎ (k ≤ v) → leb (k + 1) v && ltb v (k + 1 + n) ≡ (leb k v && ltb v (k + suc n)) && not (eqb v k)
        at (yes p) d =
            ap (λ (b : Bool). b && ltb v (k + 1 + n)) (is_false (leb (k + 1) v) (λ t. absurd (omega (arith, leb→le (k + 1) v t))))
            ∙ sym (ap (λ (b : Bool). (leb k v && ltb v (k + suc n)) && not b) (ap (λ (q : ℕ). eqb q k) p ∙ eqb_yes k) ∙ and_none (leb k v && ltb v (k + suc n)))
        at (no d) (inl q) =
            ap (λ (b : Bool). b && ltb v (k + 1 + n)) (is_false (leb (k + 1) v) (λ t. absurd (omega (arith, leb→le (k + 1) v t))))
            ∙ sym (ap (λ (b : Bool). (b && ltb v (k + suc n)) && not (eqb v k)) (is_false (leb k v) (λ t. absurd (omega (arith, leb→le k v t)))))
        at (no d) (inr q) =
            ap₂ ◌&&◌ (is_true (leb (k + 1) v) (le→leb (k + 1) v (next d q)) ∙ sym (is_true (leb k v) (le→leb k v q))) same
            ∙ sym (ap (λ (b : Bool). (leb k v && ltb v (k + suc n)) && not b) (eqb_no v k d) ∙ and_all (leb k v && ltb v (k + suc n)))
          where
            next : v ≢ k → k ≤ v → k + 1 ≤ v
            next d q = omega (arith, lt_of_le_of_ne q (λ z. d (sym z)))

    here : eqb v k ≡ (leb k v && ltb v (k + suc n)) && eqb v k
    here = at (ℕ_discrete v k)
      where
        at : Dec (v ≡ k) → eqb v k ≡ (leb k v && ltb v (k + suc n)) && eqb v k
        at (yes p) = ap (λ (b : Bool). b && eqb v k) (sym (ap₂ ◌&&◌ (is_true (leb k v) (le→leb k v (omega arith))) (ltb_yes v (k + suc n) (omega arith))))
        at (no d) = eqb_no v k d ∙ sym (ap (λ (b : Bool). (leb k v && ltb v (k + suc n)) && b) (eqb_no v k d) ∙ and_none (leb k v && ltb v (k + suc n)))

    -- with r for the range: what is added at k, and what at the later ones
    split : (r q y : Bool) → (T q → T y) → (r && q) && m ⊕ ((r && not q) && y) && m ≡ (r && y) && m
    split false q y f = refl
    split true true true f = ⊕_none m
    split true true false f = absurd (f tt)
    split true false y f = refl

    skip : (r q y : Bool) → (T q → T y → ⊥) → ((r && not q) && y) && m ≡ (r && y) && m
    skip false q y f = refl
    skip true true true f = absurd (f tt tt)
    skip true true false f = refl
    skip true false y f = refl

    by : T (s k) ⊎ (T (s k) → ⊥)
        → set_at (add_sets (add_set ws k x) (members_from (k + 1) n s) x) v i ≡ set_at (add_set ws k x) v i ⊕ ((leb (k + 1) v && ltb v (k + 1 + n)) && s v) && member_of x i
        → set_at (add_sets ws (members_from (k + 1) n s) x) v i ≡ set_at ws v i ⊕ ((leb (k + 1) v && ltb v (k + 1 + n)) && s v) && member_of x i
        → set_at (add_sets ws (members_from k (suc n) s) x) v i ≡ set_at ws v i ⊕ ((leb k v && ltb v (k + suc n)) && s v) && member_of x i
    by (inl t) with_it without =
        ap (λ (b : Bool). set_at (add_sets ws (cond b (k ∷ members_from (k + 1) n s) (members_from (k + 1) n s)) x) v i) (is_true (s k) t)
        ∙ with_it
        ∙ ap₂ (λ (a b : Bool). a ⊕ (b && s v) && m) (added_set ws k x e (omega arith) v i) later
        ∙ ⊕_assoc (set_at ws v i) (eqb v k && m) (((leb k v && ltb v (k + suc n)) && not (eqb v k)) && s v && m)
        ∙ ap (λ (b : Bool). set_at ws v i ⊕ b)
        (ap (λ (b : Bool). b && m ⊕ ((leb k v && ltb v (k + suc n)) && not (eqb v k)) && s v && m) here
        ∙ split (leb k v && ltb v (k + suc n)) (eqb v k) (s v) (λ q. subst (λ (z : ℕ). T (s z)) (sym (eqb→eq v k q)) t))
    by (inr f) with_it without =
        ap (λ (b : Bool). set_at (add_sets ws (cond b (k ∷ members_from (k + 1) n s) (members_from (k + 1) n s)) x) v i) (is_false (s k) f)
        ∙ without
        ∙ ap (λ (b : Bool). set_at ws v i ⊕ (b && s v) && m) later
        ∙ ap (λ (b : Bool). set_at ws v i ⊕ b) (skip (leb k v && ltb v (k + suc n)) (eqb v k) (s v) (λ q t. f (subst (λ (z : ℕ). T (s z)) (eqb→eq v k q) t)))

-- in a table with a set for each node
pub added_sets : (ws : List ℕ) (nodes x : List ℕ) → length ws ≡ table_words → (v i : ℕ)
    → set_at (add_sets ws (members capacity (member nodes)) (words_of x)) v i ≡ set_at ws v i ⊕ member nodes v && member x i
added_sets ws nodes x h v i =
    added_from capacity 0 (member nodes) ws (words_of x) refl h (omega arith) v i
    ∙ ap (λ (b : Bool). set_at ws v i ⊕ b && member x i) (by (lt_or_ge v capacity))
  where
    by : (v < capacity) ⊎ (capacity ≤ v) → (leb 0 v && ltb v (0 + capacity)) && member nodes v ≡ member nodes v
    by (inl l) = ap (λ (b : Bool). b && member nodes v) (ap₂ ◌&&◌ (is_true (leb 0 v) (le→leb 0 v (omega arith))) (ltb_yes v (0 + capacity) (omega arith)))
    by (inr l) = ap (λ (b : Bool). (leb 0 v && ltb v (0 + capacity)) && b) (member_past (words_of nodes) v l) ∙ and_none (leb 0 v && ltb v (0 + capacity)) ∙ sym (member_past (words_of nodes) v l)

-- ---- a table of empty sets
pub zeros_empty : (n u : ℕ) → set_at (zeros n) u ≡ (λ v. false)
zeros_empty n u = fun_ext (λ v. by v (lt_or_ge v capacity))
  where
    by : (v : ℕ) → (v < capacity) ⊎ (capacity ≤ v) → set_at (zeros n) u v ≡ false
    by v (inl h) = set_in (zeros n) u v h ∙ ap (λ (x : ℕ). bit x (v % word_bits)) (zeros_at n (set_words * u + v / word_bits)) ∙ bit_zero (v % word_bits)
    by v (inr h) = set_past (zeros n) u v h
