-- What operations on words do to the members, for lists of words of any length.
use Prim.Native.Nat.{ℕ, zero, suc, ◌+◌, ◌-◌, ◌*◌, ◌/◌, ◌%◌, ◌^◌, ◌≤◌, ◌<◌}
use mathlib.Core.Path.{◌≡◌, refl, sym, ap, ap₂, ◌∙◌, subst, fun_ext}
use mathlib.Core.Bool.{Bool, false, cond, not, ◌&&◌, ◌||◌}
use mathlib.Core.List.{List, [], ◌∷◌}
use mathlib.Core.Logic.{◌≢◌, ◌⊎◌, inl, inr}
use native.Mathlib.Nat.{mod-lt, zero-lt-suc, not-suc-le-zero, le_of_suc-le-suc}
use native.Mathlib.Decide.{ℕ_discrete}
use native.Mathlib.Omega.{arith}
use lib.Bits.{bit_and, bit_or, bit_xor}
use lib.Dec.{T, eqb, leb, ltb, ltb→lt, lt→ltb, leb→le, le→leb}
use lib.ListN.{get_or, set, length, replicate, get_or-eq_default}
use lib.Pow.{pow_pos, pow-lt}
use lib.Seq.{get_or-set_same, get_or-set_other}
use Rattle.nodes.specs.Bit.{◌⊕◌, bit}
use Rattle.nodes.specs.NodeSet.{word_bits, places, highest_of, capacity, member_of, words_from, member_in, member}
use Rattle.nodes.proofs.Logic.{is_true, is_false, beq_eq, lt_or_ge, and_l, and_r, and_in, eqb_no, eqb_yes, and_none, and_all, or_false}
use Rattle.nodes.specs.Row.{any_below}
use Rattle.nodes.proofs.Row.{ltb_yes, ltb_no, any_in}
use Rattle.nodes.proofs.Bit.{bit-and, bit-or, bit-xor, bit-not, bit-pow, bit_zero, bit_ext, bit_below, test_mask}

-- each word has no more than its digits
abbrev pub IsWords : List ℕ → Type 0
IsWords ws = (q : ℕ) → get_or ws q 0 < 2 ^ word_bits

pub words_nil : IsWords []
words_nil q = pow_pos word_bits

pub words_cons : (w : ℕ) (ws : List ℕ) → w < 2 ^ word_bits → IsWords ws → IsWords (w ∷ ws)
words_cons w ws h hs zero = h
words_cons w ws h hs (suc q) = hs q

pub words_tail : (w : ℕ) (ws : List ℕ) → IsWords (w ∷ ws) → IsWords ws
words_tail w ws h q = h (suc q)

pub in_word : (v : ℕ) → v % word_bits < word_bits
in_word v = mod-lt v (zero-lt-suc 63)

-- ---- the first word, and those after it
pub member_head : (w : ℕ) (ws : List ℕ) (k : ℕ) → k < word_bits → member_of (w ∷ ws) k ≡ bit w k
unfolding member_of
member_head w ws k h =
    let p : k / word_bits ≡ 0 = omega arith in
    let q : k % word_bits ≡ k = omega arith in
    ap₂ (λ (i r : ℕ). bit (get_or (w ∷ ws) i 0) r) p q

pub member_tail : (w : ℕ) (ws : List ℕ) (k : ℕ) → member_of (w ∷ ws) (word_bits + k) ≡ member_of ws k
unfolding member_of
member_tail w ws k =
    let p : (word_bits + k) / word_bits ≡ suc (k / word_bits) = omega arith in
    let q : (word_bits + k) % word_bits ≡ k % word_bits = omega arith in
    ap₂ (λ (i r : ℕ). bit (get_or (w ∷ ws) i 0) r) p q

pub member_past : (ws : List ℕ) (v : ℕ) → length ws * word_bits ≤ v → member_of ws v ≡ false
unfolding member_of
member_past ws v h = ap (λ (x : ℕ). bit x (v % word_bits)) (get_or-eq_default ws 0 (omega arith)) ∙ bit_zero (v % word_bits)

-- ---- so many words of a list
pub words_from_at : (n k : ℕ) (ws : List ℕ) (q : ℕ) → q < n → get_or (words_from k n ws) q 0 ≡ get_or ws (k + q) 0
words_from_at zero k ws q h = absurd (not-suc-le-zero h)
words_from_at (suc n) k ws zero h = let e : k ≡ k + 0 = omega arith in ap (λ (i : ℕ). get_or ws i 0) e
words_from_at (suc n) k ws (suc q) h = let e : suc k + q ≡ k + suc q = omega arith in words_from_at n (suc k) ws q (le_of_suc-le-suc h) ∙ ap (λ (i : ℕ). get_or ws i 0) e

pub length-words_from : (n k : ℕ) (ws : List ℕ) → length (words_from k n ws) ≡ n
length-words_from zero k ws = refl
length-words_from (suc n) k ws = ap suc (length-words_from n (suc k) ws)

word_in : (words : ℕ) (ws : List ℕ) (q : ℕ) → q < words → get_or (words_from 0 words ws) q 0 ≡ get_or ws q 0
word_in words ws q h = let e : 0 + q ≡ q = omega arith in words_from_at words 0 ws q h ∙ ap (λ (i : ℕ). get_or ws i 0) e

word_out : (words : ℕ) (ws : List ℕ) (q : ℕ) → words ≤ q → get_or (words_from 0 words ws) q 0 ≡ 0
word_out words ws q h = get_or-eq_default (words_from 0 words ws) 0 {n = q} (omega (arith, length-words_from words 0 ws))

-- a set has no node past its words
pub member_in_past : (words : ℕ) (s : List ℕ) (v : ℕ) → places words ≤ v → member_in words s v ≡ false
member_in_past words s v h = member_past (words_from 0 words s) v (omega (arith, length-words_from words 0 s))

-- its words are all that there is
pub member_whole : (words : ℕ) (s : List ℕ) → length s ≡ words → member_in words s ≡ member_of s
unfolding member_of
member_whole words s e = fun_ext (λ v. ap (λ (x : ℕ). bit x (v % word_bits)) (by (v / word_bits) (lt_or_ge (v / word_bits) words)))
  where
    by : (q : ℕ) → (q < words) ⊎ (words ≤ q) → get_or (words_from 0 words s) q 0 ≡ get_or s q 0
    by q (inl l) = word_in words s q l
    by q (inr l) = word_out words s q l ∙ sym (get_or-eq_default s 0 {n = q} (omega arith))

pub member-lt : (s : List ℕ) (v : ℕ) → T (member s v) → v < capacity
member-lt s v t = by (lt_or_ge v capacity)
  where
    by : (v < capacity) ⊎ (capacity ≤ v) → v < capacity
    by (inl h) = h
    by (inr h) = absurd (rw (member_in_past 2 s v h) at t)

-- nothing is left
pub none_left : (s : List ℕ) → (T (any_below capacity (member s)) → ⊥) → (u : ℕ) → member s u ≡ false
none_left s f u = by (lt_or_ge u capacity)
  where
    by : (u < capacity) ⊎ (capacity ≤ u) → member s u ≡ false
    by (inl h) = is_false (member s u) (λ t. f (any_in capacity (member s) u h t))
    by (inr h) = member_in_past 2 s u h

-- `w & mask(v) != 0`, for v's word w
pub member_test : (ws : List ℕ) (v q : ℕ) → v / word_bits ≡ q → not (eqb (bit_and (get_or ws q 0) (2 ^ (v % word_bits))) 0) ≡ member_of ws v
unfolding member_of
member_test ws v q e = test_mask (get_or ws q 0) (v % word_bits) ∙ ap (λ (k : ℕ). bit (get_or ws k 0) (v % word_bits)) (sym e)

-- ---- one word is changed by the digit of v
module _ (ws : List ℕ) (v q : ℕ) (h : q < length ws) (e : v / word_bits ≡ q) where
  set_here : (w u : ℕ) → u / word_bits ≡ q → member_of (set ws q w) u ≡ bit w (u % word_bits)
  unfolding member_of
  set_here w u p = ap (λ (k : ℕ). bit (get_or (set ws q w) k 0) (u % word_bits)) p ∙ ap (λ (x : ℕ). bit x (u % word_bits)) (get_or-set_same ws q w 0 h)

  set_there : (w u : ℕ) → u / word_bits ≢ q → member_of (set ws q w) u ≡ member_of ws u
  unfolding member_of
  set_there w u n = ap (λ (x : ℕ). bit x (u % word_bits)) (get_or-set_other ws q (u / word_bits) w 0 n)

  same_place : (u : ℕ) → u / word_bits ≡ q → eqb (u % word_bits) (v % word_bits) ≡ eqb u v
  same_place u p = by (ℕ_discrete u v)
    where
      by : Dec (u ≡ v) → eqb (u % word_bits) (v % word_bits) ≡ eqb u v
      by (yes a) = rw (a, eqb_yes v, eqb_yes (v % word_bits))
      by (no n) = eqb_no (u % word_bits) (v % word_bits) (λ a. n (omega arith)) ∙ sym (eqb_no u v n)

  other_place : (u : ℕ) → u / word_bits ≢ q → eqb u v ≡ false
  other_place u n = eqb_no u v (λ a. n (omega arith))

  -- a word in which the digit of v alone is changed, to what `on` makes of it
  digit_changed : (on : Bool → Bool → Bool) → ((b : Bool) → on b false ≡ b) → (w : ℕ)
      → ((k : ℕ) → k < word_bits → bit w k ≡ on (bit (get_or ws q 0) k) (eqb k (v % word_bits)))
      → (u : ℕ) → member_of (set ws q w) u ≡ on (member_of ws u) (eqb u v)
  unfolding member_of
  digit_changed on keep w f u = by (ℕ_discrete (u / word_bits) q)
    where
      by : Dec (u / word_bits ≡ q) → member_of (set ws q w) u ≡ on (member_of ws u) (eqb u v)
      by (yes p) = set_here w u p ∙ f (u % word_bits) (in_word u) ∙ ap₂ on (ap (λ (k : ℕ). bit (get_or ws k 0) (u % word_bits)) (sym p)) (same_place u p)
      by (no n) = set_there w u n ∙ sym (keep (member_of ws u)) ∙ ap (on (member_of ws u)) (sym (other_place u n))

  -- v is put in
  pub member_put : (u : ℕ) → member_of (set ws q (bit_or (get_or ws q 0) (2 ^ (v % word_bits)))) u ≡ (member_of ws u || eqb u v)
  member_put =
      digit_changed ◌||◌ or_false (bit_or (get_or ws q 0) (2 ^ (v % word_bits)))
      (λ k l. bit-or (get_or ws q 0) (2 ^ (v % word_bits)) k ∙ ap (λ (b : Bool). bit (get_or ws q 0) k || b) (bit-pow (v % word_bits) k))

  -- v is taken out
  pub member_cut : (u : ℕ) → member_of (set ws q (bit_and (get_or ws q 0) (2 ^ word_bits - 1 - 2 ^ (v % word_bits)))) u ≡ (member_of ws u && not (eqb u v))
  member_cut =
      digit_changed (λ a b. a && not b) and_all (bit_and (get_or ws q 0) (2 ^ word_bits - 1 - 2 ^ (v % word_bits)))
      (λ k l. bit-and (get_or ws q 0) (2 ^ word_bits - 1 - 2 ^ (v % word_bits)) k
      ∙ ap (λ (b : Bool). bit (get_or ws q 0) k && b) (bit-not word_bits (2 ^ (v % word_bits)) k (pow-lt (in_word v)) l ∙ ap not (bit-pow (v % word_bits) k)))

-- past the last word: there is nothing to take out
pub member_cut_past : (ws : List ℕ) (v : ℕ) → length ws * word_bits ≤ v → (u : ℕ) → member_of ws u ≡ (member_of ws u && not (eqb u v))
member_cut_past ws v h u = by (ℕ_discrete u v)
  where
    by : Dec (u ≡ v) → member_of ws u ≡ (member_of ws u && not (eqb u v))
    by (yes e) = rw (e, member_past ws v h)
    by (no n) = rw (eqb_no u v n) (sym (and_all (member_of ws u)))

-- ---- word by word
module _ (words : ℕ) (r us vs : List ℕ) where
  -- an operation that acts on each digit apart, and leaves the word 0 where both are
  member_merged : (op : ℕ → ℕ → ℕ) (on : Bool → Bool → Bool) → op 0 0 ≡ 0
      → ((q : ℕ) → q < words → get_or r q 0 ≡ op (get_or us q 0) (get_or vs q 0))
      → ((q k : ℕ) → q < words → k < word_bits → bit (op (get_or us q 0) (get_or vs q 0)) k ≡ on (bit (get_or us q 0) k) (bit (get_or vs q 0) k))
      → on false false ≡ false → member_in words r ≡ (λ u. on (member_in words us u) (member_in words vs u))
  unfolding member_of
  member_merged op on z w o n = fun_ext (λ u. by (u / word_bits) (u % word_bits) (in_word u) (lt_or_ge (u / word_bits) words))
    where
      by : (q k : ℕ) → k < word_bits → (q < words) ⊎ (words ≤ q)
          → bit (get_or (words_from 0 words r) q 0) k ≡ on (bit (get_or (words_from 0 words us) q 0) k) (bit (get_or (words_from 0 words vs) q 0) k)
      by q k h (inl l) =
          ap (λ (x : ℕ). bit x k) (word_in words r q l ∙ w q l) ∙ o q k l h
          ∙ sym (ap₂ (λ (x y : ℕ). on (bit x k) (bit y k)) (word_in words us q l) (word_in words vs q l))
      by q k h (inr l) =
          ap (λ (x : ℕ). bit x k) (word_out words r q l) ∙ bit_zero k ∙ sym n
          ∙ sym (ap₂ (λ (x y : ℕ). on (bit x k) (bit y k)) (word_out words us q l) (word_out words vs q l) ∙ ap₂ on (bit_zero k) (bit_zero k))

  pub member_xor : ((q : ℕ) → q < words → get_or r q 0 ≡ bit_xor (get_or us q 0) (get_or vs q 0)) → member_in words r ≡ (λ u. member_in words us u ⊕ member_in words vs u)
  member_xor w = member_merged bit_xor ◌⊕◌ refl w (λ q k l h. bit-xor (get_or us q 0) (get_or vs q 0) k) refl

  pub member_or : ((q : ℕ) → q < words → get_or r q 0 ≡ bit_or (get_or us q 0) (get_or vs q 0)) → member_in words r ≡ (λ u. member_in words us u || member_in words vs u)
  member_or w = member_merged bit_or ◌||◌ refl w (λ q k l h. bit-or (get_or us q 0) (get_or vs q 0) k) refl

  pub member_and : ((q : ℕ) → q < words → get_or r q 0 ≡ bit_and (get_or us q 0) (get_or vs q 0)) → member_in words r ≡ (λ u. member_in words us u && member_in words vs u)
  member_and w = member_merged bit_and ◌&&◌ refl w (λ q k l h. bit-and (get_or us q 0) (get_or vs q 0) k) refl

  pub member_minus : ((q : ℕ) → q < words → get_or vs q 0 < 2 ^ word_bits) → ((q : ℕ) → q < words → get_or r q 0 ≡ bit_and (get_or us q 0) (2 ^ word_bits - 1 - get_or vs q 0))
      → member_in words r ≡ (λ u. member_in words us u && not (member_in words vs u))
  member_minus small w =
      member_merged (λ a b. bit_and a (2 ^ word_bits - 1 - b)) (λ a b. a && not b) refl w
      (λ q k l h. bit-and (get_or us q 0) (2 ^ word_bits - 1 - get_or vs q 0) k ∙ ap (λ (b : Bool). bit (get_or us q 0) k && b) (bit-not word_bits (get_or vs q 0) k (small q l) h)) refl

-- ---- words with no digit, and words with the digits below n
pub member_empty : (n u : ℕ) → member_of (replicate n 0) u ≡ false
unfolding member_of
member_empty n u = ap (λ (x : ℕ). bit x (u % word_bits)) (zeros n (u / word_bits)) ∙ bit_zero (u % word_bits)
  where
    zeros : (n q : ℕ) → ◌≡◌ {A = ℕ} (get_or (replicate n 0) q 0) 0
    zeros zero q = refl
    zeros (suc n) zero = refl
    zeros (suc n) (suc q) = zeros n q

-- ---- one word after the other is written
-- the words before that of n have all digits, and that of n those below it
abbrev pub front_word : ℕ → ℕ → ℕ → ℕ
front_word n front q = cond (ltb q (n / word_bits)) (2 ^ word_bits - 1) (cond (eqb q (n / word_bits)) front 0)

-- the word of v alone has a digit
abbrev pub only_word : ℕ → ℕ → ℕ → ℕ
only_word v digit q = cond (eqb q (v / word_bits)) digit 0

module _ (words : ℕ) (h : 0 < words) (r : List ℕ) where
  -- no digit past the last word
  past_words : (u : ℕ) → words ≤ u / word_bits → member_in words r u ≡ false
  past_words u l = member_in_past words r u (omega arith)

  pub member_front : (n front : ℕ) → front ≡ 2 ^ (n % word_bits) - 1 → ((q : ℕ) → q < words → get_or r q 0 ≡ front_word n front q) → member_in words r ≡ (λ u. ltb u n && leb u (highest_of words))
  unfolding member_of
  member_front n front f w = fun_ext (λ u. by u (lt_or_ge (u / word_bits) words))
    where
      inside : (u : ℕ) → (u / word_bits < n / word_bits) ⊎ (n / word_bits ≤ u / word_bits) → Dec (u / word_bits ≡ n / word_bits) → bit (front_word n front (u / word_bits)) (u % word_bits) ≡ ltb u n
      inside u (inl l) d =
          ap (λ (x : Bool). bit (cond x (2 ^ word_bits - 1) (cond (eqb (u / word_bits) (n / word_bits)) front 0)) (u % word_bits)) (ltb_yes (u / word_bits) (n / word_bits) l)
          ∙ bit_below word_bits (u % word_bits) ∙ ltb_yes (u % word_bits) word_bits (in_word u) ∙ sym (ltb_yes u n (omega arith))
      inside u (inr l) (yes p) =
          ap (λ (x : Bool). bit (cond x (2 ^ word_bits - 1) (cond (eqb (u / word_bits) (n / word_bits)) front 0)) (u % word_bits)) (ltb_no (u / word_bits) (n / word_bits) l)
          ∙ ap (λ (x : Bool). bit (cond x front 0) (u % word_bits)) (ap (λ (x : ℕ). eqb x (n / word_bits)) p ∙ eqb_yes (n / word_bits))
          ∙ ap (λ (x : ℕ). bit x (u % word_bits)) f ∙ bit_below (n % word_bits) (u % word_bits) ∙ same (lt_or_ge u n)
        where
          same : (u < n) ⊎ (n ≤ u) → ltb (u % word_bits) (n % word_bits) ≡ ltb u n
          same (inl a) = ltb_yes (u % word_bits) (n % word_bits) (omega arith) ∙ sym (ltb_yes u n a)
          same (inr a) = ltb_no (u % word_bits) (n % word_bits) (omega arith) ∙ sym (ltb_no u n a)
      inside u (inr l) (no p) =
          ap (λ (x : Bool). bit (cond x (2 ^ word_bits - 1) (cond (eqb (u / word_bits) (n / word_bits)) front 0)) (u % word_bits)) (ltb_no (u / word_bits) (n / word_bits) l)
          ∙ ap (λ (x : Bool). bit (cond x front 0) (u % word_bits)) (eqb_no (u / word_bits) (n / word_bits) p)
          ∙ bit_zero (u % word_bits) ∙ sym (ltb_no u n (above p))
        where
          above : u / word_bits ≢ n / word_bits → n ≤ u
          above p = le_of_not_lt (λ a. p (omega arith))
            where
              le_of_not_lt : (u < n → ⊥) → n ≤ u
              le_of_not_lt f = elim (lt_or_ge u n) as (λ _. n ≤ u) [ inl a ↦ absurd (f a) | inr a ↦ a ]

      by : (u : ℕ) → (u / word_bits < words) ⊎ (words ≤ u / word_bits) → member_in words r u ≡ (ltb u n && leb u (highest_of words))
      by u (inl l) =
          ap (λ (x : ℕ). bit x (u % word_bits)) (word_in words r (u / word_bits) l ∙ w (u / word_bits) l) ∙ inside u (lt_or_ge (u / word_bits) (n / word_bits)) (ℕ_discrete (u / word_bits) (n / word_bits))
          ∙ sym (ap (λ (b : Bool). ltb u n && b) (is_true (leb u (highest_of words)) (le→leb u (highest_of words) (omega arith))) ∙ and_all (ltb u n))
      by u (inr l) = past_words u l ∙ sym (ap (λ (b : Bool). ltb u n && b) (is_false (leb u (highest_of words)) (λ t. apart u l (leb→le u (highest_of words) t))) ∙ and_none (ltb u n))
        where
          apart : (u : ℕ) → words ≤ u / word_bits → u ≤ highest_of words → ⊥
          apart u l m = omega arith

  pub member_only : (v digit : ℕ) → digit ≡ 2 ^ (v % word_bits) → ((q : ℕ) → q < words → get_or r q 0 ≡ only_word v digit q) → member_in words r ≡ (λ u. eqb u v && leb v (highest_of words))
  unfolding member_of
  member_only v digit f w = fun_ext (λ u. by u (lt_or_ge (u / word_bits) words) (ℕ_discrete (u / word_bits) (v / word_bits)))
    where
      same_place : (u : ℕ) → u / word_bits ≡ v / word_bits → eqb (u % word_bits) (v % word_bits) ≡ eqb u v
      same_place u p = at (ℕ_discrete u v)
        where
          at : Dec (u ≡ v) → eqb (u % word_bits) (v % word_bits) ≡ eqb u v
          at (yes a) = rw (a, eqb_yes v, eqb_yes (v % word_bits))
          at (no n) = eqb_no (u % word_bits) (v % word_bits) (λ a. n (omega arith)) ∙ sym (eqb_no u v n)

      by : (u : ℕ) → (u / word_bits < words) ⊎ (words ≤ u / word_bits) → Dec (u / word_bits ≡ v / word_bits) → member_in words r u ≡ (eqb u v && leb v (highest_of words))
      by u (inl l) (yes p) =
          ap (λ (x : ℕ). bit x (u % word_bits)) (word_in words r (u / word_bits) l ∙ w (u / word_bits) l ∙ ap (λ (x : Bool). cond x digit 0) (ap (λ (x : ℕ). eqb x (v / word_bits)) p ∙ eqb_yes (v / word_bits)) ∙ f)
          ∙ bit-pow (v % word_bits) (u % word_bits) ∙ same_place u p
          ∙ sym (ap (λ (b : Bool). eqb u v && b) (is_true (leb v (highest_of words)) (le→leb v (highest_of words) (omega arith))) ∙ and_all (eqb u v))
      by u (inl l) (no p) =
          ap (λ (x : ℕ). bit x (u % word_bits)) (word_in words r (u / word_bits) l ∙ w (u / word_bits) l ∙ ap (λ (x : Bool). cond x digit 0) (eqb_no (u / word_bits) (v / word_bits) p)) ∙ bit_zero (u % word_bits)
          ∙ sym (ap (λ (b : Bool). b && leb v (highest_of words)) (eqb_no u v (λ a. p (ap (λ (x : ℕ). x / word_bits) a))))
      by u (inr l) d = past_words u l ∙ sym (at (ℕ_discrete u v))
        where
          apart : (u : ℕ) → words ≤ u / word_bits → u ≤ highest_of words → ⊥
          apart u l m = omega arith

          at : Dec (u ≡ v) → (eqb u v && leb v (highest_of words)) ≡ false
          at (yes a) = ap (λ (b : Bool). eqb u v && b) (is_false (leb v (highest_of words)) (λ t. apart u l (subst (λ (x : ℕ). x ≤ highest_of words) (sym a) (leb→le v (highest_of words) t)))) ∙ and_none (eqb u v)
          at (no n) = ap (λ (b : Bool). b && leb v (highest_of words)) (eqb_no u v n)

-- v is taken out, which need not be a node that a set can have
pub member_without : (words : ℕ) (h : 0 < words) (s : List ℕ) (v u : ℕ) → (member_in words s u && not (eqb u v && leb v (highest_of words))) ≡ (member_in words s u && not (eqb u v))
member_without words h s v u = by (lt_or_ge v (places words))
  where
    apart : v ≤ highest_of words → places words ≤ v → ⊥
    apart a b = omega arith

    by : (v < places words) ⊎ (places words ≤ v) → (member_in words s u && not (eqb u v && leb v (highest_of words))) ≡ (member_in words s u && not (eqb u v))
    by (inl g) = ap (λ (b : Bool). member_in words s u && not b) (ap (λ (b : Bool). eqb u v && b) (is_true (leb v (highest_of words)) (le→leb v (highest_of words) (omega arith))) ∙ and_all (eqb u v))
    by (inr g) =
        ap (λ (b : Bool). member_in words s u && not b) (ap (λ (b : Bool). eqb u v && b) (is_false (leb v (highest_of words)) (λ t. apart (leb→le v (highest_of words) t) g)) ∙ and_none (eqb u v))
        ∙ and_all (member_in words s u) ∙ member_cut_past (words_from 0 words s) v (omega (arith, length-words_from words 0 s)) u

-- ---- up to the highest node h
pub below_within : (u n h : ℕ) → n ≤ h + 1 → ltb u n ≡ (ltb u n && leb u h)
below_within u n h l =
    beq_eq (ltb u n) (ltb u n && leb u h)
    (λ t. let p : u < n = ltb→lt u n t in and_in (ltb u n) (leb u h) t (le→leb u h (omega arith)))
    (λ t. and_l (ltb u n) (leb u h) t)

pub below_past : (u n h : ℕ) → h + 1 ≤ n → ltb u (h + 1) ≡ (ltb u n && leb u h)
below_past u n h l =
    beq_eq (ltb u (h + 1)) (ltb u n && leb u h)
    (λ t. let p : u < h + 1 = ltb→lt u (h + 1) t in and_in (ltb u n) (leb u h) (lt→ltb u n (omega arith)) (le→leb u h (omega arith)))
    (λ t. let p : u ≤ h = leb→le u h (and_r (ltb u n) (leb u h) t) in lt→ltb u (h + 1) (omega arith))

pub put_within : (a e : Bool) (v h : ℕ) → v ≤ h → (a || e) ≡ (a || (e && leb v h))
put_within a e v h l = rw (is_true (leb v h) (le→leb v h l), and_all e)

pub put_past : (a e : Bool) (v h : ℕ) → h < v → a ≡ (a || (e && leb v h))
put_past a e v h l = rw (is_false (leb v h) (λ t. lt_not_le h v l (leb→le v h t)), and_none e) (sym (or_false a))
  where
    lt_not_le : (h v : ℕ) → h < v → v ≤ h → ⊥
    lt_not_le h v p q = omega arith

-- ---- words with the same members are the same
pub words_ext : (us vs : List ℕ) → length us ≡ length vs → IsWords us → IsWords vs → ((u : ℕ) → u < length us * word_bits → member_of us u ≡ member_of vs u) → us ≡ vs
words_ext [] [] e hu hv f = refl
words_ext [] (v ∷ vs) e hu hv f = absurd (omega arith)
words_ext (u ∷ us) [] e hu hv f = absurd (omega arith)
words_ext (u ∷ us) (v ∷ vs) e hu hv f =
    ap₂ (λ (x : ℕ) (xs : List ℕ). x ∷ xs)
    (bit_ext word_bits u v (hu 0) (hv 0) (λ k l. sym (member_head u us k l) ∙ f k (omega arith) ∙ member_head v vs k l))
    (words_ext us vs (omega arith) (words_tail u us hu) (words_tail v vs hv) (λ k l. sym (member_tail u us k) ∙ f (word_bits + k) (omega arith) ∙ member_tail v vs k))
