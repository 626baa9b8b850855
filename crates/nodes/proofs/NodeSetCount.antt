-- What is counted and found word by word is so of the members, for lists of words of any length. Serves NodeSet.
use Prim.Native.Nat.{ℕ, ◌+◌, ◌-◌, ◌*◌, ◌/◌, ◌%◌, ◌^◌, ◌≤◌, ◌<◌}
use mathlib.Core.Path.{◌≡◌, sym, ap, ap₂, ◌∙◌}
use mathlib.Core.Bool.{Bool, true, false, not}
use mathlib.Core.List.{List}
use mathlib.Core.Logic.{◌⊎◌, inl, inr, ◌≢◌}
use native.Mathlib.Omega.{arith}
use native.Mathlib.Numerals.{lt_of_le_of_ne}
use lib.Count.{ones}
use lib.Dec.{T}
use lib.ListN.{length, get_or}
use Rattle.nodes.specs.Bit.{◌⊕◌, bit}
use Rattle.nodes.specs.Row.{any_below, all_below, count, lowest}
use Rattle.nodes.specs.NodeSet.{word_bits, places, member_of}
use Rattle.nodes.proofs.Logic.{is_false, from_true, from_false, not_out, beq_eq, lt_or_ge, ⊕_self, ⊕_eq}
use Rattle.nodes.proofs.Row.{any_in, any_none, all_in, all_out}
use Rattle.nodes.proofs.Count.{count_ext, count_split}
use Rattle.nodes.proofs.Members.{lowest-le, lowest_none, lowest_here, lowest_unique}
use Rattle.nodes.proofs.Bit.{bit_zero, bit_ext}
use Rattle.nodes.proofs.Digits.{ones-count}
use Rattle.nodes.proofs.NodeSet.{IsWords, words_ext}

-- the digits of word q
pub member_in_word : (ws : List ℕ) (q k : ℕ) → k < word_bits → member_of ws (q * word_bits + k) ≡ bit (get_or ws q 0) k
unfolding member_of
member_in_word ws q k h =
    let a : (q * word_bits + k) / word_bits ≡ q = omega arith in
    let b : (q * word_bits + k) % word_bits ≡ k = omega arith in
    ap₂ (λ (i r : ℕ). bit (get_or ws i 0) r) a b

-- ---- how many
pub count_more : (ws : List ℕ) (q : ℕ) → get_or ws q 0 < 2 ^ word_bits → count (places (q + 1)) (member_of ws) ≡ count (places q) (member_of ws) + ones (get_or ws q 0)
count_more ws q h =
    let e : places (q + 1) ≡ places q + word_bits = omega arith in
    ap (λ (n : ℕ). count n (member_of ws)) e ∙ count_split (places q) word_bits (member_of ws)
    ∙ ap (λ (x : ℕ). count (places q) (member_of ws) + x)
    (count_ext word_bits (λ k. member_of ws (places q + k)) (bit (get_or ws q 0)) (λ k l. member_in_word ws q k l) ∙ sym (ones-count word_bits (get_or ws q 0) h))

-- ---- the least
-- a word that is not 0 has its lowest digit within it
pub word_some : (w : ℕ) → w < 2 ^ word_bits → w ≢ 0 → lowest word_bits (bit w) < word_bits
word_some w h n =
    lt_of_le_of_ne (lowest-le word_bits (bit w))
    (λ e. n (bit_ext word_bits w 0 h (omega arith) (λ k l. lowest_none word_bits (bit w) k (omega arith) ∙ sym (bit_zero k))))

-- the words before word q are 0
abbrev pub IsNoneBefore : List ℕ → ℕ → Type 0
IsNoneBefore ws q = (j : ℕ) → j < q → get_or ws j 0 ≡ 0

pub none_before : (ws : List ℕ) (q : ℕ) → IsNoneBefore ws q → (u : ℕ) → u < places q → member_of ws u ≡ false
unfolding member_of
none_before ws q h u l = ap (λ (x : ℕ). bit x (u % word_bits)) (h (u / word_bits) (omega arith)) ∙ bit_zero (u % word_bits)

module _ (words : ℕ) (ws : List ℕ) (q : ℕ) (h : q < words) (some : get_or ws q 0 ≢ 0) (small : get_or ws q 0 < 2 ^ word_bits) where
  abbrev k : ℕ
  k = lowest word_bits (bit (get_or ws q 0))

  inside : k < word_bits
  inside = word_some (get_or ws q 0) small some

  there : member_of ws (q * word_bits + k) ≡ true
  there = member_in_word ws q k inside ∙ lowest_here word_bits (bit (get_or ws q 0)) inside

  pub some_here : T (any_below (places words) (member_of ws))
  some_here = let l = inside in any_in (places words) (member_of ws) (q * word_bits + k) (omega arith) (from_true (member_of ws (q * word_bits + k)) there)

  pub lowest_in_word : IsNoneBefore ws q → lowest (places words) (member_of ws) ≡ q * word_bits + k
  lowest_in_word z = let l = inside in lowest_unique (places words) (member_of ws) (q * word_bits + k) (omega arith) (λ u g. by u g (lt_or_ge u (places q))) (λ g. there)
    where
      by : (u : ℕ) → u < q * word_bits + k → (u < places q) ⊎ (places q ≤ u) → member_of ws u ≡ false
      by u g (inl a) = none_before ws q z u a
      by u g (inr a) =
          let l = inside in
          let e : u ≡ q * word_bits + (u - q * word_bits) = omega arith in
          ap (member_of ws) e ∙ member_in_word ws q (u - q * word_bits) (omega arith) ∙ lowest_none word_bits (bit (get_or ws q 0)) (u - q * word_bits) (omega arith)

-- no word has a digit
pub any_in_none : (words : ℕ) (ws : List ℕ) → IsNoneBefore ws words → any_below (places words) (member_of ws) ≡ false
any_in_none words ws z = any_none (places words) (member_of ws) (λ u l. from_false (member_of ws u) (none_before ws words z u l))

pub lowest_in_none : (words : ℕ) (ws : List ℕ) → IsNoneBefore ws words → lowest (places words) (member_of ws) ≡ places words
lowest_in_none words ws z = lowest_unique (places words) (member_of ws) (places words) (omega arith) (λ u l. none_before ws words z u l) (λ l. absurd (omega arith))

-- ---- whether two have the same
pub member_same : (words : ℕ) (us vs : List ℕ) → length us ≡ words → length vs ≡ words → IsWords us → IsWords vs → (r : Bool) → (T r → us ≡ vs) → (us ≡ vs → T r)
    → r ≡ all_below (places words) (λ k. not (member_of us k ⊕ member_of vs k))
member_same words us vs d e hu hv r f g =
    beq_eq r (all_below (places words) (λ k. not (member_of us k ⊕ member_of vs k)))
    (λ t. all_in (places words) (λ k. not (member_of us k ⊕ member_of vs k)) (λ k l. rw (f t, ⊕_self (member_of vs k)) tt))
    (λ t. g (words_ext us vs (d ∙ sym e) hu hv (λ k l. ⊕_eq (member_of us k) (member_of vs k) (is_false (member_of us k ⊕ member_of vs k) (not_out (member_of us k ⊕ member_of vs k) (all_out (places words) (λ k. not (member_of us k ⊕ member_of vs k)) t k (omega arith)))))))
