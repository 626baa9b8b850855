-- Members counted, and the least one found, word by word, for lists of words of any length.
use Prim.Native.Nat.{ℕ, suc, ◌+◌, ◌*◌, ◌^◌, ◌≤◌, ◌<◌}
use mathlib.Core.Path.{◌≡◌, refl, sym, ap, ap₂, ◌∙◌}
use mathlib.Core.Bool.{Bool}
use mathlib.Core.List.{List, [], ◌∷◌}
use mathlib.Core.Logic.{◌≢◌}
use native.Mathlib.Omega.{arith}
use native.Mathlib.Numerals.{lt_of_le_of_ne}
use lib.Count.{ones}
use lib.ListN.{length}
use Rattle.nodes.specs.Bit.{bit}
use Rattle.nodes.specs.Row.{count, lowest}
use Rattle.nodes.specs.NodeSet.{word_bits, member_of}
use Rattle.nodes.proofs.Count.{count_ext, count_split}
use Rattle.nodes.proofs.Members.{lowest_ext, lowest-le, lowest_none, lowest_front}
use Rattle.nodes.proofs.Bit.{bit_zero, bit_ext}
use Rattle.nodes.proofs.Digits.{ones-count}
use Rattle.nodes.proofs.NodeSet.{IsWords, words_tail, member_head, member_tail}

-- the places of one word more
one_more : (n : ℕ) → suc n * word_bits ≡ word_bits + n * word_bits
one_more n = omega arith

abbrev pub ones_of : List ℕ → ℕ
ones_of [] = 0
ones_of (w ∷ ws) = ones w + ones_of ws

pub member_count : (ws : List ℕ) → IsWords ws → ones_of ws ≡ count (length ws * word_bits) (member_of ws)
unfolding count
member_count [] h = refl
member_count (w ∷ ws) h =
    ap₂ ◌+◌ (ones-count word_bits w (h 0) ∙ count_ext word_bits (bit w) (member_of (w ∷ ws)) (λ k l. sym (member_head w ws k l)))
    (member_count ws (words_tail w ws h) ∙ count_ext (length ws * word_bits) (member_of ws) (λ k. member_of (w ∷ ws) (word_bits + k)) (λ k l. sym (member_tail w ws k)))
    ∙ sym (count_split word_bits (length ws * word_bits) (member_of (w ∷ ws)))
    ∙ ap (λ (n : ℕ). count n (member_of (w ∷ ws))) (sym (one_more (length ws)))

module _ (w : ℕ) (ws : List ℕ) where
  -- a word that is not 0 has its lowest digit within it
  word_some : w < 2 ^ word_bits → w ≢ 0 → lowest word_bits (bit w) < word_bits
  word_some h n =
      lt_of_le_of_ne (lowest-le word_bits (bit w))
      (λ e. n (bit_ext word_bits w 0 h (omega arith) (λ k l. lowest_none word_bits (bit w) k (omega arith) ∙ sym (bit_zero k))))

  pub lowest_in_head : w < 2 ^ word_bits → w ≢ 0 → lowest (suc (length ws) * word_bits) (member_of (w ∷ ws)) ≡ lowest word_bits (bit w)
  lowest_in_head h n =
      let l : lowest word_bits (bit w) < word_bits = word_some h n in
      let e : lowest word_bits (member_of (w ∷ ws)) ≡ lowest word_bits (bit w) = lowest_ext word_bits (member_of (w ∷ ws)) (bit w) (λ k l. member_head w ws k l) in
      ap (λ (x : ℕ). lowest x (member_of (w ∷ ws))) (one_more (length ws))
      ∙ lowest_front word_bits (length ws * word_bits) (member_of (w ∷ ws)) (omega arith) ∙ e
