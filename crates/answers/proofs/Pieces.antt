-- For `line_of`, of specs/Pieces: a line put together piece by piece.
use Prim.Native.Nat.{ℕ, suc, ◌+◌, ◌≤◌, ◌<◌}
use Prim.Native.Char.{code}
use mathlib.Core.Path.{◌≡◌, sym, ap, ap₂, ◌∙◌}
use mathlib.Core.List.{List, [], ◌∷◌, ◌++◌, append_assoc}
use native.Mathlib.Omega.{arith}
use lib.ListN.{length, get_or, drop, length-append, drop_of_length-le}
use lib.Seq.{drop-cons}
use Rattle.answers.specs.Answer.{Refusal}
use Rattle.answers.specs.Message.{questions, words_in, codes, in_decimal, spelled, filled, line, line_room}
use Rattle.answers.specs.Pieces.{piece_told, told}
use Rattle.answers.specs.declared.words.Piece.{Piece}
use Rattle.answers.proofs.Filling.{IsSmall, filled-append}
use Rattle.answers.proofs.Lines.{line_fits}

-- ---- words and what stands behind them
pub both_long : (xs ys : List ℕ) → length (xs ++ ys) ≡ length xs + length ys
both_long = length-append

pub one_behind_another : (xs ys zs : List ℕ) → (xs ++ ys) ++ zs ≡ xs ++ (ys ++ zs)
one_behind_another = append_assoc

-- ---- a line
-- what ends a line
abbrev pub feed : List ℕ
feed = code "\n" ∷ []

-- what a line still has to say behind the first i pieces
abbrev pub told_left : Refusal → List Piece → ℕ → List ℕ
told_left r pieces i = told r (drop i pieces) ++ feed

module _ (r : Refusal) where
  abbrev said : List ℕ
  said = filled r (codes (words_in questions r.number))

  parts : line r ≡ codes "refused " ++ (in_decimal r.number ++ (codes ": " ++ (said ++ feed)))
  unfolding codes spelled filled
  parts = ap (λ (x : List ℕ). codes "refused " ++ (in_decimal r.number ++ (codes ": " ++ x))) (filled-append r (codes (words_in questions r.number)) feed)

  -- before the first piece
  pub line_begun : (pieces : List Piece) (number bytes : List ℕ) → number ≡ in_decimal r.number → told r pieces ≡ said → bytes ≡ (codes "refused " ++ number) ++ codes ": " → bytes ++ told_left r pieces 0 ≡ line r
  line_begun pieces number bytes n t b =
      ap₂ (λ (x y : List ℕ). x ++ (y ++ feed)) (b ∙ ap (λ (x : List ℕ). (codes "refused " ++ x) ++ codes ": ") n) t
      ∙ append_assoc (codes "refused " ++ in_decimal r.number) (codes ": ") (said ++ feed)
      ∙ append_assoc (codes "refused ") (in_decimal r.number) (codes ": " ++ (said ++ feed))
      ∙ sym parts

  module _ (pieces : List Piece) (i : ℕ) (bytes : List ℕ) (begun : bytes ++ told_left r pieces i ≡ line r) where
    module _ (h : i < length pieces) (d : Piece) where
      abbrev piece : List ℕ
      piece = piece_told r (get_or pieces i d)

      abbrev rest : List ℕ
      rest = told_left r pieces (i + 1)

      next : drop i pieces ≡ get_or pieces i d ∷ drop (i + 1) pieces
      next = drop-cons pieces i d h ∙ ap (λ (k : ℕ). get_or pieces i d ∷ drop k pieces) (sum i)
        where
          sum : (i : ℕ) → suc i ≡ i + 1
          sum i = omega arith

      -- behind piece i
      pub line_further : (bytes ++ piece) ++ rest ≡ line r
      line_further =
          append_assoc bytes piece rest
          ∙ ap (λ (x : List ℕ). bytes ++ x) (sym (append_assoc piece (told r (drop (i + 1) pieces)) feed) ∙ ap (λ (l : List Piece). told r l ++ feed) (sym next))
          ∙ begun

      pub piece_fits : IsSmall r → length bytes + length piece ≤ line_room
      piece_fits small = let whole = ap length line_further in
          omega (arith, line_fits r small, whole, length-append bytes piece, length-append (bytes ++ piece) rest)

    pub line_ended : length pieces ≤ i → bytes ++ feed ≡ line r
    line_ended h = ap (λ (l : List Piece). bytes ++ (told r l ++ feed)) (sym (drop_of_length-le pieces h)) ∙ begun

    pub feed_fits : IsSmall r → length pieces ≤ i → length bytes + 1 ≤ line_room
    feed_fits small h = omega (arith, line_fits r small, ap length (line_ended h), length-append bytes feed)
