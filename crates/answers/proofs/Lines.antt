-- Of specs/Message: what holds of every line, a worked example, and the words of all numbers as one text.
use Prim.Native.Nat.{ℕ, zero, suc, ◌+◌, ◌≤◌, ◌<◌}
use Prim.Native.String.{String}
use mathlib.Core.Path.{◌≡◌, refl, sym, ap, ◌∙◌, subst}
use mathlib.Core.Bool.{Bool, true, false, cond, ◌&&◌, false≢true}
use mathlib.Core.List.{List, [], ◌∷◌, ◌++◌}
use native.Mathlib.Nat.{zero-add}
use native.Mathlib.Omega.{arith}
use borrow.Author.Tests.{le-leb, leb-true, ltb-true, ltb-false, eqb-true, eq-eqb, ne_eqb}
use lib.Dec.{eqb, leb, ltb, eqb-suc-zero}
use lib.ListN.{length, get_or, drop, get_or-eq_default}
use Rattle.answers.specs.Text.{behind, first_line, or_all, line_at}
use Rattle.answers.proofs.Text.{or_some, text_of, clean, all_clean, line_words, no_line}
use Rattle.answers.specs.Message.{questions, unknown, words_in, codes, decimal_in, in_decimal, spelled, filled, template, line, line_room, longest, room_for, Written, put_whole}
use Rattle.answers.specs.Answer.{Refusal}
use Rattle.answers.proofs.Filling.{IsSmall, filled_most}

-- document 01's case M: 18, a=0, b=1
pub line_18 : line (record { number = 18; a = 0; b = 1 }) ≡ codes "refused 18: node 1 is not later than node 0, or in mode 1 not its neighbour\n"
unfolding words_in codes decimal_in in_decimal spelled filled
line_18 = refl

-- one test of all words
every : (String → Bool) → List (ℕ × String) → Bool
every f [] = f unknown
every f (q ∷ qs) = f q.1 && every f qs

in_every : (f : String → Bool) (qs : List (ℕ × String)) (n : ℕ) → every f qs ≡ true → f (words_in qs n) ≡ true
unfolding every words_in
in_every f [] n h = h
in_every f (q ∷ qs) n h = by (eqb n q.0) (f q.1) refl h (in_every f qs n)
  where
    by : (t s : Bool) → f q.1 ≡ s → (s && every f qs) ≡ true → (every f qs ≡ true → f (words_in qs n) ≡ true) → f (cond t q.1 (words_in qs n)) ≡ true
    by true true e h others = e
    by false true e h others = others h
    by t false e h others = absurd (false≢true h)

all_room : every (λ s. room_for (codes s)) questions ≡ true
unfolding every words_in codes decimal_in in_decimal spelled filled
all_room = refl

pub room_in : (number : ℕ) → room_for (codes (words_in questions number)) ≡ true
room_in number = in_every (λ s. room_for (codes s)) questions number all_room

-- no line takes more than the room for a line
pub line_fits : (r : Refusal) → IsSmall r → length (line r) ≤ line_room
line_fits r small = omega (arith, filled_most r small words, leb-true (length (filled longest words)) line_room (room_in r.number))
  where
    words : List ℕ
    words = template (codes (words_in questions r.number))

-- so a buffer with that room always gets its line
pub line_written : (r : Refusal) → IsSmall r → (out : List ℕ) → line_room ≤ length out → put_whole (line r) out ≡ record { count = length (line r); out = line r ++ drop (length (line r)) out }
unfolding put_whole
line_written r small out h = rw (le-leb (length (line r)) (length out) (omega (arith, line_fits r small))) refl

-- what is counted lies in the buffer
pub written_few : (bytes out : List ℕ) (w : Written) → w ≡ put_whole bytes out → w.count ≤ length out
unfolding put_whole
written_few bytes out w e = subst (λ (w : Written). w.count ≤ length out) (sym e) (by (leb (length bytes) (length out)) refl)
  where
    by : (t : Bool) → leb (length bytes) (length out) ≡ t → (cond {A = Written} t (record { count = length bytes; out = bytes ++ drop (length bytes) out }) (record { count = 0; out = out })).count ≤ length out
    by true e = leb-true (length bytes) (length out) e
    by false e = omega arith

-- ---- the words of all numbers as one text
-- the words of numbers that no question has, and those of the questions, in the order of their numbers
abbrev pub words_listed : List (ℕ × String) → List String
words_listed [] = []
words_listed (q ∷ qs) = q.1 ∷ words_listed qs

abbrev pub table : List (ℕ × String)
table = (0, unknown) ∷ questions

abbrev pub text : List ℕ
text = text_of (words_listed table)

numbered : ℕ → List (ℕ × String) → Bool
numbered k [] = true
numbered k (q ∷ qs) = eqb q.0 k && numbered (suc k) qs

-- where the numbers follow each other from k on, those of number k + i stand at place i
words_at : (qs : List (ℕ × String)) (k i : ℕ) → numbered k qs ≡ true → words_in qs (k + i) ≡ get_or (words_listed qs) i unknown
unfolding words_in numbered
words_at [] k i h = refl
words_at (q ∷ qs) k i h = by (eqb q.0 k) refl i h (words_at qs (suc k))
  where
    by : (t : Bool) → eqb q.0 k ≡ t → (i : ℕ) → (t && numbered (suc k) qs) ≡ true
        → ((i : ℕ) → numbered (suc k) qs ≡ true → words_in qs (suc k + i) ≡ get_or (words_listed qs) i unknown) → cond (eqb (k + i) q.0) q.1 (words_in qs (k + i)) ≡ get_or (q.1 ∷ words_listed qs) i unknown
    by false e i h ih = absurd (false≢true h)
    by true e zero h ih = rw (eq-eqb (k + 0) q.0 (omega (arith, eqb-true q.0 k e))) refl
    by true e (suc i) h ih =
        rw (ne_eqb (k + suc i) q.0 (λ z. later i z (eqb-true q.0 k e))) (ap (words_in qs) (move k i) ∙ ih i h)
      where
        later : (i : ℕ) → k + suc i ≡ q.0 → q.0 ≡ k → ⊥
        later i z e = omega arith

        move : (k i : ℕ) → k + suc i ≡ suc k + i
        move k i = omega arith

table-numbered : numbered 0 table ≡ true
unfolding numbered
table-numbered = refl

table_clean : all_clean (words_listed table) ≡ true
unfolding all_clean clean codes
table_clean = refl

table_words : (n : ℕ) → words_in questions n ≡ get_or (words_listed table) n unknown
unfolding words_in
table_words n = of n ∙ ap (words_in table) (sym (zero-add n)) ∙ words_at table 0 n table-numbered
  where
    of : (n : ℕ) → words_in questions n ≡ words_in table n
    of zero = refl
    of (suc n) = rw (eqb-suc-zero n) refl

-- the words of a number are its line of the text, or the first line where it has none
pub words_line : (n : ℕ) → line_at n text ≡ codes (words_in questions n)
unfolding behind
words_line n = by (ltb n (length (words_listed table))) refl
  where
    by : (t : Bool) → ltb n (length (words_listed table)) ≡ t → line_at n text ≡ codes (words_in questions n)
    by true e =
        let (some, line) = line_words (words_listed table) n unknown table_clean (ltb-true n (length (words_listed table)) e) in
        ap first_line (or_some (behind n text) text some) ∙ line ∙ ap codes (sym (table_words n))
    by false e =
        let l = ltb-false n (length (words_listed table)) e in
        ap (λ (s : List ℕ). first_line (or_all s text)) (no_line (words_listed table) n table_clean l)
        ∙ (line_words (words_listed table) 0 unknown table_clean (omega arith)).1
        ∙ ap codes (sym (table_words n ∙ get_or-eq_default (words_listed table) unknown l))

-- numbers that no question has
pub no_words : (n : ℕ) → (0 < n → 24 < n) → words_in questions n ≡ unknown
unfolding words_in
no_words zero h = refl
no_words (suc n) h = table_words (suc n) ∙ get_or-eq_default (words_listed table) unknown (h (omega arith))
