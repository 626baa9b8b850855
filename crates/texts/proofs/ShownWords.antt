-- Of specs/Shown and specs/Words: what the words are that a job is shown by.
use Prim.Native.Nat.{ℕ, suc, ◌≤◌, ◌<◌}
use Prim.Native.Char.{code}
use mathlib.Core.Path.{◌≡◌, refl, sym, ap, ◌∙◌}
use mathlib.Core.Bool.{Bool, true, false, not, ◌&&◌, false≢true}
use mathlib.Core.Option.{Option, none, some}
use mathlib.Core.List.{List, [], ◌∷◌, ◌++◌, append-nil}
use native.Mathlib.Omega.{arith}
use borrow.Author.Tests.{eqb-true, ltb-true, leb-true, ne_eqb}
use lib.Dec.{T, eqb, ltb, leb}
use lib.ListN.{length, get_or}
use Rattle.nodes.specs.Lists.{all, equal}
use Rattle.nodes.specs.Row.{all_below}
use Rattle.nodes.proofs.Logic.{and_out, is_true}
use Rattle.nodes.proofs.Row.{all_out}
use Rattle.answers.specs.Message.{codes, decimal_in, in_decimal}
use Rattle.records.proofs.Records.{all-append}
use Rattle.texts.specs.Pieces.{parting, until, past, pieces}
use Rattle.texts.specs.Words.{Word, Name, Number, Edge, names, name_count, place_in, is_digit, with_digit, with_digits, value_of, numbers_of, word_of, most_number}
use Rattle.texts.specs.declared.pieces.Stop.TheVariants.{LineFeed, Comment, Blank, Dash}
use Rattle.texts.proofs.Values.{digits-none}
use Rattle.texts.proofs.Naming.{word_name, word_numbers}
use Rattle.texts.proofs.Lexing.{free, is_word, clean_out, clean_in, until_front, past_front}

-- letters that are one word, and which
abbrev pub Tells : List ℕ → Word → Type 0
Tells w x = (is_word w ≡ true) × (word_of w ≡ x)

-- ---- no name begins with a digit
abbrev digit_first : List ℕ → Bool
digit_first [] = false
digit_first (c ∷ w) = is_digit c

-- words that begin with a letter behind the digits
later_first : List (List ℕ) → Bool
later_first [] = true
later_first ([] ∷ l) = false
later_first ((c ∷ w) ∷ l) = ltb (code "9") c && later_first l

no_place : (l : List (List ℕ)) (c : ℕ) (w : List ℕ) → later_first l ≡ true → is_digit c ≡ true → place_in l (c ∷ w) ≡ length l
unfolding place_in equal later_first
no_place [] c w f d = refl
no_place ([] ∷ l) c w f d = absurd (false≢true f)
no_place ((a ∷ v) ∷ l) c w f d =
    let (later, more) = and_out (ltb (code "9") a) (later_first l) f in
    let low : c ≤ code "9" = leb-true c (code "9") (and_out (leb (code "0") c) (leb c (code "9")) d).1 in
    let high : code "9" < a = ltb-true (code "9") a later in
    rw (ne_eqb a c (λ e. omega arith)) (ap suc (no_place l c w more d))

no_name : (w : List ℕ) → digit_first w ≡ true → word_of w ≡ numbers_of w
unfolding codes pieces later_first
no_name [] d = absurd (false≢true d)
no_name (c ∷ w) d = word_numbers (c ∷ w) name_count (sym (no_place names c w refl d)) (omega arith)

-- ---- numbers
abbrev has_value : Option ℕ → ℕ → Bool
has_value none x = false
has_value (some y) x = eqb y x

some_out : (o : Option ℕ) (x : ℕ) → has_value o x ≡ true → o ≡ some x
some_out none x e = absurd (false≢true e)
some_out (some y) x e = ap some (eqb-true y x e)

-- each byte in decimal: a word without a dash, which begins with a digit and has its value
abbrev decimal : ℕ → Bool
decimal x = let w = in_decimal x in is_word w && free (parting Dash) w && digit_first w && has_value (value_of w) x

decimal_test : T (all_below (suc most_number) decimal)
unfolding all_below in_decimal decimal_in all with_digits
decimal_test = tt

module _ (x : ℕ) (h : x ≤ most_number) where
  tested : decimal x ≡ true
  tested = is_true (decimal x) (all_out (suc most_number) decimal decimal_test x (omega arith))

  abbrev w : List ℕ
  w = in_decimal x

  parts : (is_word w ≡ true) × (free (parting Dash) w ≡ true) × (digit_first w ≡ true) × (value_of w ≡ some x)
  parts =
      let (abc, value) = and_out (is_word w && free (parting Dash) w && digit_first w) (has_value (value_of w) x) tested in
      let (ab, digit) = and_out (is_word w && free (parting Dash) w) (digit_first w) abc in
      let (word, dash) = and_out (is_word w) (free (parting Dash) w) ab in
      (word, dash, digit, some_out (value_of w) x value)

  pub number_told : Tells w (Number x)
  number_told = let (word, dash, digit, value) = parts in (word, no_name w digit ∙ rw value refl)

-- ---- edges
-- digit by digit over two parts
digits-append : (v : Option ℕ) (s t : List ℕ) → with_digits v (s ++ t) ≡ with_digits (with_digits v s) t
unfolding with_digits
digits-append v [] t = refl
digits-append v (c ∷ s) t = digits-append (with_digit v c) s t

dash_none : (v : Option ℕ) (t : List ℕ) → with_digits v (code "-" ∷ t) ≡ none
unfolding with_digits
dash_none none t = digits-none t
dash_none (some a) t = digits-none t

dashed : (w t : List ℕ) → value_of (w ++ code "-" ∷ t) ≡ none
dashed [] t = dash_none (some 0) t
dashed (c ∷ w) t = digits-append (some 0) (c ∷ w) (code "-" ∷ t) ∙ dash_none (with_digits (some 0) (c ∷ w)) t

-- a word, a dash and a word are one word
word_dash : (w t : List ℕ) → is_word w ≡ true → is_word t ≡ true → is_word (w ++ code "-" ∷ t) ≡ true
unfolding all
word_dash [] t f g = absurd (false≢true f)
word_dash (c ∷ w) [] f g = absurd (false≢true g)
word_dash (c ∷ w) (d ∷ t) f g =
    let (a, b, e) = clean_out (c ∷ w) f in
    let (x, y, z) = clean_out (d ∷ t) g in
    clean_in (c ∷ w ++ code "-" ∷ d ∷ t)
    (all-append (λ c. not (parting LineFeed c)) (c ∷ w) (code "-" ∷ d ∷ t) a x)
    (all-append (λ c. not (parting Comment c)) (c ∷ w) (code "-" ∷ d ∷ t) b y)
    (all-append (λ c. not (parting Blank c)) (c ∷ w) (code "-" ∷ d ∷ t) e z)

digit_more : (w s : List ℕ) → digit_first w ≡ true → digit_first (w ++ s) ≡ true
digit_more [] s d = absurd (false≢true d)
digit_more (c ∷ w) s d = d

module _ (a b : ℕ) (h : a ≤ most_number) (g : b ≤ most_number) where
  abbrev joined : List ℕ
  joined = in_decimal a ++ code "-" ∷ in_decimal b

  before_dash : until (parting Dash) joined ≡ in_decimal a
  unfolding until
  before_dash = until_front (parting Dash) (in_decimal a) (code "-" ∷ in_decimal b) (parts a h).1 ∙ append-nil (in_decimal a)

  behind_dash : past (parting Dash) joined ≡ in_decimal b
  unfolding past
  behind_dash = past_front (parting Dash) (in_decimal a) (code "-" ∷ in_decimal b) (parts a h).1

  edge_numbers : numbers_of joined ≡ Edge a b
  edge_numbers = rw (dashed (in_decimal a) (in_decimal b), before_dash, behind_dash, (parts a h).3, (parts b g).3) refl

  pub edge_told : Tells joined (Edge a b)
  edge_told = (
    word_dash (in_decimal a) (in_decimal b) (parts a h).0 (parts b g).0,
    no_name joined (digit_more (in_decimal a) (code "-" ∷ in_decimal b) (parts a h).2) ∙ edge_numbers,
  )

-- ---- names: each is a word, and in its place
abbrev named : ℕ → Bool
named k = let w = get_or names k [] in is_word w && eqb (place_in names w) k

named_test : T (all_below name_count named)
unfolding all_below codes pieces all equal place_in
named_test = tt

pub name_told : (k : ℕ) → k < name_count → Tells (get_or names k []) (Name k)
name_told k h =
    let w = get_or names k [] in
    let (word, place) = and_out (is_word w) (eqb (place_in names w) k) (is_true (named k) (all_out name_count named named_test k h)) in
    (word, sym (word_name w k (sym (eqb-true (place_in names w) k place)) h))
