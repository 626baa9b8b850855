-- What a word of the text is: a name, a number, an edge, or none of these.
use Rattle.std.specs.Prelude.{ℕ, suc, ◌+◌, ◌-◌, ◌*◌, Bool, cond, ◌&&◌, List, [], ◌∷◌, leb, ltb}
use Prim.Native.Char.{code}
use Rattle.std.proofs.Math.Option.{Option, none, some}
use Rattle.nodes.specs.Lists.{equal}
use Rattle.answers.specs.Message.{codes}
use Rattle.texts.specs.Pieces.{parting, until, past, pieces}
use Rattle.texts.specs.declared.pieces.Stop.TheVariants.{Blank, Dash}

-- ---- the names: what the numbers behind a name are
abbrev pub names_text : List ℕ
names_text = codes "nodes mode edges inputs outputs XY YZ XZ X Y Z"

abbrev pub names : List (List ℕ)
names = pieces (parting Blank) names_text

-- how many there are, and the places of some
abbrev pub name_count : ℕ
name_count = 11

abbrev pub nodes_name : ℕ
nodes_name = 0

abbrev pub mode_name : ℕ
mode_name = 1

abbrev pub edges_name : ℕ
edges_name = 2

abbrev pub inputs_name : ℕ
inputs_name = 3

abbrev pub outputs_name : ℕ
outputs_name = 4

-- the names from here on are those of measurements, in the order of their bytes from 1 on
abbrev pub first_measurement : ℕ
first_measurement = 5

-- the place of a word in a list; behind its end, where it is not in it
unfoldable pub place_in : List (List ℕ) → List ℕ → ℕ
place_in [] w = 0
place_in (x ∷ xs) w = cond (equal x w) 0 (suc (place_in xs w))

-- ---- numbers
-- a number in decimal is from 0 to 255, so that it fits a byte
abbrev pub most_number : ℕ
most_number = 255

abbrev pub is_digit : ℕ → Bool
is_digit c = leb (code "0") c && leb c (code "9")

-- a number with one digit more; none where that is no digit, or the number too large
abbrev pub with_digit : Option ℕ → ℕ → Option ℕ
with_digit none c = none
with_digit (some v) c = let x = 10 * v + (c - code "0") in cond (is_digit c && leb x most_number) (some x) none

unfoldable pub with_digits : Option ℕ → List ℕ → Option ℕ
with_digits v [] = v
with_digits v (c ∷ s) = with_digits (with_digit v c) s

-- one digit at least
abbrev pub value_of : List ℕ → Option ℕ
value_of [] = none
value_of (c ∷ s) = with_digits (some 0) (c ∷ s)

-- ---- words
-- a name by its place among the names, a number, two numbers joined by a dash, or none of these
pub data Word : Type 0 where
  Name : (place : ℕ) → Word
  Number : (x : ℕ) → Word
  Edge : (a b : ℕ) → Word
  Other : Word

abbrev pub edge_of : (a b : Option ℕ) → Word
edge_of (some a) (some b) = Edge a b
edge_of (some a) none = Other
edge_of none b = Other

abbrev pub number_or : Option ℕ → Word → Word
number_or (some x) w = Number x
number_or none w = w

-- a number, or two joined by a dash
abbrev pub numbers_of : List ℕ → Word
numbers_of w = number_or (value_of w) (edge_of (value_of (until (parting Dash) w)) (value_of (past (parting Dash) w)))

abbrev pub word_of : List ℕ → Word
word_of w = cond (ltb (place_in names w) name_count) (Name (place_in names w)) (numbers_of w)
