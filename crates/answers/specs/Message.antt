-- The line that tells a refusal to a person, from its number, a and b alone.
use Rattle.std.specs.Prelude.{ℕ, zero, suc, ◌+◌, ◌/◌, ◌%◌, Bool, cond, List, [], ◌∷◌, ◌++◌, eqb, ltb, leb, length, drop}
use Prim.Native.Char.{code}
use Prim.Native.String.{String, [] as none, ◌∷◌ as ◌then◌}
use Rattle.answers.specs.Answer.{Refusal}

-- Document 01's questions, each as a 'no' to it is told: A stands for a, B for b. Number, a and b are all that is known, so the words of 14, 18 and
-- 19 name both causes.
abbrev pub questions : List (ℕ × String)
questions =
    (1, "the next record is missing or of another kind")
    ∷ (2, "the payload of a record is cut off")
    ∷ (3, "the length of a record, list or entry does not suit its kind")
    ∷ (4, "the number of nodes or the mode is not allowed")
    ∷ (5, "a node is not below the number of nodes")
    ∷ (6, "nodes or edges are not strictly ascending")
    ∷ (7, "a measurement byte is not allowed")
    ∷ (8, "bytes are left after the last record")
    ∷ (9, "a causal entry does not have exactly one member")
    ∷ (10, "only modes 2 and 3 have a search")
    ∷ (11, "a lent buffer or matrix has the wrong shape")
    ∷ (12, "there is no right side of the equation's number")
    ∷ (13, "the set of node A holds an input other than A")
    ∷ (14, "node A has a set and is an output, or neither")
    ∷ (15, "output A is in layer B, not in layer 0")
    ∷ (16, "node A is no output and is in layer 0")
    ∷ (17, "node A has an entry and no measurement")
    ∷ (18, "node B is not later than node A, or in mode 1 not its neighbour")
    ∷ (19, "node A's set does not suit its or a Y measurement")
    ∷ (20, "the result does not fit the lent buffer")
    ∷ (21, "a loop, or an edge or node given twice")
    ∷ (22, "the signal lists are not those of the flow")
    ∷ (23, "an angle is not from 0 to below 2, or at an output not positive zero")
    ∷ (24, "only the owner may read angles out or write them")
    ∷ []

abbrev pub unknown : String
unknown = "unknown question"

unfoldable pub words_in : List (ℕ × String) → ℕ → String
words_in [] number = unknown
words_in (q ∷ qs) number = cond (eqb number q.0) q.1 (words_in qs number)

-- the bytes of a text
unfoldable pub codes : String → List ℕ
codes none = []
codes (c then s) = code c ∷ codes s

abbrev pub digit : ℕ → ℕ
digit d = code "0" + d

-- a number in decimal, without zeros in front; k is more than its digits
unfoldable pub decimal_in : (k n : ℕ) → List ℕ
decimal_in zero n = []
decimal_in (suc k) n = let before = decimal_in k (n / 10) in cond (ltb n 10) (digit n ∷ []) (before ++ digit (n % 10) ∷ [])

unfoldable pub in_decimal : ℕ → List ℕ
in_decimal n = decimal_in (suc n) n

-- a letter of a template: N, A and B stand for number, a and b, any other for itself
unfoldable pub spelled : Refusal → ℕ → List ℕ
spelled r c =
    cond (eqb c (code "N")) (in_decimal r.number)
    (cond (eqb c (code "A")) (in_decimal r.a)
    (cond (eqb c (code "B")) (in_decimal r.b)
    (c ∷ [])))

unfoldable pub filled : Refusal → List ℕ → List ℕ
filled r [] = []
filled r (c ∷ cs) = spelled r c ++ filled r cs

-- what every line begins with
abbrev pub beginning : String
beginning = "refused N: "

-- the template of a whole line
abbrev pub template : (words : List ℕ) → List ℕ
template words = codes beginning ++ (words ++ code "\n" ∷ [])

abbrev pub line : Refusal → List ℕ
line r = filled r (template (codes (words_in questions r.number)))

-- a buffer of so many bytes has room for every line
abbrev pub line_room : ℕ
line_room = 83

-- the longest numbers: a byte each, and b two
abbrev pub longest : Refusal
longest = record { number = 255; a = 255; b = 65535 }

-- has it room for a line of these words?
abbrev pub room_for : (words : List ℕ) → Bool
room_for words = leb (length (filled longest (template words))) line_room

-- a buffer after writing, and how many bytes were written
pub record Written : Type 0 where
  pub count : ℕ
  pub out : List ℕ

-- bytes at the front of a buffer, where they fit
unfoldable pub put_whole : (bytes out : List ℕ) → Written
put_whole bytes out =
    cond (leb (length bytes) (length out))
    (record { count = length bytes; out = bytes ++ drop (length bytes) out })
    (record { count = 0; out = out })
