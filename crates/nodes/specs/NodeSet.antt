-- A set of nodes as its members: node v is in the set where the digit of its word is 1. A set is seen as its words, that of the lowest
-- nodes first.
use Rattle.std.specs.Prelude.{ℕ, zero, suc, ◌+◌, ◌-◌, ◌*◌, ◌/◌, ◌%◌, ◌<◌, ◌≤◌, ◌&&◌, cond, eqb, ltb, Bool, List, [], ◌∷◌, get_or}
use Rattle.nodes.specs.Bit.{bit}

-- the digits of a word
abbrev pub word_bits : ℕ
word_bits = 64

-- one to four words
abbrev pub IsWidth : ℕ → Type 0
IsWidth words = (0 < words) × (words ≤ 4)

-- how many nodes sets of so many words can have, and the highest of them
abbrev pub places : ℕ → ℕ
places words = words * word_bits

abbrev pub highest_of : ℕ → ℕ
highest_of words = places words - 1

-- the highest node that a set of a job's nodes can have, and how many there are
abbrev pub highest : ℕ
highest = 127

abbrev pub capacity : ℕ
capacity = highest + 1

-- the members of a list of words, of any length
unfoldable pub member_of : List ℕ → ℕ → Bool
member_of ws v = bit (get_or ws (v / word_bits) 0) (v % word_bits)

-- so many words of a list from word k on; one past its end is 0
abbrev pub words_from : ℕ → ℕ → List ℕ → List ℕ
words_from k zero ws = []
words_from k (suc n) ws = get_or ws k 0 ∷ words_from (suc k) n ws

-- the members of a set of so many words
abbrev pub member_in : ℕ → List ℕ → ℕ → Bool
member_in words s = member_of (words_from 0 words s)

-- a set of a job's nodes: its two words, and its members
abbrev pub words_of : List ℕ → List ℕ
words_of s = words_from 0 2 s

abbrev pub member : List ℕ → ℕ → Bool
member s = member_in 2 s

-- what is left of a set from word `at` on, where `left` is what is left of that word
unfoldable pub left_of : List ℕ → ℕ → ℕ → ℕ → Bool
left_of ws at left v = cond (eqb (v / word_bits) at) (bit left (v % word_bits)) (ltb at (v / word_bits) && member_of ws v)
