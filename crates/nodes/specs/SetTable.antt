-- A table of sets in a list of words: the same number of words for each set, set after set.
use Rattle.std.specs.Prelude.{ℕ, suc, ◌+◌, ◌*◌, ◌/◌, Bool, cond, List, [], ◌∷◌, ◌++◌, leb, length, get_or, set, take, drop}
use Rattle.std.specs.Int.Bits.{bit_xor}
use Rattle.nodes.specs.NodeSet.{word_bits, capacity, member_of}

-- the words of a set
abbrev pub set_words : ℕ
set_words = capacity / word_bits

-- the words of a table with a set for each node
abbrev pub table_words : ℕ
table_words = capacity * set_words

-- the members of set u; of what lies past the table there is none
unfoldable pub set_at : List ℕ → ℕ → ℕ → Bool
set_at ws u = member_of (take set_words (drop (set_words * u) ws))

-- the table with the words of set u replaced by s, where they lie in it; else the table as it is
unfoldable pub put_set : List ℕ → ℕ → List ℕ → List ℕ
put_set ws u s = cond (leb (set_words * u + set_words) (length ws)) (take (set_words * u) ws ++ (s ++ drop (set_words * u + set_words) ws)) ws

-- the words x added mod 2 to those of the table from place i on, as far as it has them
unfoldable pub add_words : List ℕ → ℕ → List ℕ → List ℕ
add_words ws i [] = ws
add_words ws i (w ∷ x) = add_words (set ws i (bit_xor (get_or ws i 0) w)) (suc i) x

-- the set x added mod 2 to set u, and to each of the listed sets in turn
abbrev pub add_set : List ℕ → ℕ → List ℕ → List ℕ
add_set ws u x = add_words ws (set_words * u) x

unfoldable pub add_sets : List ℕ → List ℕ → List ℕ → List ℕ
add_sets ws [] x = ws
add_sets ws (u ∷ us) x = add_sets (add_set ws u x) us x

-- the numbers of a list, each raised by `base`
unfoldable pub raised : ℕ → List ℕ → List ℕ
raised base [] = []
raised base (k ∷ l) = (base + k) ∷ raised base l
