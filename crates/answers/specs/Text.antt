-- Lines of a text, each ended by a line feed.
use Rattle.std.specs.Prelude.{ℕ, zero, suc, cond, List, [], ◌∷◌, eqb}
use Prim.Native.Char.{code}

abbrev pub line_feed : ℕ
line_feed = code "\n"

-- what stands behind the first k lines
unfoldable pub behind : ℕ → List ℕ → List ℕ
behind zero s = s
behind (suc k) [] = []
behind (suc k) (c ∷ s) = cond (eqb c line_feed) (behind k s) (behind (suc k) s)

-- what stands before the first line feed
unfoldable pub first_line : List ℕ → List ℕ
first_line [] = []
first_line (c ∷ s) = cond (eqb c line_feed) [] (c ∷ first_line s)

-- line k, from 0 on; where there is none, the first
abbrev pub or_all : (rest text : List ℕ) → List ℕ
or_all [] text = text
or_all (c ∷ rest) text = c ∷ rest

abbrev pub line_at : ℕ → List ℕ → List ℕ
line_at k text = first_line (or_all (behind k text) text)
