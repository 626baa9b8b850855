-- Bytes in pieces: a text in lines, a line in words, an edge in its two ends.
use Rattle.std.specs.Prelude.{ℕ, Bool, cond, ◌||◌, List, [], ◌∷◌, eqb}
use Prim.Native.Char.{code}
use Rattle.texts.specs.declared.pieces.Stop.{Stop}
use Rattle.texts.specs.declared.pieces.Stop.TheVariants.{LineFeed, Comment, Blank, Dash}

-- the letters that part pieces: blanks are spaces, tabs, and the carriage returns of some editors
abbrev pub parting : Stop → ℕ → Bool
parting LineFeed c = eqb c (code "\n")
parting Comment c = eqb c (code "#")
parting Blank c = eqb c (code " ") || eqb c (code "\t") || eqb c (code "\r")
parting Dash c = eqb c (code "-")

-- what stands before the first such letter: all, where there is none
unfoldable pub until : (ℕ → Bool) → List ℕ → List ℕ
until p [] = []
until p (c ∷ s) = cond (p c) [] (c ∷ until p s)

-- what stands behind it: nothing, where there is none
unfoldable pub past : (ℕ → Bool) → List ℕ → List ℕ
past p [] = []
past p (c ∷ s) = cond (p c) s (past p s)

-- a letter that parts nothing, at the front of pieces
abbrev pub onto : ℕ → List (List ℕ) → List (List ℕ)
onto c [] = (c ∷ []) ∷ []
onto c (s ∷ ss) = (c ∷ s) ∷ ss

-- all pieces, each ended by such a letter, the last perhaps by the end of all
unfoldable pub pieces : (ℕ → Bool) → List ℕ → List (List ℕ)
pieces p [] = []
pieces p (c ∷ s) = cond (p c) ([] ∷ pieces p s) (onto c (pieces p s))
