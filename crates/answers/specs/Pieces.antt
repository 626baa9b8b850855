-- What the pieces of a line say, as the code puts them together.
use Rattle.std.specs.Prelude.{ℕ, List, [], ◌∷◌, ◌++◌}
use Rattle.answers.specs.Answer.{Refusal}
use Rattle.answers.specs.Message.{in_decimal}
use Rattle.answers.specs.declared.words.Piece.{Piece}
use Rattle.answers.specs.declared.words.Piece.TheVariants.{Text, A, B}

abbrev pub piece_told : Refusal → Piece → List ℕ
piece_told r (Text words) = words.now
piece_told r (A words) = words.now ++ in_decimal r.a
piece_told r (B words) = words.now ++ in_decimal r.b

abbrev pub told : Refusal → List Piece → List ℕ
told r [] = []
told r (p ∷ ps) = piece_told r p ++ told r ps
