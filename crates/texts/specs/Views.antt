-- What the code's names, words, numbers and answers say.
use Rattle.std.specs.Prelude.{ℕ, ◌≡◌, ◌+◌, ◌*◌, ◌<◌, ◌≤◌, Bool, true, false, List, [], ◌∷◌, ◌++◌, length, Result, Ok, Err, ◌-◌, cond, ltb}
use Rattle.std.specs.Prelude as Rust
use Rattle.std.proofs.Math.Option.{Option, none, some}
use Rattle.answers.specs.Answer.{Answer, gives, refuses}
use Rattle.answers.specs.Refusals.{given, question_of}
use Rattle.answers.specs.declared.Refusal as Refused
use Rattle.arrayvec.specs.ArrayVec.{ArrayVec}
use Rattle.texts.specs.Pieces.{parting, pieces}
use Rattle.texts.specs.Words.{Word, first_measurement, name_count, nodes_name, mode_name, edges_name, inputs_name, outputs_name}
use Rattle.texts.specs.Words as Said
use Rattle.texts.specs.JobText.{number_bytes, most_numbers, Reading, read, fault, TextRead, numbers, faulty, Ending, ends, broken, out_of_order, wrong_shape, no_word, too_many, in_order, in_shape, added}
use Rattle.texts.specs.Shown.{shown_measurement}
use Rattle.texts.specs.declared.pieces.Pieces.{Pieces}
use Rattle.texts.specs.declared.names.Name.{Name}
use Rattle.texts.specs.declared.names.Name.TheVariants.{Nodes, Mode, Edges, Inputs, Outputs, Xy, Yz, Xz, X, Y, Z}
use Rattle.texts.specs.declared.words.Word as Code
use Rattle.texts.specs.declared.words.Word.TheVariants.{Name as AName, Number as ANumber, Edge as AnEdge}
use Rattle.texts.specs.declared.faults.Fault.{Fault}
use Rattle.texts.specs.declared.faults.Fault.TheVariants.{OutOfOrder, WrongShape, NoWord, TooMany}
use Rattle.texts.specs.declared.faults.FaultyLine.{FaultyLine}
use Rattle.texts.specs.declared.faults.TextError.{TextError}
use Rattle.texts.specs.declared.faults.TextError.TheVariants.{Refused, Faulty}

-- ---- pieces and words
abbrev pub pieces_left : Pieces → List (List ℕ)
pieces_left p = pieces (parting p.stop) p.rest.now

-- the place of a name among the names
abbrev pub place_of : Name → ℕ
place_of Nodes = nodes_name
place_of Mode = mode_name
place_of Edges = edges_name
place_of Inputs = inputs_name
place_of Outputs = outputs_name
place_of Xy = 5
place_of Yz = 6
place_of Xz = 7
place_of X = 8
place_of Y = 9
place_of Z = 10

abbrev pub value_in : Rust.Option ℕ → Option ℕ
value_in (Rust.Some x) = some x
value_in Rust.None = none

abbrev pub edge_held : Rust.Option (ℕ × ℕ) → Word
edge_held (Rust.Some p) = Said.Edge p.0 p.1
edge_held Rust.None = Said.Other

abbrev pub word_held : Rust.Option Code.Word → Word
word_held (Rust.Some (AName name)) = Said.Name (place_of name)
word_held (Rust.Some (ANumber x)) = Said.Number x
word_held (Rust.Some (AnEdge a b)) = Said.Edge a b
word_held Rust.None = Said.Other

-- ---- numbers and readings
-- each number behind the place of its name
unfoldable pub bytes_of : List (Name × ℕ) → List ℕ
bytes_of [] = []
bytes_of (p ∷ ps) = place_of p.0 ∷ p.1 ∷ bytes_of ps

abbrev pub last_place : Rust.Option Name → ℕ
last_place (Rust.Some name) = place_of name
last_place Rust.None = name_count

-- no number comes before the first name
abbrev pub is_named : Rust.Option Name → List (Name × ℕ) → Bool
is_named (Rust.Some name) ps = true
is_named Rust.None [] = true
is_named Rust.None (p ∷ ps) = false

abbrev pub reading_of : Rust.Option Name → List (Name × ℕ) → Reading
reading_of name ps = read (last_place name) (bytes_of ps)

abbrev pub kind_of : Fault → ℕ
kind_of OutOfOrder = out_of_order
kind_of WrongShape = wrong_shape
kind_of NoWord = no_word
kind_of TooMany = too_many

-- a reading, or the fault in its place
abbrev pub told : Result Unit Fault → Reading → Reading
told (Ok u) r = r
told (Err f) r = fault (kind_of f)

-- the name behind which numbers, or edges, may be added; or the fault that adding them has
abbrev pub IsNameFor : Result Name Fault → Rust.Option Name → (numbers : List ℕ) (edge : Bool) → Type 0
IsNameFor (Ok name) last ns edge = (last ≡ Rust.Some name) × (in_order (place_of name) (length ns) ≡ true) × (in_shape (place_of name) edge ≡ true)
IsNameFor (Err f) last ns edge = (room : ℕ) (more : List ℕ) → fault (kind_of f) ≡ added room (last_place last) ns edge more

-- more numbers behind those that there were, or the fault that there is no room for them
abbrev pub IsMore : Result Unit Fault → (numbers more after : List ℕ) → Type 0
IsMore (Ok u) ns more after = (length ns + length more ≤ number_bytes * most_numbers) × (after ≡ ns ++ more)
IsMore (Err f) ns more after = (f ≡ TooMany) × (number_bytes * most_numbers < length ns + length more)

abbrev pub text_told : Result (ArrayVec (Name × ℕ)) FaultyLine → TextRead
text_told (Ok ns) = numbers (bytes_of ns.items)
text_told (Err f) = faulty f.before (kind_of f.fault)

-- the measurements of the nodes, where nothing was refused
abbrev pub table_in : Result Unit Refused.Refusal → List ℕ → Answer (List ℕ)
table_in (Ok u) table = gives table
table_in (Err q) table = refuses (question_of q)

-- ---- how a text ended
abbrev pub answer_of : Result ℕ Refused.Refusal → Ending
answer_of r = ends (given (λ k. k) r)

abbrev pub ending_of : Result ℕ TextError → Ending
ending_of (Ok k) = ends (gives k)
ending_of (Err (Refused q)) = ends (refuses (question_of q))
ending_of (Err (Faulty f)) = broken f.before (kind_of f.fault)

-- ---- the line of each name in a text that is shown, where it is that of a measurement
abbrev pub line_for : Name → (measurements : List ℕ) → List ℕ
line_for name ms = cond (ltb (place_of name) first_measurement) [] (shown_measurement (place_of name - outputs_name) ms)
