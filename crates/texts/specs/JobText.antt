-- A job as text: what its lines say, and the lists that go to the job writer.
--   nodes 3 mode 2        their numbers first of all, once each
--   edges 0-1 1-2         names and what is behind them in any order, on as many lines as one likes
--   inputs 0
--   outputs 2
--   XY 0 1                a measurement, and the nodes measured so
use Rattle.std.specs.Prelude.{ℕ, suc, ◌+◌, ◌-◌, ◌*◌, Bool, true, false, cond, not, List, [], ◌∷◌, ◌++◌, eqb, leb, ltb, length, get_or, set}
use Rattle.std.proofs.Math.Option.{none}
use Rattle.nodes.specs.Lists.{zeros}
use Rattle.answers.specs.Answer.{Answer, gives, refuses, asks, ◌>>=◌, ◌>>◌}
use Rattle.records.specs.Writing.{most_job}
use Rattle.records.specs.JobLists.{JobLists, given}
use Rattle.demands.specs.Calls.{Outcome}
use Rattle.demands.specs.Roles.{operator, writing, called}
use Rattle.texts.specs.Pieces.{parting, until, pieces}
use Rattle.texts.specs.Words.{Word, Name, Number, Edge, Other, word_of, name_count, nodes_name, mode_name, edges_name, inputs_name, outputs_name, first_measurement}
use Rattle.texts.specs.declared.pieces.Stop.TheVariants.{LineFeed, Comment, Blank}

-- ---- word by word
-- The numbers of a text are kept as bytes, each number behind the place of its name.
abbrev pub number_bytes : ℕ
number_bytes = 2

-- no job has more numbers than its file has bytes
abbrev pub most_numbers : ℕ
most_numbers = most_job

-- the faults of a text
abbrev pub out_of_order : ℕ
out_of_order = 1

abbrev pub wrong_shape : ℕ
wrong_shape = 2

abbrev pub no_word : ℕ
no_word = 3

abbrev pub too_many : ℕ
too_many = 4

-- what the words so far have said: the name that was last, and the numbers; or which fault they have
pub data Reading : Type 0 where
  read : (name : ℕ) (numbers : List ℕ) → Reading
  fault : (kind : ℕ) → Reading

-- nothing yet, and behind no name
abbrev pub start : Reading
start = read name_count []

-- the bytes of the first two numbers
abbrev pub opening_bytes : ℕ
opening_bytes = 2 * number_bytes

-- the first number is that of nodes, the second that of mode, and no later one is: their names have the places 0 and 1
abbrev pub in_order : (name count : ℕ) → Bool
in_order name count = cond (ltb count opening_bytes) (eqb (number_bytes * name) count) (ltb mode_name name)

-- behind `edges` stand edges, behind every other name numbers
abbrev pub in_shape : (name : ℕ) (edge : Bool) → Bool
in_shape name true = eqb name edges_name
in_shape name false = not (eqb name edges_name)

-- numbers behind those that were read, where there is room
abbrev pub added : (room name : ℕ) (numbers : List ℕ) (edge : Bool) (more : List ℕ) → Reading
added room name numbers edge more =
    cond (in_order name (length numbers))
    (cond (in_shape name edge) (cond (leb (length numbers + length more) room) (read name (numbers ++ more)) (fault too_many)) (fault wrong_shape))
    (fault out_of_order)

abbrev pub said : (room name : ℕ) (numbers : List ℕ) → Word → Reading
said room name numbers (Name k) = read k numbers
said room name numbers (Number x) = added room name numbers false (name ∷ x ∷ [])
said room name numbers (Edge a b) = added room name numbers true (name ∷ a ∷ name ∷ b ∷ [])
said room name numbers Other = fault no_word

-- between two blanks there is no word
abbrev pub after_word : (room : ℕ) → Reading → List ℕ → Reading
after_word room (fault k) w = fault k
after_word room (read name numbers) [] = read name numbers
after_word room (read name numbers) (c ∷ w) = said room name numbers (word_of (c ∷ w))

unfoldable pub after_words : (room : ℕ) → Reading → List (List ℕ) → Reading
after_words room r [] = r
after_words room r (w ∷ ws) = after_words room (after_word room r w) ws

-- ---- line by line: the words before a comment
abbrev pub after_line : (room : ℕ) → Reading → List ℕ → Reading
after_line room r line = after_words room r (pieces (parting Blank) (until (parting Comment) line))

-- the numbers that a text says; or its fault, with how many lines stand before it
pub data TextRead : Type 0 where
  numbers : List ℕ → TextRead
  faulty : (before kind : ℕ) → TextRead

-- at the end: are nodes and mode there?
abbrev pub finished : (before : ℕ) → Reading → TextRead
finished before (fault k) = faulty before k
finished before (read name ns) = cond (ltb (length ns) opening_bytes) (faulty before out_of_order) (numbers ns)

-- a fault ends it
abbrev pub unless_fault : (before : ℕ) → Reading → (Reading → TextRead) → TextRead
unless_fault before (fault k) f = faulty before k
unless_fault before (read name ns) f = f (read name ns)

unfoldable pub after_lines : (room before : ℕ) → Reading → List (List ℕ) → TextRead
after_lines room before r [] = finished before r
after_lines room before r (l ∷ ls) = unless_fault before (after_line room r l) (λ next. after_lines room (suc before) next ls)

abbrev pub read_text : (room : ℕ) → List ℕ → TextRead
read_text room text = after_lines room 0 start (pieces (parting LineFeed) text)

-- ---- the lists
-- the numbers behind a name
unfoldable pub behind : (name : ℕ) → List ℕ → List ℕ
behind name [] = []
behind name (k ∷ []) = []
behind name (k ∷ x ∷ ns) = cond (eqb k name) (x ∷ behind name ns) (behind name ns)

-- a byte for each node: is a measured node below n (5), and measured once (21)?
abbrev pub measured_one : (name x : ℕ) (table : List ℕ) → Answer (List ℕ)
measured_one name x table =
    cond (ltb name first_measurement) (gives table)
    (asks 5 (ltb x (length table)) >> asks 21 (eqb (get_or table x 0) 0) >> gives (set table x (name - outputs_name)))

unfoldable pub measured : (ns table : List ℕ) → Answer (List ℕ)
measured [] table = gives table
measured (k ∷ []) table = gives table
measured (k ∷ x ∷ ns) table = measured_one k x table >>= measured ns

-- the first two numbers
abbrev pub node_count : List ℕ → ℕ
node_count ns = get_or ns (number_bytes * nodes_name + 1) 0

abbrev pub mode_given : List ℕ → ℕ
mode_given ns = get_or ns (number_bytes * mode_name + 1) 0

abbrev pub lists_in : (ns measurements : List ℕ) → JobLists
lists_in ns measurements = given (node_count ns) (mode_given ns) (behind edges_name ns) (behind inputs_name ns) (behind outputs_name ns) measurements none

-- ---- the job writer's call, as operator
-- how it ends: as the call does, or with a fault of the text
pub data Ending : Type 0 where
  ends : Answer ℕ → Ending
  broken : (before kind : ℕ) → Ending

pub record Made : Type 0 where
  pub ending : Ending
  pub out : List ℕ

abbrev pub made_by : Outcome → Made
made_by o = record { ending = ends o.answer; out = o.out }

abbrev pub made_of : (ns : List ℕ) → Answer (List ℕ) → (out : List ℕ) → Made
made_of ns (refuses r) out = record { ending = ends (refuses r); out = out }
made_of ns (gives measurements) out = made_by (called operator (writing out) (lists_in ns measurements))

abbrev pub made_from : TextRead → (out : List ℕ) → Made
made_from (faulty before kind) out = record { ending = broken before kind; out = out }
made_from (numbers ns) out = made_of ns (measured ns (zeros (node_count ns))) out

-- a text becomes a job file
abbrev pub write_text : (text out : List ℕ) → Made
write_text text out = made_from (read_text (number_bytes * most_numbers) text) out
