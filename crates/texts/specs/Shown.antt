-- A job file as text, which reads back as the same job.
use Rattle.std.specs.Prelude.{ℕ, suc, ◌+◌, ◌%◌, ◌≡◌, cond, not, List, [], ◌∷◌, ◌++◌, eqb, get_or}
use Prim.Native.Char.{code}
use Rattle.nodes.specs.Lists.{has}
use Rattle.nodes.specs.Options.{is_some}
use Rattle.answers.specs.Answer.{Answer, gives, asks, ◌>>=◌, ◌>>◌}
use Rattle.answers.specs.Message.{codes, in_decimal}
use Rattle.records.specs.Encoding.{IsBytes}
use Rattle.records.specs.JobFile.{JobFile, read_job}
use Rattle.records.specs.FlowFile.{nothing_left}
use Rattle.demands.specs.Calls.{Outcome, put, outcome}
use Rattle.texts.specs.Words.{names, outputs_name}
use Rattle.texts.specs.JobText.{made_by, write_text}

-- ---- lists: every word behind a blank, the first of a line behind a line feed
abbrev pub shown_number : ℕ → List ℕ
shown_number x = code " " ∷ in_decimal x

unfoldable pub shown_nodes : List ℕ → List ℕ
shown_nodes [] = []
shown_nodes (v ∷ vs) = shown_number v ++ shown_nodes vs

abbrev pub edges_in_line : ℕ
edges_in_line = 8

-- edge number i: each eighth begins a line
abbrev pub shown_edge : (i a b : ℕ) → List ℕ
shown_edge i a b = cond (eqb (i % edges_in_line) 0) (codes "\nedges") [] ++ (shown_number a ++ (code "-" ∷ in_decimal b))

unfoldable pub shown_edges : (i : ℕ) → List ℕ → List ℕ
shown_edges i [] = []
shown_edges i (a ∷ []) = []
shown_edges i (a ∷ b ∷ es) = shown_edge i a b ++ shown_edges (suc i) es

-- the nodes, from v on, that are measured so
unfoldable pub shown_measured : (m v : ℕ) → List ℕ → List ℕ
shown_measured m v [] = []
shown_measured m v (x ∷ ms) = cond (eqb x m) (shown_number v) [] ++ shown_measured m (suc v) ms

-- a line for a measurement that there is, with its name
abbrev pub shown_measurement : (m : ℕ) (measurements : List ℕ) → List ℕ
shown_measurement m ms = cond (has ms m) (code "\n" ∷ get_or names (outputs_name + m) [] ++ shown_measured m 0 ms) []

abbrev pub shown_measurements : List ℕ → List ℕ
shown_measurements ms =
    shown_measurement 1 ms ++ (shown_measurement 2 ms ++ (shown_measurement 3 ms ++ (shown_measurement 4 ms ++ (shown_measurement 5 ms ++ shown_measurement 6 ms))))

-- ---- the whole text
abbrev pub shown_opening : JobFile → List ℕ
shown_opening f = codes "nodes" ++ (shown_number f.n ++ (codes " mode" ++ shown_number f.mode))

unfoldable pub shown_text : JobFile → List ℕ
shown_text f =
    shown_opening f
    ++ (shown_edges 0 f.edges
    ++ (codes "\ninputs" ++ (shown_nodes f.inputs
    ++ (codes "\noutputs" ++ (shown_nodes f.outputs
    ++ (shown_measurements f.measurements
    ++ codes "\n"))))))

-- a buffer of so many bytes has room for every text that is shown
abbrev pub text_room : ℕ
text_room = 131072

-- ---- showing: the job's records, is nothing left (8), are there no angles, which a text has not and an operator may not see (24)
unfoldable pub show_asks : List ℕ → Answer JobFile
show_asks file = do
  f ← read_job file
  nothing_left f.after
  asks 24 (not (is_some f.angles))
  gives f

unfoldable pub show_text : (file out : List ℕ) → Outcome
show_text file out = outcome (show_asks file) shown_text out

-- What is shown of a file of bytes is written as the same file again, into any buffer.
abbrev pub ShowsBack : Type 0
ShowsBack = (s : List ℕ) (f : JobFile) → IsBytes s → show_asks s ≡ gives f → (out : List ℕ) → write_text (shown_text f) out ≡ made_by (put [] s out)
