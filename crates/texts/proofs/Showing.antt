-- Of specs/Shown: a text from a place of its list on, how long a job's text is at most, and the call by what is found in the file.
use Prim.Native.Nat.{ℕ, suc, ◌+◌, ◌*◌, ◌%◌, ◌≤◌, ◌<◌}
use Prim.Native.Char.{code}
use mathlib.Core.Path.{◌≡◌, refl, sym, ap, ◌∙◌}
use mathlib.Core.Bool.{Bool, true, false, cond}
use mathlib.Core.List.{List, [], ◌∷◌, ◌++◌, append-nil}
use native.Mathlib.Numerals.{add-one}
use native.Mathlib.Omega.{arith}
use borrow.Author.Tests.{ltb-true}
use lib.Dec.{eqb, ltb}
use lib.ListN.{length, get_or, drop, length-append, drop_of_length-le}
use Rattle.nodes.specs.Lists.{has, all}
use Rattle.nodes.proofs.Logic.{and_out}
use Rattle.answers.specs.Answer.{gives}
use Rattle.answers.specs.Message.{codes, in_decimal}
use Rattle.answers.proofs.Decimal.{decimal_most}
use Rattle.records.specs.JobFile.{JobFile, read_job, nodes_below}
use Rattle.records.specs.JobLists.{without_angles}
use Rattle.records.specs.Encoding.{job_bytes, IsValidJob}
use Rattle.records.specs.Writing.{most_job, angle_record}
use Rattle.records.proofs.Encoding.{job_asked}
use Rattle.records.proofs.JobLists.{job_parts, job_length, ascending-length, file_ascending, valid_asks}
use Rattle.texts.specs.Pieces.{pieces}
use Rattle.texts.specs.Words.{names, inputs_name, outputs_name}
use Rattle.texts.specs.Shown.{shown_number, shown_nodes, shown_edge, shown_edges, shown_measured, shown_measurement, shown_measurements, shown_opening, shown_text, edges_in_line, text_room}
use Rattle.std.proofs.lemmas.List.{drop_more}
use Rattle.texts.specs.Views.{line_for}
use Rattle.texts.specs.declared.names.Name.{Name}
use Rattle.texts.proofs.Naming.{all_names}
use Rattle.texts.proofs.Parting.{rest}

-- ---- from place i on
module _ (l : List ℕ) (i : ℕ) where
  pub nodes_step : i < length l → shown_nodes (drop i l) ≡ shown_number (get_or l i 0) ++ shown_nodes (drop (i + 1) l)
  unfolding shown_nodes
  nodes_step h = ap shown_nodes (rest l i h)

  pub nodes_end : length l ≤ i → shown_nodes (drop i l) ≡ []
  unfolding shown_nodes
  nodes_end h = ap shown_nodes (drop_of_length-le l h)

  pub measured_step : (m : ℕ) → i < length l → shown_measured m i (drop i l) ≡ cond (eqb (get_or l i 0) m) (shown_number i) [] ++ shown_measured m (i + 1) (drop (i + 1) l)
  unfolding shown_measured
  measured_step m h =
      ap (shown_measured m i) (rest l i h) ∙ ap (λ (j : ℕ). cond (eqb (get_or l i 0) m) (shown_number i) [] ++ shown_measured m j (drop (i + 1) l)) (sym (add-one i))

  pub measured_end : (m : ℕ) → length l ≤ i → shown_measured m i (drop i l) ≡ []
  unfolding shown_measured
  measured_end m h = ap (shown_measured m i) (drop_of_length-le l h)

-- ---- two numbers after two
pub edges_chunk : (i : ℕ) (x left more : List ℕ) → left ≡ x ++ more → length x ≡ 2 → shown_edges i left ≡ shown_edge i (get_or x 0 0) (get_or x 1 0) ++ shown_edges (i + 1) more
unfolding shown_edges
edges_chunk i [] left more e h = absurd (omega arith)
edges_chunk i (a ∷ []) left more e h = absurd (omega arith)
edges_chunk i (a ∷ b ∷ []) left more e h = ap (shown_edges i) e ∙ ap (λ (k : ℕ). shown_edge i a b ++ shown_edges k more) (sym (add-one i))
edges_chunk i (a ∷ b ∷ d ∷ x) left more e h = absurd (omega arith)

pub edges_short : (i : ℕ) (left : List ℕ) → length left < 2 → shown_edges i left ≡ []
unfolding shown_edges
edges_short i [] h = refl
edges_short i (a ∷ []) h = refl
edges_short i (a ∷ b ∷ l) h = absurd (omega arith)

-- ---- how long
-- numbers below this have three digits at most
abbrev three_digits : ℕ
three_digits = 1000

number_most : (x : ℕ) → x < three_digits → length (in_decimal x) ≤ 3
number_most x h = decimal_most 2 x h

perhaps_most : (b : Bool) (s : List ℕ) → length (cond b s []) ≤ length s
perhaps_most true s = omega arith
perhaps_most false s = omega arith

module _ (n : ℕ) (few : n ≤ three_digits) where
  below : (x : ℕ) (l : List ℕ) → nodes_below n (x ∷ l) ≡ true → (length (in_decimal x) ≤ 3) × (nodes_below n l ≡ true)
  unfolding all
  below x l e = let (a, b) = and_out (ltb x n) (nodes_below n l) e in (number_most x (omega (arith, ltb-true x n a)), b)

  nodes_most : (l : List ℕ) → nodes_below n l ≡ true → length (shown_nodes l) ≤ 4 * length l
  unfolding shown_nodes
  nodes_most [] e = omega arith
  nodes_most (x ∷ l) e = let (a, b) = below x l e in omega (arith, length-append (in_decimal x) (shown_nodes l), nodes_most l b)

  edges_most : (i : ℕ) (l : List ℕ) → nodes_below n l ≡ true → length (shown_edges i l) ≤ 7 * length l
  unfolding shown_edges codes
  edges_most i [] e = omega arith
  edges_most i (a ∷ []) e = omega arith
  edges_most i (a ∷ b ∷ l) e =
      let (p, d) = below a (b ∷ l) e in
      let (q, f) = below b l d in
      let starts = eqb (i % edges_in_line) 0 in
      let first = cond starts (codes "\nedges") [] in
      let ends = code "-" ∷ in_decimal b in
      omega (
        arith,
        perhaps_most starts (codes "\nedges"),
        length-append (in_decimal a) ends,
        length-append first (shown_number a ++ ends),
        length-append (shown_edge i a b) (shown_edges (suc i) l),
        edges_most (suc i) l f,
      )

measured_most : (m v : ℕ) (l : List ℕ) → v + length l ≤ three_digits → length (shown_measured m v l) ≤ 4 * length l
unfolding shown_measured
measured_most m v [] h = omega arith
measured_most m v (x ∷ l) h =
    omega (arith, number_most v (omega arith), perhaps_most (eqb x m) (shown_number v), length-append (cond (eqb x m) (shown_number v) []) (shown_measured m (suc v) l), measured_most m (suc v) l (omega arith))

-- the names of measurements have two letters at most
abbrev IsShortName : ℕ → Type 0
IsShortName m = length (get_or names (outputs_name + m) []) ≤ 2

measurement_most : (m : ℕ) (l : List ℕ) → length l ≤ three_digits → IsShortName m → length (shown_measurement m l) ≤ 3 + 4 * length l
measurement_most m l h name =
    omega (arith, perhaps_most (has l m) (code "\n" ∷ get_or names (outputs_name + m) [] ++ shown_measured m 0 l), length-append (get_or names (outputs_name + m) []) (shown_measured m 0 l), measured_most m 0 l (omega arith))

short_names : IsShortName 1 × IsShortName 2 × IsShortName 3 × IsShortName 4 × IsShortName 5 × IsShortName 6
unfolding codes pieces
short_names = (omega arith, omega arith, omega arith, omega arith, omega arith, omega arith)

measurements_most : (l : List ℕ) → length l ≤ three_digits → length (shown_measurements l) ≤ 18 + 24 * length l
measurements_most l h =
    let (one, two, three, four, five, six) = short_names in
    let last = shown_measurement 6 l in
    let from5 = shown_measurement 5 l ++ last in
    let from4 = shown_measurement 4 l ++ from5 in
    let from3 = shown_measurement 3 l ++ from4 in
    let from2 = shown_measurement 2 l ++ from3 in
    omega (arith, with_most 1 from2 one, with_most 2 from3 two, with_most 3 from4 three, with_most 4 from5 four, with_most 5 last five, measurement_most 6 l h six)
  where
    with_most : (m : ℕ) (s : List ℕ) → IsShortName m → length (shown_measurement m l ++ s) ≤ 3 + 4 * length l + length s
    with_most m s name = omega (arith, length-append (shown_measurement m l) s, measurement_most m l h name)

-- the lists of a job that was read are together no longer than the longest file
module _ (s : List ℕ) (f : JobFile) (read : read_job s ≡ gives f) (ends : f.after ≡ []) where
  valid : IsValidJob f
  valid = job_asked s f read

  lists_most : length f.edges + length f.inputs + length f.outputs + length f.measurements ≤ most_job
  lists_most =
      let few : length (job_bytes f) ≤ most_job = rw (← file_ascending f valid ends) (ascending-length _ (valid_asks f valid)) in
      omega (arith, few, ap length (job_parts f), length-append (job_bytes (without_angles f)) (angle_record f.angles), job_length f)

  -- so its text has room
  pub text_most : length (shown_text f) ≤ text_room
  unfolding shown_text codes
  text_most =
      let few : f.n ≤ three_digits = omega (arith, valid.few) in
      let from5 = shown_measurements f.measurements ++ codes "\n" in
      let from4 = shown_nodes f.outputs ++ from5 in
      let from3 = shown_nodes f.inputs ++ (codes "\noutputs" ++ from4) in
      let from2 = shown_edges 0 f.edges ++ (codes "\ninputs" ++ from3) in
      omega (
        arith,
        lists_most,
        valid.count,
        valid.few,
        number_most f.n (omega (arith, valid.few)),
        number_most f.mode (omega (arith, valid.mode_to)),
        edges_most f.n few 0 f.edges valid.edges_below,
        nodes_most f.n few f.inputs valid.inputs_below,
        nodes_most f.n few f.outputs valid.outputs_below,
        measurements_most f.measurements (omega (arith, valid.count)),
        length-append (in_decimal f.n) (codes " mode" ++ shown_number f.mode),
        length-append (shown_opening f) from2,
        length-append (shown_edges 0 f.edges) (codes "\ninputs" ++ from3),
        length-append (shown_nodes f.inputs) (codes "\noutputs" ++ from4),
        length-append (shown_nodes f.outputs) from5,
        length-append (shown_measurements f.measurements) (codes "\n"),
      )

-- ---- the lines of the measurements, name by name
unfoldable pub lines_for : List Name → (measurements : List ℕ) → List ℕ
lines_for [] ms = []
lines_for (name ∷ others) ms = line_for name ms ++ lines_for others ms

pub lines_all : (ms : List ℕ) → lines_for all_names ms ≡ shown_measurements ms
unfolding lines_for
lines_all ms =
    ap (λ (l : List ℕ). shown_measurement 1 ms ++ (shown_measurement 2 ms ++ (shown_measurement 3 ms ++ (shown_measurement 4 ms ++ (shown_measurement 5 ms ++ l))))) (append-nil (shown_measurement 6 ms))

pub lines_step : (others : List Name) (i : ℕ) (d : Name) (ms : List ℕ) → i < length others → lines_for (drop i others) ms ≡ line_for (get_or others i d) ms ++ lines_for (drop (i + 1) others) ms
unfolding lines_for
lines_step others i d ms h = ap (λ (l : List Name). lines_for l ms) (drop_more others i d h)

pub lines_end : (others : List Name) (i : ℕ) (ms : List ℕ) → length others ≤ i → lines_for (drop i others) ms ≡ []
unfolding lines_for
lines_end others i ms h = ap (λ (l : List Name). lines_for l ms) (drop_of_length-le others {i = i} h)

-- ---- the text, list by list
abbrev pub named_list : (name : ℕ) (nodes : List ℕ) → List ℕ
named_list name nodes = codes "\n" ++ (get_or names name [] ++ shown_nodes nodes)

pub by_lists : (f : JobFile) → shown_text f
    ≡ shown_opening f ++ (shown_edges 0 f.edges ++ (named_list inputs_name f.inputs ++ (named_list outputs_name f.outputs ++ (shown_measurements f.measurements ++ codes "\n"))))
unfolding shown_text codes pieces
by_lists f = refl
