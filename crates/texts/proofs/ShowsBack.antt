-- Of specs/Shown, proved: what is shown of a job file is written as the same file again.
use Prim.Native.Nat.{ℕ, suc, ◌+◌, ◌*◌, ◌≤◌, ◌<◌}
use Prim.Native.Char.{code}
use mathlib.Core.Path.{◌≡◌, refl, sym, ap, ◌∙◌}
use mathlib.Core.Bool.{Bool, true, false, cond, not, false≢true}
use mathlib.Core.Option.{Option, none, some}
use mathlib.Core.List.{List, [], ◌∷◌, ◌++◌, append_assoc, append-nil}
use native.Mathlib.Omega.{arith}
use borrow.Author.Tests.{eqb-true}
use lib.Dec.{eqb}
use lib.ListN.{length, get_or, length-append}
use Rattle.nodes.specs.Lists.{has, zeros}
use Rattle.nodes.specs.Options.{is_some}
use Rattle.answers.specs.Answer.{Answer, gives}
use Rattle.answers.proofs.Answer.{give_inj, bind_out, asks_out}
use Rattle.answers.specs.Message.{codes}
use Rattle.flows.specs.Job.{plane_xy, plane_xz, pauli_z}
use Rattle.records.specs.JobFile.{JobFile, mode_causal, mode_planes, nodes_below, highest_of, read_job}
use Rattle.records.specs.JobLists.{JobLists, lists_of, without_angles}
use Rattle.records.specs.Encoding.{IsBytes, job_bytes, IsValidJob}
use Rattle.records.specs.Writing.{most_job, angle_record}
use Rattle.records.proofs.PairKeys.{bytes}
use Rattle.records.proofs.JobFile.{allowed_below}
use Rattle.records.proofs.Encoding.{job_asked}
use Rattle.records.proofs.JobLists.{job_parts, job_length, ascending-length, file_ascending, valid_asks}
use Rattle.demands.specs.Calls.{owner}
use Rattle.demands.specs.Roles.{operator, writing, called}
use Rattle.demands.proofs.Roles.{open_to_both}
use Rattle.demands.proofs.JobWriter.{writes_again}
use Rattle.texts.specs.Pieces.{pieces}
use Rattle.texts.specs.Words.{names, name_count, nodes_name, mode_name, edges_name, inputs_name, outputs_name}
use Rattle.texts.specs.JobText.{TextRead, numbers, number_bytes, most_numbers, opening_bytes, in_shape, read_text, behind, measured, lists_in, made_by, made_of, made_from, write_text}
use Rattle.texts.specs.Shown.{shown_nodes, shown_measurement, shown_measurements, shown_text, show_asks, ShowsBack}
use Rattle.texts.proofs.ShownLists.{pairs, Says, last_feed, new_name, all_nodes, one_measurement, all_edges, opening_first}
use Rattle.texts.proofs.Gathered.{pairs-length, behind_same, behind_others, measured_none, up_to, above_few, up_to_none, up_to-all, measured_from, measured_all, behind_measured, measured_few}

-- ---- what is known of a file that is shown
show_out : (s : List ℕ) (f : JobFile) → show_asks s ≡ gives f → (read_job s ≡ gives f) × (f.after ≡ []) × (f.angles ≡ none)
unfolding show_asks
show_out s f e =
    let (g, reads, e1) = bind_out (read_job s) _ f e in
    let (left, e2) = asks_out 8 (eqb (length g.after) 0) _ f e1 in
    let (bare, e3) = asks_out 24 (not (is_some g.angles)) _ f e2 in
    let same : g ≡ f = give_inj e3 in
    (reads ∙ ap gives same, rw same at (nothing g.after (eqb-true (length g.after) 0 left)), rw same at (no_angles g.angles bare))
  where
    nothing : (l : List ℕ) → length l ≡ 0 → l ≡ []
    nothing [] h = refl
    nothing (x ∷ l) h = absurd (omega arith)

    no_angles : (o : Option (List ℕ)) → not (is_some o) ≡ true → o ≡ none
    no_angles none h = refl
    no_angles (some p) h = absurd (false≢true h)

-- ---- the text from a list on, and the numbers that it says
module _ (f : JobFile) where
  abbrev measured_text : List ℕ
  measured_text = shown_measurements f.measurements ++ codes "\n"

  abbrev outputs_text : List ℕ
  outputs_text = codes "\noutputs" ++ (shown_nodes f.outputs ++ measured_text)

  abbrev inputs_text : List ℕ
  inputs_text = codes "\ninputs" ++ (shown_nodes f.inputs ++ outputs_text)

  abbrev measured_numbers : List ℕ
  measured_numbers = measured_from 1 pauli_z f.measurements

  abbrev outputs_numbers : List ℕ
  outputs_numbers = pairs outputs_name f.outputs ++ measured_numbers

  abbrev inputs_numbers : List ℕ
  inputs_numbers = pairs inputs_name f.inputs ++ outputs_numbers

  abbrev list_numbers : List ℕ
  list_numbers = pairs edges_name f.edges ++ inputs_numbers

  abbrev text_numbers : List ℕ
  text_numbers = nodes_name ∷ f.n ∷ mode_name ∷ f.mode ∷ list_numbers

six_parts : (a b c d e f t : List ℕ) → (a ++ (b ++ (c ++ (d ++ (e ++ f))))) ++ t ≡ a ++ (b ++ (c ++ (d ++ (e ++ (f ++ t)))))
six_parts a b c d e f t = simp append_assoc

inputs_named : codes "\ninputs" ≡ code "\n" ∷ get_or names inputs_name []
unfolding codes pieces
inputs_named = refl

outputs_named : codes "\noutputs" ≡ code "\n" ∷ get_or names outputs_name []
unfolding codes pieces
outputs_named = refl

module _ (room : ℕ) where
  measurements_say : (ms : List ℕ) → length ms ≤ 256 → Says room (shown_measurements ms ++ codes "\n") (measured_from 1 pauli_z ms)
  unfolding codes measured_from
  measurements_say ms few =
      rw (six_parts (shown 1) (shown 2) (shown 3) (shown 4) (shown 5) (shown 6) (code "\n" ∷ []))
      (one_measurement room 1 ms _ _ (omega arith) few
      (one_measurement room 2 ms _ _ (omega arith) few
      (one_measurement room 3 ms _ _ (omega arith) few
      (one_measurement room 4 ms _ _ (omega arith) few
      (one_measurement room 5 ms _ _ (omega arith) few
      (one_measurement room 6 ms _ _ (omega arith) few (last_feed room)))))))
    where
      shown : ℕ → List ℕ
      shown m = shown_measurement m ms

  -- a line of nodes, with its name
  nodes_say : (name : ℕ) (line xs s more : List ℕ) → line ≡ code "\n" ∷ get_or names name []
      → mode_name < name → in_shape name false ≡ true → name < name_count → IsBytes xs → Says room s more → Says room (line ++ (shown_nodes xs ++ s)) (pairs name xs ++ more)
  nodes_say name line xs s more e late shape h b a =
      rw e (new_name room name (shown_nodes xs ++ s) (pairs name xs ++ more) h (all_nodes room name late shape xs s more b (a name)))

module _ (f : JobFile) (v : IsValidJob f) where
  node_bytes : (l : List ℕ) → nodes_below f.n l ≡ true → IsBytes l
  node_bytes = bytes f.n (omega (arith, v.few))

  module _ (room : ℕ) where
    outputs_say : Says room (outputs_text f) (outputs_numbers f)
    outputs_say =
        nodes_say room outputs_name (codes "\noutputs") f.outputs (measured_text f) (measured_numbers f) outputs_named (omega arith) refl (omega arith)
        (node_bytes f.outputs v.outputs_below) (measurements_say room f.measurements (omega (arith, v.count, v.few)))

    inputs_say : Says room (inputs_text f) (inputs_numbers f)
    inputs_say =
        nodes_say room inputs_name (codes "\ninputs") f.inputs (outputs_text f) (outputs_numbers f) inputs_named (omega arith) refl (omega arith)
        (node_bytes f.inputs v.inputs_below) outputs_say

    text_says : opening_bytes + length (list_numbers f) ≤ room → read_text room (shown_text f) ≡ numbers (text_numbers f)
    unfolding shown_text
    text_says l =
        opening_first room f _ (list_numbers f) (omega (arith, v.few)) (omega (arith, v.mode_to)) l
        (all_edges room 0 f.edges (inputs_text f) (inputs_numbers f) v.pairs (node_bytes f.edges v.edges_below) inputs_say mode_name
        (λ e. absurd (false≢true (sym e))))

  -- ---- there is room for them: each is a byte of the file
  module _ (left : f.after ≡ []) where
    file_few : length (job_bytes f) ≤ most_job
    file_few = rw (← file_ascending f v left) (ascending-length (lists_of f) (valid_asks f v))

    numbers_few : opening_bytes + length (list_numbers f) ≤ number_bytes * most_numbers
    numbers_few =
        simp (length-append, pairs-length)
        (omega (
          arith,
          file_few,
          job_length f,
          ap length (job_parts f),
          length-append (job_bytes (without_angles f)) (angle_record f.angles),
          measured_few 0 pauli_z f.measurements,
          above_few 0 f.measurements,
        ))

  -- ---- the lists in them are the file's
  edges_back : behind edges_name (text_numbers f) ≡ f.edges
  unfolding behind
  edges_back =
      behind_same edges_name f.edges (inputs_numbers f)
      ∙ ap (λ (l : List ℕ). f.edges ++ l)
      (behind_others edges_name inputs_name f.inputs (outputs_numbers f) (λ e. omega arith)
      ∙ behind_others edges_name outputs_name f.outputs (measured_numbers f) (λ e. omega arith)
      ∙ behind_measured edges_name 0 pauli_z f.measurements (omega arith))
      ∙ append-nil f.edges

  inputs_back : behind inputs_name (text_numbers f) ≡ f.inputs
  unfolding behind
  inputs_back =
      behind_others inputs_name edges_name f.edges (inputs_numbers f) (λ e. omega arith)
      ∙ behind_same inputs_name f.inputs (outputs_numbers f)
      ∙ ap (λ (l : List ℕ). f.inputs ++ l)
      (behind_others inputs_name outputs_name f.outputs (measured_numbers f) (λ e. omega arith)
      ∙ behind_measured inputs_name 0 pauli_z f.measurements (omega arith))
      ∙ append-nil f.inputs

  outputs_back : behind outputs_name (text_numbers f) ≡ f.outputs
  unfolding behind
  outputs_back =
      behind_others outputs_name edges_name f.edges (inputs_numbers f) (λ e. omega arith)
      ∙ behind_others outputs_name inputs_name f.inputs (outputs_numbers f) (λ e. omega arith)
      ∙ behind_same outputs_name f.outputs (measured_numbers f)
      ∙ ap (λ (l : List ℕ). f.outputs ++ l) (behind_measured outputs_name 0 pauli_z f.measurements (omega arith))
      ∙ append-nil f.outputs

  -- no mode has a measurement above the last
  highest : (c d : Bool) → cond c plane_xy (cond d plane_xz pauli_z) + 1 ≤ suc pauli_z
  highest true d = omega arith
  highest false true = omega arith
  highest false false = omega arith

  measurements_whole : up_to pauli_z f.measurements ≡ f.measurements
  measurements_whole =
      up_to-all pauli_z (highest_of f.mode + 1) f.measurements (highest (eqb f.mode mode_causal) (eqb f.mode mode_planes))
      (allowed_below f.mode (has f.outputs) 0 f.measurements v.allowed)

  measurements_back : measured (text_numbers f) (zeros f.n) ≡ gives f.measurements
  unfolding measured
  measurements_back =
      measured_none edges_name f.edges (inputs_numbers f) (zeros f.n) (omega arith)
      ∙ measured_none inputs_name f.inputs (outputs_numbers f) (zeros f.n) (omega arith)
      ∙ measured_none outputs_name f.outputs (measured_numbers f) (zeros f.n) (omega arith)
      ∙ ap (measured (measured_numbers f)) (ap zeros (sym v.count) ∙ sym (up_to_none f.measurements))
      ∙ measured_all 0 pauli_z f.measurements
      ∙ ap gives measurements_whole

  lists_back : f.angles ≡ none → lists_in (text_numbers f) f.measurements ≡ lists_of f
  lists_back bare = rw (edges_back, inputs_back, outputs_back, bare) refl

  -- so the text makes what the job writer writes for the file's own lists
  text_makes : f.after ≡ [] → f.angles ≡ none → (out : List ℕ) → write_text (shown_text f) out ≡ made_by (called operator (writing out) (lists_of f))
  text_makes left bare out =
      ap (λ (t : TextRead). made_from t out) (text_says (number_bytes * most_numbers) (numbers_few left))
      ∙ ap (λ (m : Answer (List ℕ)). made_of (text_numbers f) m out) measurements_back
      ∙ ap (λ (l : JobLists). made_by (called operator (writing out) l)) (lists_back bare)

-- the writer of an operator and of the owner write the same where there are no angles
pub shows_back : ShowsBack
shows_back s f b e out =
    let (reads, left, bare) = show_out s f e in
    text_makes f (job_asked s f reads) left bare out
    ∙ ap made_by (open_to_both (writing out) (lists_of f) (rw bare refl) operator owner ∙ writes_again s f (reads, left, b) out)
