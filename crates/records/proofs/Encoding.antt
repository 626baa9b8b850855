-- The formats of jobs and flows are exact: what is written reads back, and of bytes nothing else is read.
use Prim.Native.Nat.{ℕ, ◌+◌, ◌*◌, ◌≤◌, ◌<◌, zero-le}
use mathlib.Core.Path.{◌≡◌, refl, sym, ap, ◌∙◌}
use mathlib.Core.Bool.{Bool, true, false, cond, beq}
use mathlib.Core.Logic.{◌↔◌}
use mathlib.Core.Option.{Option, none, some}
use mathlib.Core.List.{List, [], ◌∷◌, ◌++◌, append-nil}
use native.Mathlib.Omega.{arith}
use native.Mathlib.Nat.{mul-le-mul}
use borrow.Author.Tests.{eqb-true, eq-eqb}
use lib.Dec.{ltb, eqb}
use lib.ListN.{length, get_or}
use Rattle.nodes.proofs.Logic.{and_out}
use Rattle.nodes.specs.Lists.{has, all}
use Rattle.answers.specs.Answer.{Refusal, Answer, gives, refuses, refusal, ◌>>=◌}
use Rattle.answers.proofs.Answer.{give_inj, never, bind_out}
use Rattle.records.specs.Records.{carries, all_yes, written, kind_opening, kind_edges, kind_inputs, kind_outputs, kind_measurements, kind_layers, kind_wide_layers, kind_sets, kind_set_signals, kind_odd_signals, kind_angles, each_asks}
use Rattle.records.specs.BitRows.{row_width}
use Rattle.records.specs.Format.{Front, front, PayloadFormat, plain, record_of, optional, decode_then}
use Rattle.records.specs.JobFile.{JobFile, most_nodes, opening_allowed, mode_planes, edges_asks, nodes_asks, measurements_asks, angles_asks, opening, JobValue, has_angles, angles, job, job_file, job_value, read_job}
use Rattle.records.specs.FlowFile.{FlowFile, Layers, layer_width, layer_bytes, layer_numbers, layers_as, layers, entries_of, listed, all_entries, entry_below, entries_rise, entry_bytes, sets, Signals, signal_rows, signals, FlowValue, flow, flow_file, flow_value, read_flow}
use Rattle.records.specs.Encoding.{IsBytes, job_bytes, AnglesFit, IsValidJob, flow_file_bytes, ListsFit, IsValidFlow}
use Rattle.records.proofs.Records.{all_left, all_right, length_out, length_in}
use Rattle.records.proofs.JobFile.{allowed_out, allowed_in, opening_out, opening_in, edges_out, edges_in, nodes_out, nodes_in, measurements_out, measurements_in, angles_out, angles_in, rises-length, pairs_length}
use Rattle.records.proofs.FlowFile.{entries_back, entries_encode, sets_out, sets_in, entries_few, entry_bytes-length}
use Rattle.records.proofs.Layers.{fits_two_bytes, beq_self, beq_same, width_few, bytes-length, numbers-length, numbers_back, bytes_back, numbers_small}
use Rattle.records.proofs.Format.{IsPayloadExact, Appends, IsLawful, exact_iff, payload_bytes, record_appends, record_closed, record_starts, record_differs, plain_exact, then_starts, carries_one, choice_neither, record_then_appends, record_lawful, ◌then_lawful◌, optional_appends, optional_follows, optional_lawful, choice_lawful}
use Rattle.records.proofs.ReadingRefusals.{IsReadingRefusal, numbered, IsNumbered, opening_numbered, edges_numbered, nodes_numbered, measurements_numbered, angles_numbered, each_numbered, sets_numbered}

-- ---- the payloads
two_bytes : (l : List ℕ) → length l ≡ 2 → get_or l 0 0 ∷ get_or l 1 0 ∷ [] ≡ l
two_bytes [] e = absurd (omega arith)
two_bytes (a ∷ []) e = absurd (omega arith)
two_bytes (a ∷ b ∷ []) e = refl
two_bytes (a ∷ b ∷ c ∷ l) e = absurd (omega arith)

opening_exact : IsPayloadExact opening
opening_exact = record {
  valid = λ l e. (opening_out l e).1;
  into = λ o v. (opening_in o.n o.mode v, refl, omega arith);
  out = λ l h e. two_bytes l (opening_out l e).0;
}

-- a record is lawful where its payload is exact and its questions are numbered
lawful : {A : Type 0} (kind : ℕ) (p : PayloadFormat A) → IsPayloadExact p → ((l : List ℕ) → IsNumbered (p.questions l)) → IsLawful IsReadingRefusal (record_of kind p)
lawful kind p x more = record_lawful IsReadingRefusal kind p (numbered 1 refl) (numbered 2 refl) x more

-- nodes have numbers of one byte
module _ (n : ℕ) (small : n ≤ 256) where
  edges_lawful : IsLawful IsReadingRefusal (record_of kind_edges (plain (edges_asks n)))
  edges_lawful = lawful kind_edges (plain (edges_asks n)) (plain_exact (edges_asks n) few) (edges_numbered n)
    where
      few : (p : List ℕ) → all_yes (edges_asks n p) ≡ true → length p < 4294967296
      few p e = let (a, b, c) = edges_out n p e in let q : length p + 2 * 0 ≤ 131073 = pairs_length 0 n p small zero-le b c in omega arith

  nodes_lawful : (kind : ℕ) → IsLawful IsReadingRefusal (record_of kind (plain (nodes_asks n)))
  nodes_lawful kind = lawful kind (plain (nodes_asks n)) (plain_exact (nodes_asks n) few) (nodes_numbered n)
    where
      few : (p : List ℕ) → all_yes (nodes_asks n p) ≡ true → length p < 4294967296
      few p e = let (a, b) = nodes_out n p e in let q : length p + 0 ≤ n = rises-length 0 n p zero-le a b in omega arith

  measurements_lawful : (mode : ℕ) (output : ℕ → Bool) → IsLawful IsReadingRefusal (record_of kind_measurements (plain (measurements_asks n mode output)))
  measurements_lawful mode output =
      lawful kind_measurements (plain (measurements_asks n mode output))
      (plain_exact (measurements_asks n mode output) (λ p e. let q = (measurements_out n mode output p e).0 in omega arith))
      (measurements_numbered n mode output)

  angles_lawful : (mode : ℕ) (output : ℕ → Bool) → IsLawful IsReadingRefusal (angles n mode output)
  angles_lawful mode output =
      optional_lawful (has_angles mode) kind_angles _ (record_starts kind_angles (plain (angles_asks n output)))
      (lawful kind_angles (plain (angles_asks n output))
      (plain_exact (angles_asks n output) (λ p e. let q = (angles_out n output p e).0 in omega arith))
      (angles_numbered n output))

  sets_exact : IsPayloadExact (sets n)
  sets_exact = record {
    valid = λ l e. let (f, a, b) = sets_out n l e in rw (a, b);
    into = λ es v.
        let (a, b) = and_out (all_entries (entry_below n) es) (entries_rise 0 es) v in
        let few : length es + 0 ≤ n = entries_few 0 n es zero-le a b in
        let long : length (entry_bytes es) ≤ length es * (n + 2) = entry_bytes-length 0 n es a b in
        let most : length es * (n + 2) ≤ 256 * 258 = mul-le-mul {n₁ = length es} {m₁ = n + 2} {n₂ = 256} {m₂ = 258} (omega arith) (omega arith) in
        (sets_in n es a b, ap listed (entries_back es), omega arith);
    out = λ l h e. sym (entries_encode l (listed (entries_of l)) (sets_out n l e).0);
  }

  layers_exact : (wide : Bool) → IsPayloadExact (layers_as wide n)
  layers_exact wide = record {
    valid = λ l e. rw (beq_self wide, eq-eqb (length (layer_numbers wide l)) n (numbers-length wide n l (length_out (layer_width wide) n l e)));
    into = λ a v.
        let (k, c) = and_out (beq a.wide wide) (eqb (length a.numbers) n) v in
        let long : length (layer_bytes wide a.numbers) ≡ layer_width wide * n = bytes-length wide a.numbers ∙ ap (λ (m : ℕ). layer_width wide * m) (eqb-true (length a.numbers) n c) in
        (length_in (layer_width wide) n (layer_bytes wide a.numbers) long, same a (beq_same a.wide wide k), rw long (width_few wide n (omega arith)));
    out = λ l h e. bytes_back wide n l h (length_out (layer_width wide) n l e);
  }
    where
      same : (a : Layers) → a.wide ≡ wide → (layers_as wide n).value (layer_bytes wide a.numbers) ≡ a
      same a e = rw (numbers_back wide a.numbers, ← e)

  layers_lawful : IsLawful IsReadingRefusal (layers n)
  layers_lawful =
      choice_lawful (record {
        starts = record_starts kind_wide_layers (layers_as true n);
        differs = record_differs kind_wide_layers kind_layers (layers_as false n) (λ e. omega arith);
        seconds = λ l v. beq_same l.wide true (and_out (beq l.wide true) _ v).0;
        firsts = λ l v. beq_same l.wide false (and_out (beq l.wide false) _ v).0;
      })
      (lawful kind_layers (layers_as false n) (layers_exact false) (each_numbered 1 n))
      (lawful kind_wide_layers (layers_as true n) (layers_exact true) (each_numbered 2 n))

  -- a list of n rows of n bits
  rows_lawful : (kind : ℕ) → IsLawful IsReadingRefusal (record_of kind (signal_rows n))
  rows_lawful kind = lawful kind (signal_rows n) (plain_exact (each_asks (row_width n) n) few) (each_numbered (row_width n) n)
    where
      few : (p : List ℕ) → all_yes (each_asks (row_width n) n p) ≡ true → length p < 4294967296
      few p e =
          let most : row_width n * n ≤ 32 * 256 = mul-le-mul {n₁ = row_width n} {m₁ = n} {n₂ = 32} {m₂ = 256} (omega arith) small in
          omega (arith, length_out (row_width n) n p e, most)

  signals_lawful : IsLawful IsReadingRefusal (optional kind_set_signals (signals n))
  signals_lawful =
      optional_lawful true kind_set_signals (signals n) (then_starts kind_set_signals (record_of kind_set_signals (signal_rows n)) (λ s. record_of kind_odd_signals (signal_rows n)) (record_starts kind_set_signals (signal_rows n)))
      (rows_lawful kind_set_signals then_lawful λ s v. rows_lawful kind_odd_signals)

-- of lists their length is asked
lists_out : (n : ℕ) (o : Option Signals) → (optional kind_set_signals (signals n)).valid o ≡ true → ListsFit n o
lists_out n none v = tt
lists_out n (some l) v =
    let (a, b) = and_out (all_yes (each_asks (row_width n) n l.0)) _ v in
    (length_out (row_width n) n l.0 a, length_out (row_width n) n l.1 b)

lists_in : (n : ℕ) (o : Option Signals) → ListsFit n o → (optional kind_set_signals (signals n)).valid o ≡ true
lists_in n none h = refl
lists_in n (some l) (a, b) = rw (length_in (row_width n) n l.0 a, length_in (row_width n) n l.1 b)

-- of layers of either kind their count is asked
layers-valid : (n : ℕ) (wide : Bool) (numbers : List ℕ) → (layers n).valid (record { wide = wide; numbers = numbers }) ≡ eqb (length numbers) n
layers-valid n true numbers = refl
layers-valid n false numbers = refl

-- ---- what is made of a value that was read
made_gives : {A F : Type 0} (m : Answer (Front A)) (make : Front A → F) (back : F → Front A) (x : F) → ((p : Front A) → back (make p) ≡ p) → (m >>= λ p. gives (make p)) ≡ gives x → m ≡ gives (back x)
made_gives m make back x h e =
    let (p, d, q) = bind_out m (λ p. gives (make p)) x e in
    d ∙ ap gives (sym (h p) ∙ ap back (give_inj q))

made_refuses : {A B : Type 0} (m : Answer A) (f : A → B) (r : Refusal) → (m >>= λ p. gives (f p)) ≡ refuses r → m ≡ refuses r
made_refuses (gives p) f r e = absurd (never (sym e))
made_refuses (refuses q) f r e = let h : q ≡ r = cc in ap refuses h

-- ---- a job
job_lawful : IsLawful IsReadingRefusal job
job_lawful =
    lawful kind_opening opening opening_exact opening_numbered then_lawful λ o v.
    let small : o.n ≤ 256 = omega (arith, (allowed_out o.n o.mode v).0) in
    edges_lawful o.n small then_lawful λ e w.
    nodes_lawful o.n small kind_inputs then_lawful λ i w.
    nodes_lawful o.n small kind_outputs then_lawful λ u w.
    measurements_lawful o.n small o.mode (has u) then_lawful λ m w.
    angles_lawful o.n small o.mode (has u)

job_appends : Appends job
job_appends =
    record_then_appends kind_opening opening _ (λ o.
    record_then_appends kind_edges (plain (edges_asks o.n)) _ (λ e.
    record_then_appends kind_inputs (plain (nodes_asks o.n)) _ (λ i.
    record_then_appends kind_outputs (plain (nodes_asks o.n)) _ (λ u.
    record_then_appends kind_measurements (plain (measurements_asks o.n o.mode (has u))) _ (λ m.
    optional_appends (has_angles o.mode) kind_angles _ (record_appends kind_angles (plain (angles_asks o.n (has u)))))))))

-- whatever does not carry angles may follow a job
pub job_follows : (f : JobFile) (t : List ℕ) → carries kind_angles t ≡ false → job.may_follow (job_value f) t ≡ true
job_follows f t c = optional_follows (has_angles f.mode) kind_angles _ (record_closed kind_angles (plain (angles_asks f.n (has f.outputs)))) f.angles t c

job_decoded : (s : List ℕ) (f : JobFile) → read_job s ≡ gives f → job.decode s ≡ gives (front (job_value f) f.after)
unfolding read_job
job_decoded s f e = made_gives (job.decode s) job_file (λ f. front (job_value f) f.after) f (λ p. refl) e

job_reads : (s : List ℕ) (f : JobFile) → job.decode s ≡ gives (front (job_value f) f.after) → read_job s ≡ gives f
unfolding read_job
job_reads s f e = ap (λ (m : Answer (Front JobValue)). m >>= λ p. gives (job_file p)) e

-- of angles their place and their questions are asked
fit_out : (n mode : ℕ) (output : ℕ → Bool) (o : Option (List ℕ)) → (angles n mode output).valid o ≡ true → AnglesFit n mode output o
fit_out n mode output none v = tt
fit_out n mode output (some p) v =
    let (h, a) = and_out (has_angles mode) (all_yes (angles_asks n output p)) v in
    let (l, w) = angles_out n output p a in
    (eqb-true mode mode_planes h, l, w)

fit_in : (n mode : ℕ) (output : ℕ → Bool) (o : Option (List ℕ)) → AnglesFit n mode output o → (angles n mode output).valid o ≡ true
fit_in n mode output none h = refl
fit_in n mode output (some p) (h, l, w) = rw (eq-eqb mode mode_planes h) (angles_in n output p l w)

valid_out : (f : JobFile) → job.valid (job_value f) ≡ true → IsValidJob f
valid_out f v =
    let (o, v1) = and_out (opening_allowed f.n f.mode) _ v in
    let (e, v2) = and_out (all_yes (edges_asks f.n f.edges)) _ v1 in
    let (i, v3) = and_out (all_yes (nodes_asks f.n f.inputs)) _ v2 in
    let (u, v4) = and_out (all_yes (nodes_asks f.n f.outputs)) _ v3 in
    let (m, a) = and_out (all_yes (measurements_asks f.n f.mode (has f.outputs) f.measurements)) _ v4 in
    let (o1, o2, o3) = allowed_out f.n f.mode o in
    let (e1, e2, e3) = edges_out f.n f.edges e in
    let (i1, i2) = nodes_out f.n f.inputs i in
    let (u1, u2) = nodes_out f.n f.outputs u in
    let (m1, m2) = measurements_out f.n f.mode (has f.outputs) f.measurements m in
    record { few = o1; mode_from = o2; mode_to = o3; pairs = e1; edges_below = e2; edges_rise = e3; inputs_below = i1; inputs_rise = i2; outputs_below = u1; outputs_rise = u2; count = m1; allowed = m2; angles = fit_out f.n f.mode (has f.outputs) f.angles a }

valid_in : (f : JobFile) → IsValidJob f → job.valid (job_value f) ≡ true
valid_in f v =
    rw (
      allowed_in f.n f.mode v.few v.mode_from v.mode_to,
      edges_in f.n f.edges v.pairs v.edges_below v.edges_rise,
      nodes_in f.n f.inputs v.inputs_below v.inputs_rise,
      nodes_in f.n f.outputs v.outputs_below v.outputs_rise,
      measurements_in f.n f.mode (has f.outputs) f.measurements v.count v.allowed,
      fit_in f.n f.mode (has f.outputs) f.angles v.angles,
    )

-- what the format asks of a job, question by question
pub job-valid : (f : JobFile) → (job.valid (job_value f) ≡ true ↔ IsValidJob f)
job-valid f = (valid_out f, valid_in f)

-- bytes are read as a job just where they are its bytes, its questions are answered yes, and what is behind it may follow
pub job_exact : (s : List ℕ) (f : JobFile) → IsBytes s
    → (read_job s ≡ gives f ↔ (s ≡ job_bytes f ++ f.after) × (job.valid (job_value f) ≡ true) × (job.may_follow (job_value f) f.after ≡ true))
job_exact s f h =
    let (there, back) = exact_iff job job_lawful.exact s (job_value f) f.after h in
    (λ e. there (job_decoded s f e), λ x. job_reads s f (back x))

-- a valid job is read back from its bytes
pub job_decodes : (f : JobFile) → IsValidJob f → carries kind_angles f.after ≡ false → read_job (job_bytes f ++ f.after) ≡ gives f
job_decodes f v c = job_reads (job_bytes f ++ f.after) f (job_lawful.exact.decodes (job_value f) f.after (valid_in f v) (job_follows f f.after c))

-- what is behind a job of bytes is bytes
pub job-after : (s : List ℕ) (f : JobFile) → IsBytes s → read_job s ≡ gives f → IsBytes f.after
job-after s f h e = all_right (λ b. ltb b 256) (job_bytes f) f.after (sym (ap (all (λ b. ltb b 256)) ((job_exact s f h).0 e).0) ∙ h)

-- what reading has asked, as facts
pub job_asked : (s : List ℕ) (f : JobFile) → read_job s ≡ gives f → IsValidJob f
job_asked s f e = valid_out f (job_lawful.exact.sound.valid s (job_value f) f.after (job_decoded s f e))

pub job-refuses : (s : List ℕ) (r : Refusal) → read_job s ≡ refuses r → IsReadingRefusal r
unfolding read_job
job-refuses s r e = job_lawful.refusing.refused s r (made_refuses (job.decode s) job_file r e)

-- with bytes behind it
abbrev pub behind : JobFile → List ℕ → JobFile
behind f g = record { n = f.n; mode = f.mode; edges = f.edges; inputs = f.inputs; outputs = f.outputs; measurements = f.measurements; angles = f.angles; after = f.after ++ g }

-- a job reads the same with bytes behind it that may follow: all that carry no angles, and behind angles any
pub job-append : (s g : List ℕ) (f : JobFile) → read_job s ≡ gives f → job.may_follow (job_value f) (f.after ++ g) ≡ true → read_job (s ++ g) ≡ gives (behind f g)
job-append s g f e c = job_reads (s ++ g) (behind f g) (job_appends.appends s (job_value f) f.after g (job_decoded s f e) c)

pub job-append_angled : (s g : List ℕ) (f : JobFile) (p : List ℕ) → f.angles ≡ some p → read_job s ≡ gives f → read_job (s ++ g) ≡ gives (behind f g)
job-append_angled s g f p a e = job-append s g f e (rw a)

-- ---- a flow
flow_lawful : (n : ℕ) → n ≤ most_nodes → IsLawful IsReadingRefusal (flow n)
flow_lawful n h =
    layers_lawful n (omega arith) then_lawful λ l v.
    lawful kind_sets (sets n) (sets_exact n (omega arith)) (sets_numbered n) then_lawful λ e w.
    signals_lawful n (omega arith)

-- neither kind of layers stands there: question 1
pub flow_neither : (n : ℕ) (s : List ℕ) → carries kind_layers s ≡ false → carries kind_wide_layers s ≡ false → read_flow n s ≡ refuses (refusal 1)
unfolding read_flow decode_then
flow_neither n s a b = rw (choice_neither (λ l. l.wide) kind_layers kind_wide_layers (layers_as false n) (layers_as true n) s a b) refl

-- a flow file carries no angles: a job reads the same with one behind it
pub flow-carries : (n : ℕ) (s : List ℕ) (g : FlowFile) → read_flow n s ≡ gives g → carries kind_angles s ≡ false
flow-carries n s g e = by (carries kind_wide_layers s) refl (carries kind_layers s) refl
  where
    by : (a : Bool) → carries kind_wide_layers s ≡ a → (b : Bool) → carries kind_layers s ≡ b → carries kind_angles s ≡ false
    by true h b k = carries_one kind_wide_layers kind_angles s h (λ e. omega arith)
    by false h true k = carries_one kind_layers kind_angles s k (λ e. omega arith)
    by false h false k = absurd (never (sym (flow_neither n s k h) ∙ e))

flow_decoded : (n : ℕ) (s : List ℕ) (g : FlowFile) → read_flow n s ≡ gives g → (flow n).decode s ≡ gives (front (flow_value g) g.after)
unfolding read_flow
flow_decoded n s g e = made_gives ((flow n).decode s) flow_file (λ g. front (flow_value g) g.after) g (λ p. refl) e

flow_reads : (n : ℕ) (s : List ℕ) (g : FlowFile) → (flow n).decode s ≡ gives (front (flow_value g) g.after) → read_flow n s ≡ gives g
unfolding read_flow
flow_reads n s g e = ap (λ (m : Answer (Front FlowValue)). m >>= λ p. gives (flow_file p)) e

flow-valid_out : (n : ℕ) (g : FlowFile) → (flow n).valid (flow_value g) ≡ true → IsValidFlow n g
flow-valid_out n g v =
    let (l, w) = and_out ((layers n).valid (flow_value g).0) _ v in
    let (e, o) = and_out ((sets n).valid g.sets) _ w in
    let (a, b) = and_out (all_entries (entry_below n) g.sets) (entries_rise 0 g.sets) e in
    record { count = eqb-true (length g.layers) n (sym (layers-valid n g.wide g.layers) ∙ l); below = a; rise = b; lists = lists_out n g.signals o }

flow-valid_in : (n : ℕ) (g : FlowFile) → IsValidFlow n g → (flow n).valid (flow_value g) ≡ true
flow-valid_in n g v = rw (layers-valid n g.wide g.layers, eq-eqb (length g.layers) n v.count, v.below, v.rise, lists_in n g.signals v.lists)

pub flow_exact : (n : ℕ) (s : List ℕ) (g : FlowFile) → n ≤ most_nodes → IsBytes s
    → (read_flow n s ≡ gives g ↔ (s ≡ (flow n).encode (flow_value g) ++ g.after) × ((flow n).valid (flow_value g) ≡ true) × ((flow n).may_follow (flow_value g) g.after ≡ true))
flow_exact n s g k h =
    let (there, back) = exact_iff (flow n) (flow_lawful n k).exact s (flow_value g) g.after h in
    (λ e. there (flow_decoded n s g e), λ x. flow_reads n s g (back x))

-- the layers that were read of bytes are below 65,536
pub flow-layers : (n : ℕ) (s : List ℕ) (g : FlowFile) → n ≤ most_nodes → IsBytes s → read_flow n s ≡ gives g → all fits_two_bytes g.layers ≡ true
flow-layers n s g k h e =
    by g.wide (all_left (λ b. ltb b 256) ((flow n).encode (flow_value g)) g.after (sym (ap (all (λ b. ltb b 256)) ((flow_exact n s g k h).0 e).0) ∙ h))
  where
    small : (wide : Bool) → IsBytes (layer_bytes wide g.layers) → all fits_two_bytes g.layers ≡ true
    small wide b = sym (ap (all fits_two_bytes) (numbers_back wide g.layers)) ∙ numbers_small wide (layer_bytes wide g.layers) b

    by : (wide : Bool) → IsBytes (cond wide (written kind_wide_layers (layer_bytes true g.layers)) (written kind_layers (layer_bytes false g.layers)) ++ (written kind_sets (entry_bytes g.sets) ++ (optional kind_set_signals (signals n)).encode g.signals)) → all fits_two_bytes g.layers ≡ true
    by true b = small true (payload_bytes kind_wide_layers (layer_bytes true g.layers) _ b)
    by false b = small false (payload_bytes kind_layers (layer_bytes false g.layers) _ b)

pub flow_asked : (n : ℕ) (s : List ℕ) (g : FlowFile) → n ≤ most_nodes → read_flow n s ≡ gives g → IsValidFlow n g
flow_asked n s g k e = flow-valid_out n g ((flow_lawful n k).exact.sound.valid s (flow_value g) g.after (flow_decoded n s g e))

pub flow-refuses : (n : ℕ) (s : List ℕ) (r : Refusal) → n ≤ most_nodes → read_flow n s ≡ refuses r → IsReadingRefusal r
unfolding read_flow
flow-refuses n s r k e = (flow_lawful n k).refusing.refused s r (made_refuses ((flow n).decode s) flow_file r e)

-- where nothing follows it
flow_ends : (n : ℕ) (g : FlowFile) → (flow n).may_follow (flow_value g) [] ≡ true
flow_ends n g = by g.wide g.signals
  where
    by : (wide : Bool) (o : Option Signals) → (flow n).may_follow (record { wide = wide; numbers = g.layers }, (g.sets, o)) [] ≡ true
    by true none = refl
    by true (some l) = refl
    by false none = refl
    by false (some l) = refl

-- a valid flow is read back from its bytes, whatever its layers
pub flow_decodes : (n : ℕ) (g : FlowFile) → n ≤ most_nodes → IsValidFlow n g → g.after ≡ [] → read_flow n (flow_file_bytes g) ≡ gives g
flow_decodes n g h v e = flow_reads n (flow_file_bytes g) g (rw (v.count, ← append-nil ((flow n).encode (flow_value g)), e) ((flow_lawful n h).exact.decodes (flow_value g) [] (flow-valid_in n g v) (flow_ends n g)))
