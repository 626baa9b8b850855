-- Where the parts of a job and of a flow lie: each is the payload of the record that starts where the one before it ends, and the last ends in the file.
use Prim.Native.Nat.{ℕ, min, ◌+◌, ◌-◌, ◌≤◌}
use mathlib.Core.Path.{◌≡◌, refl, sym, ap, ap₂, ◌∙◌}
use mathlib.Core.Bool.{Bool, true, false, cond, ◌&&◌}
use mathlib.Core.Option.{Option, none, some}
use mathlib.Core.List.{List}
use native.Mathlib.Omega.{arith}
use lib.ListN.{length, take, drop, length-take, length-drop}
use lib.Seq.{drop-drop}
use Rattle.std.specs.Prelude.{Result, Ok, Err, IfOk}
use Rattle.std.proofs.lemmas.List.{take_min, drop_min}
use Rattle.std.proofs.lemmas.Slice.{between_is}
use Rattle.nodes.specs.Lists.{has}
use Rattle.answers.specs.Answer.{Answer, gives, ◌>>=◌}
use Rattle.answers.specs.Refusals.{given}
use Rattle.answers.specs.declared.Refusal as Refused
use Rattle.answers.proofs.Answer.{give_inj, bind_out}
use Rattle.records.specs.Records.{head_bytes, carries, length_field, Part, part, all_yes, checked, each_asks, kind_opening, kind_edges, kind_inputs, kind_outputs, kind_measurements, kind_angles, kind_layers, kind_wide_layers, kind_sets, kind_set_signals, kind_odd_signals}
use Rattle.records.specs.Format.{Front, front, Format, PayloadFormat, plain, record_of, decode_then, ◌then◌, some_of, optional, optional_if}
use Rattle.records.specs.JobFile.{JobFile, opening, edges_asks, nodes_asks, measurements_asks, angles_asks, has_angles, job, job_file, read_job}
use Rattle.records.specs.FlowFile.{FlowFile, Layers, Signals, layer_width, layer_bytes, layer_numbers, layers_as, layers, entries_of, listed, entry_bytes, sets_asks, sets, signal_rows, signals, flow, flow_file, read_flow}
use Rattle.records.specs.Encoding.{IsBytes}
use Rattle.records.specs.Views.{job_held, some_if, flow_held, pair_if}
use Rattle.records.specs.Places.{between, bytes_at, payload_from, optional_from, job_places, job_at, IsJobPlaced, flow_places, flow_at, IsFlowPlaced}
use Rattle.records.specs.declared.common.Place.{Place}
use Rattle.records.specs.declared.job_file.JobFile as JobRead
use Rattle.records.specs.declared.flow_file.FlowFile as FlowRead
use Rattle.records.proofs.Records.{bytes_part, part_out, checked_passed, length_out}
use Rattle.records.proofs.FlowFile.{entries_encode, sets_out}
use Rattle.records.proofs.Layers.{bytes_back}

-- bytes up to a place that is cut off at the end of the file are those of the place
pub clipped : (a b : ℕ) (s : List ℕ) → between (min a (min b (length s))) (min b (length s)) s ≡ between a b s
clipped a b s =
    let e : ℕ = min b (length s) in
    between_is s (min a e) e
    ∙ ap (drop (min a e)) (take_min b s)
    ∙ ap (λ (k : ℕ). drop (min a k) (take b s)) (sym (length-take b s))
    ∙ drop_min a (take b s)
    ∙ sym (between_is s a b)

-- ---- what a format reads at the front of some bytes
record Reads {A : Type 0} (f : Format A) (y : List ℕ) (r : Front A) : Type 0 where
  pub read : f.decode y ≡ gives r

-- a value before those behind it
abbrev before : {A B : Type 0} → A → Front B → Front (A × B)
before a q = front (a, q.value) q.rest

-- where the first format reads v alone and leaves t, the second reads on there
then_placed : {A B : Type 0} (f : Format A) (g : A → Format B) (y t : List ℕ) (v : A) (C : Type 0) (r : Front (A × B)) → ((x : Front A) → Reads f y x → (x ≡ front v t) × C) → Reads (f then g) y r
    → (q : Front B) × Reads (g v) t q × (r ≡ before v q) × C
unfolding decode_then
then_placed {A = A} {B = B} f g y t v C r h e =
    let (x, x1, e1) = bind_out (f.decode y) (λ p. (g p.value).decode p.rest >>= λ q. gives (front {A = A × B} (p.value, q.value) q.rest)) r e.read in
    let (k, c) = h x (record { read = x1 }) in
    let (q, q1, e2) = bind_out ((g x.value).decode x.rest) (λ q. gives (front {A = A × B} (x.value, q.value) q.rest)) r e1 in
    (q, record { read = ap (λ (p : Front A). (g p.value).decode p.rest) (sym k) ∙ q1 }, sym (give_inj e2) ∙ ap (λ (p : Front A). front {A = A × B} (p.value, q.value) q.rest) k, c)

module _ (s : List ℕ) (at : ℕ) where
  -- where the payload of the record lies that starts here
  abbrev here : Place
  here = payload_from s at

  -- ---- one record
  part_placed : (kind : ℕ) (p : Part) → part kind (drop at s) ≡ gives p → (p ≡ record { payload = bytes_at here s; rest = drop here.end s }) × (here.end ≤ length s)
  part_placed kind p e =
      let w = part_out kind (drop at s) p e in
      let n : ℕ = length_field (drop at s) in
      let size : at + head_bytes + n - (at + head_bytes) ≡ n = omega arith in
      let end : at + (head_bytes + n) ≡ at + head_bytes + n = omega arith in
      (sym w.same ∙ rw (drop-drop head_bytes at s, drop-drop (head_bytes + n) at s, size, end) refl, omega (arith, w.room, length-drop at s))

  record_placed : {A : Type 0} (kind : ℕ) (p : PayloadFormat A) (r : Front A) → Reads (record_of kind p) (drop at s) r
      → (r ≡ front (p.value (bytes_at here s)) (drop here.end s)) × ((all_yes (p.questions (bytes_at here s)) ≡ true) × (here.end ≤ length s))
  record_placed kind p r e =
      let (x, c, g) = bind_out (checked kind p.questions (drop at s)) (λ x. gives (front (p.value x.payload) x.rest)) r e.read in
      let (a, y) = checked_passed kind p.questions (drop at s) x c in
      let (q, l) = part_placed kind x a in
      (sym (give_inj g) ∙ ap (λ (x : Part). front (p.value x.payload) x.rest) q, (ap (λ (x : Part). all_yes (p.questions x.payload)) (sym q) ∙ y, l))

  -- ---- one that may be there, where the bytes up to it are there
  optional_placed : (may : Bool) (kind : ℕ) (questions : List ℕ → Answer Bool) (r : Front (Option (List ℕ))) → at ≤ length s → Reads (optional_if may kind (record_of kind (plain questions))) (drop at s) r
      → let there = may && carries kind (drop at s) in let p = optional_from s there at in (r ≡ front (some_if there (bytes_at p s)) (drop p.end s)) × (p.end ≤ length s)
  optional_placed may kind questions r l e = by (may && carries kind (drop at s)) e.read
    where
      by : (there : Bool) → cond there (some_of ((record_of kind (plain questions)).decode (drop at s))) (gives (front none (drop at s))) ≡ gives r
          → (r ≡ front (some_if there (bytes_at (optional_from s there at) s)) (drop (optional_from s there at).end s)) × ((optional_from s there at).end ≤ length s)
      by true d =
          let (x, x1, g) = bind_out ((record_of kind (plain questions)).decode (drop at s)) (λ p. gives (front (some p.value) p.rest)) r d in
          let (k, y) = record_placed kind (plain questions) x (record { read = x1 }) in
          (sym (give_inj g) ∙ ap (λ (p : Front (List ℕ)). front {A = Option (List ℕ)} (some p.value) p.rest) k, y.1)
      by false d = (sym (give_inj d), l)

  -- ---- the layers, of either kind
  layers_placed : (n : ℕ) (r : Front Layers) → Reads (layers n) (drop at s) r
      → let wide = carries kind_wide_layers (drop at s) in
      (r ≡ front (record { wide = wide; numbers = layer_numbers wide (bytes_at here s) }) (drop here.end s)) × ((all_yes (each_asks (layer_width wide) n (bytes_at here s)) ≡ true) × (here.end ≤ length s))
  layers_placed n r e = by (carries kind_wide_layers (drop at s)) e.read
    where
      by : (wide : Bool) → cond wide ((record_of kind_wide_layers (layers_as true n)).decode (drop at s)) ((record_of kind_layers (layers_as false n)).decode (drop at s)) ≡ gives r
          → (r ≡ front (record { wide = wide; numbers = layer_numbers wide (bytes_at here s) }) (drop here.end s)) × ((all_yes (each_asks (layer_width wide) n (bytes_at here s)) ≡ true) × (here.end ≤ length s))
      by true d = record_placed kind_wide_layers (layers_as true n) r (record { read = d })
      by false d = record_placed kind_layers (layers_as false n) r (record { read = d })

-- ---- both signal lists, or neither
lists_placed : (s : List ℕ) (at n : ℕ) (r : Front (Option Signals)) → at ≤ length s → Reads (optional kind_set_signals (signals n)) (drop at s) r
    → let there = carries kind_set_signals (drop at s) in
    let first = optional_from s there at in
    let second = cond there (payload_from s first.end) first in
    (r ≡ front (pair_if there (bytes_at first s) (bytes_at second s)) (drop second.end s)) × (second.end ≤ length s)
lists_placed s at n r l e = by (carries kind_set_signals (drop at s)) e.read
  where
    by : (there : Bool) → cond there (some_of ((signals n).decode (drop at s))) (gives (front none (drop at s))) ≡ gives r
        → let first = optional_from s there at in
        let second = cond there (payload_from s first.end) first in
        (r ≡ front (pair_if there (bytes_at first s) (bytes_at second s)) (drop second.end s)) × (second.end ≤ length s)
    by true d =
        let (x, x1, g) = bind_out ((signals n).decode (drop at s)) (λ p. gives (front (some p.value) p.rest)) r d in
        let both : Reads (signals n) (drop at s) x = record { read = x1 } in
        let (q, d1, e1, _) = then_placed _ _ _ _ _ _ x (record_placed s at kind_set_signals (signal_rows n)) both in
        let (e2, y) = record_placed s (payload_from s at).end kind_odd_signals (signal_rows n) q d1 in
        (sym (give_inj g) ∙ ap (λ (p : Front Signals). front {A = Option Signals} (some p.value) p.rest) (e1 ∙ ap (before _) e2), y.1)
    by false d = (sym (give_inj d), l)

-- ---- a job
pub job_placed : (s : List ℕ) (f : JobFile) → read_job s ≡ gives f → (f ≡ job_at s (job_places s)) × ((job_places s).end ≤ length s)
unfolding read_job job_places
job_placed s f e =
    let p = job_places s in
    let (r, d, g) = bind_out (job.decode s) (λ p. gives (job_file p)) f e in
    let whole : Reads job s r = record { read = d } in
    let (r1, d1, e1, _) = then_placed _ _ _ _ _ _ r (record_placed s 0 kind_opening opening) whole in
    let (r2, d2, e2, _) = then_placed _ _ _ _ _ _ r1 (record_placed s (payload_from s 0).end kind_edges (plain (edges_asks p.n))) d1 in
    let (r3, d3, e3, _) = then_placed _ _ _ _ _ _ r2 (record_placed s p.edges.end kind_inputs (plain (nodes_asks p.n))) d2 in
    let (r4, d4, e4, _) = then_placed _ _ _ _ _ _ r3 (record_placed s p.inputs.end kind_outputs (plain (nodes_asks p.n))) d3 in
    let (r5, d5, e5, y) = then_placed _ _ _ _ _ _ r4 (record_placed s p.outputs.end kind_measurements (plain (measurements_asks p.n p.mode (has (bytes_at p.outputs s))))) d4 in
    let (e6, l) = optional_placed s p.measurements.end (has_angles p.mode) kind_angles (angles_asks p.n (has (bytes_at p.outputs s))) r5 y.1 d5 in
    (sym (give_inj g) ∙ ap job_file (e1 ∙ ap (before _) (e2 ∙ ap (before _) (e3 ∙ ap (before _) (e4 ∙ ap (before _) (e5 ∙ ap (before _) e6))))), l)

-- what the code gives of a job lies at its places
pub job_promised : (s : List ℕ) (r : Result JobRead.JobFile Refused.Refusal) → given job_held r ≡ read_job s → IfOk r (λ f. IsJobPlaced s f)
job_promised s (Err q) v = tt
job_promised s (Ok f) v =
    let (e, l) = job_placed s (job_held f) (sym v) in
    record {
      n = ap (λ (j : JobFile). j.n) e;
      mode = ap (λ (j : JobFile). j.mode) e;
      edges = ap (λ (j : JobFile). j.edges) e;
      inputs = ap (λ (j : JobFile). j.inputs) e;
      outputs = ap (λ (j : JobFile). j.outputs) e;
      measurements = ap (λ (j : JobFile). j.measurements) e;
      angles = ap (λ (j : JobFile). j.angles) e;
      after = ap (λ (j : JobFile). j.after) e;
      inside = l;
    }

-- ---- a flow
-- what was asked of the payloads of the layers and of the sets
abbrev pub IsFlowAsked : (n : ℕ) (wide : Bool) (layers sets : List ℕ) → Type 0
IsFlowAsked n wide layers sets = (all_yes (each_asks (layer_width wide) n layers) ≡ true) × (all_yes (sets_asks n sets) ≡ true)

pub flow_placed : (n : ℕ) (s : List ℕ) (at : ℕ) (g : FlowFile) → read_flow n (drop at s) ≡ gives g
    → let p = flow_places s at in (g ≡ flow_at s p) × IsFlowAsked n p.wide (bytes_at p.layers s) (bytes_at p.sets s) × (p.end ≤ length s)
unfolding read_flow flow_places
flow_placed n s at f e =
    let p = flow_places s at in
    let (r, d, g) = bind_out ((flow n).decode (drop at s)) (λ p. gives (flow_file p)) f e in
    let whole : Reads (flow n) (drop at s) r = record { read = d } in
    let (r1, d1, e1, a) = then_placed _ _ _ _ _ _ r (layers_placed s at n) whole in
    let (r2, d2, e2, b) = then_placed _ _ _ _ _ _ r1 (record_placed s p.layers.end kind_sets (sets n)) d1 in
    let (e3, l) = lists_placed s p.sets.end n r2 b.1 d2 in
    (sym (give_inj g) ∙ ap flow_file (e1 ∙ ap (before _) (e2 ∙ ap (before _) e3)), (a.0, b.0), l)

-- bytes that hold the same numbers, or the same entries, are the same
same_layers : (n : ℕ) (v w : Bool) (p q : List ℕ) → v ≡ w → layer_numbers v p ≡ layer_numbers w q → IsBytes p → IsBytes q
    → all_yes (each_asks (layer_width v) n p) ≡ true → all_yes (each_asks (layer_width w) n q) ≡ true → p ≡ q
same_layers n v w p q k e hp hq a b =
    sym (bytes_back v n p hp (length_out (layer_width v) n p a)) ∙ ap₂ layer_bytes k e ∙ bytes_back w n q hq (length_out (layer_width w) n q b)

same_sets : (n : ℕ) (p q : List ℕ) → listed (entries_of p) ≡ listed (entries_of q) → all_yes (sets_asks n p) ≡ true → all_yes (sets_asks n q) ≡ true → p ≡ q
same_sets n p q e a b = entries_encode p (listed (entries_of p)) (sets_out n p a).0 ∙ ap entry_bytes e ∙ sym (entries_encode q (listed (entries_of q)) (sets_out n q b).0)

-- what the code gives of a flow lies at its places
pub flow_lies : (n : ℕ) (s : List ℕ) (at : ℕ) (f : FlowRead.FlowFile) → IsBytes s → IsBytes f.layers.now → IsFlowAsked n f.wide f.layers.now f.sets.now → gives (flow_held f) ≡ read_flow n (drop at s) → IsFlowPlaced s at f
flow_lies n s at f h b a v =
    let p = flow_places s at in
    let (e, c, l) = flow_placed n s at (flow_held f) (sym v) in
    let kind : f.wide ≡ p.wide = ap (λ (g : FlowFile). g.wide) e in
    record {
      wide = kind;
      layers = same_layers n f.wide p.wide f.layers.now (bytes_at p.layers s) kind (ap (λ (g : FlowFile). g.layers) e) b (bytes_part p.layers.start (p.layers.end - p.layers.start) s h) a.0 c.0;
      sets = same_sets n f.sets.now (bytes_at p.sets s) (ap (λ (g : FlowFile). g.sets) e) a.1 c.1;
      signals = ap (λ (g : FlowFile). g.signals) e;
      after = ap (λ (g : FlowFile). g.after) e;
      inside = l;
    }

pub flow_promised : (n : ℕ) (s : List ℕ) (at : ℕ) (r : Result FlowRead.FlowFile Refused.Refusal) → IsBytes s → IfOk r (λ f. IsBytes f.layers.now) → IfOk r (λ f. IsFlowAsked n f.wide f.layers.now f.sets.now)
    → given flow_held r ≡ read_flow n (drop at s) → IfOk r (λ f. IsFlowPlaced s at f)
flow_promised n s at (Err q) h b a v = tt
flow_promised n s at (Ok f) h b a v = flow_lies n s at f h b a v
