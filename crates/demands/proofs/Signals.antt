-- Signal lists: adding keeps the other records and is done once, editing keeps lists that matched, and the verifier goes as before.
use Prim.Native.Nat.{ℕ, ◌<◌, ◌≤◌}
use mathlib.Core.Path.{◌≡◌, refl, sym, ap, ap₂, ◌∙◌, subst}
use mathlib.Core.Bool.{Bool, true, false, cond, ◌&&◌}
use mathlib.Core.Option.{Option, none, some}
use mathlib.Core.Logic.{◌≢◌}
use mathlib.Core.List.{List, [], ◌∷◌, ◌++◌, append-nil}
use borrow.Author.Tests.{ne_eqb}
use lib.Dec.{eqb}
use lib.ListN.{length}
use Rattle.nodes.specs.Lists.{has, equal}
use Rattle.nodes.specs.Options.{is_some}
use Rattle.nodes.proofs.Logic.{and_out, eqb_yes}
use Rattle.nodes.proofs.Row.{parity_ext}
use Rattle.flows.specs.Job.{odd}
use Rattle.answers.specs.Answer.{Answer, gives, refuses, ◌>>=◌, ◌>>◌}
use Rattle.answers.proofs.Answer.{give_inj, never, bind_out, then_out}
use Rattle.records.specs.Records.{carries, kind_sets, kind_set_signals}
use Rattle.records.specs.Format.{Front, front, optional, record_of, decode_then}
use Rattle.records.specs.JobFile.{JobFile, most_nodes, read_job, job_of}
use Rattle.records.specs.FlowFile.{SetEntry, FlowFile, Layers, Signals, FlowValue, flow_file, flow as flow_format, flow_value, layers, sets, signals, read_flow, flow_of, entry_of, entry_asks, nothing_left, one_member}
use Rattle.records.specs.SignalLists.{signals_of, with_signals, edited_list, edited_signals, edited}
use Rattle.records.specs.Encoding.{IsBytes, IsValidFlow, flow_file_bytes}
use Rattle.records.specs.Writing.{most_flow}
use Rattle.records.proofs.Encoding.{job_asked, flow_exact, flow_asked, flow_decodes}
use Rattle.records.proofs.FlowFile.{below_out, entry_out}
use Rattle.records.proofs.SignalLists.{equal_self, equal_same, list_ext, edited_afresh, put_set}
use Rattle.records.proofs.SignalFiles.{two_records, file_records, added_valid, edited_valid, flow_most}
use Rattle.verdicts.specs.Verdict.{verify}
use Rattle.demands.specs.Calls.{mode_of, Both, read_both, verdict, matching, lists_match, judge, verify_asks, edit_asks, put, outcome, added_bytes, edited_bytes, add_signals_call, edit_set_call}
use Rattle.demands.specs.Demand.{IsFlowBytes}
use Rattle.demands.specs.Signals as Claims
use Rattle.demands.specs.Signals.{IsJobAlone, Wrote, IsAdded, KeepsRecords, AddsOnce, NeverMismatched, IsEditedFlow, EditsAfresh, read_before, AsBefore}
use Rattle.demands.proofs.Judging.{ReadsBoth, both_out, both_in, judge_matching, whole, whole_both, verify_read}
use Rattle.demands.proofs.Demand.{put_fits}

-- ---- what was written
-- a call that wrote had no question against it, and wrote its whole result
pub wrote_out : {A : Type 0} (a : Answer A) (result : A → List ℕ) (wrote : List ℕ) → Wrote (outcome a result) wrote → (x : A) × (a ≡ gives x) × (wrote ≡ result x)
wrote_out (gives x) result wrote (out, k, e, w) = (x, refl, sym w ∙ put_fits [] (result x) out k e)
wrote_out (refuses r) result wrote (out, k, e, w) = absurd (never e)

-- a flow file of bytes is the bytes of its flow
file_bytes : (flow : List ℕ) (f : JobFile) (g : FlowFile) → f.n ≤ most_nodes → IsFlowBytes f.n flow g → IsBytes flow → flow ≡ flow_file_bytes g
file_bytes s f g few reads bytes =
    ((flow_exact f.n s g few bytes).0 reads.0).0 ∙ ap (λ (t : List ℕ). (flow_format f.n).encode (flow_value g) ++ t) reads.1 ∙ append-nil ((flow_format f.n).encode (flow_value g))
    ∙ ap (λ (k : ℕ). (flow_format k).encode (flow_value g)) (sym (flow_asked f.n s g few reads.0).count)

-- ---- lists of a flow, in a file that holds them
lists_match_lem : (f : JobFile) (g : FlowFile) → lists_match f (with_signals (job_of f) g) ≡ true
lists_match_lem f g = rw (equal_self (signals_of (job_of f) (flow_of g)).0, equal_self (signals_of (job_of f) (flow_of g)).1)

module _ (job flow : List ℕ) (f : JobFile) (alone : IsJobAlone job f) (k : FlowFile) (is_flow : read_flow f.n flow ≡ gives k) where
  few : f.n ≤ most_nodes
  few = (job_asked job f alone.0).few

  -- the job with a flow behind it
  abbrev before : List ℕ → JobFile
  before l = record { n = f.n; mode = f.mode; edges = f.edges; inputs = f.inputs; outputs = f.outputs; measurements = f.measurements; angles = f.angles; after = l }

  -- both, as they were read behind one another
  read_out : (b : Both) → read_both (job ++ flow) ≡ gives b → (b.job ≡ before flow) × ReadsBoth (job ++ flow) (before flow) b.flow
  read_out b e =
      let r = both_out (job ++ flow) b e in
      let same : b.job ≡ before flow = give_inj (sym r.reads_job ∙ whole job f alone.0 alone.1 flow k is_flow) in
      (same, subst (λ (h : JobFile). ReadsBoth (job ++ flow) h b.flow) same r)

  -- ---- adding
  added_out : (wrote : List ℕ) → IsAdded job flow wrote → (g : FlowFile) × ReadsBoth (job ++ flow) (before flow) g × (wrote ≡ flow_file_bytes (with_signals (job_of f) g))
  unfolding add_signals_call
  added_out wrote w =
      let (b, e, q) = wrote_out (read_both (job ++ flow)) added_bytes wrote w in
      let (same, r) = read_out b e in
      (b.flow, r, q ∙ ap (λ (h : JobFile). flow_file_bytes (with_signals (job_of h) b.flow)) same)

  -- what was written reads back
  added_reads : (wrote : List ℕ) (g : FlowFile) → ReadsBoth (job ++ flow) (before flow) g → wrote ≡ flow_file_bytes (with_signals (job_of f) g) → ReadsBoth (job ++ wrote) (before wrote) (with_signals (job_of f) g)
  added_reads wrote g r q =
      let v = added_valid (job_of f) g (flow_asked f.n flow g few r.reads_flow) in
      whole_both job f alone.0 alone.1 wrote (with_signals (job_of f) g) (ap (read_flow f.n) q ∙ flow_decodes f.n (with_signals (job_of f) g) few v refl) refl r.single

pub keeps_records : KeepsRecords
keeps_records job flow wrote f g alone reads bytes w =
    let (h, r, q) = added_out job flow f alone g reads.0 wrote w in
    let same : h ≡ g = give_inj (sym r.reads_flow ∙ reads.0) in
    (two_records g, file_bytes flow f g (job_asked job f alone.0).few reads bytes ∙ file_records g, q ∙ ap (λ (h : FlowFile). flow_file_bytes (with_signals (job_of f) h)) same ∙ file_records (with_signals (job_of f) g))

pub adds_once : AddsOnce
unfolding add_signals_call
adds_once job flow wrote f g alone reads w out =
    let (h, r, q) = added_out job flow f alone g reads.0 wrote w in
    ap (λ (a : Answer Both). outcome a added_bytes out) (both_in (job ++ wrote) _ _ (added_reads job flow f alone g reads.0 wrote h r q)) ∙ ap (λ (l : List ℕ). put [] l out) (sym q)

pub never_mismatched : NeverMismatched
never_mismatched job flow wrote f g alone reads w =
    let (h, r, q) = added_out job flow f alone g reads.0 wrote w in
    let same : h ≡ g = give_inj (sym r.reads_flow ∙ reads.0) in
    verify_read (job ++ wrote) _ _ (added_reads job flow f alone g reads.0 wrote h r q) ∙ judge_matching _ (with_signals (job_of f) h) (lists_match_lem f h) ∙ ap (λ (h : FlowFile). verdict (verify (job_of f) (flow_of h) (mode_of f))) same

-- ---- editing
module _ (f : JobFile) (g : FlowFile) (e : SetEntry) (v : IsValidFlow f.n g) (below : e.node < f.n) where
  -- the sets after the edit
  edited-set : (u k : ℕ) → (flow_of (edited (job_of f) e g)).set u k ≡ cond (eqb u e.node) (has e.set) ((flow_of g).set u) k
  edited-set u k = put_set e 0 g.sets u k v.rise ∙ by (eqb u e.node)
    where
      by : (c : Bool) → cond c (has e.set k) ((flow_of g).set u k) ≡ cond c (has e.set) ((flow_of g).set u) k
      by true = refl
      by false = refl

  own_set : (k : ℕ) → (flow_of (edited (job_of f) e g)).set e.node k ≡ has e.set k
  own_set k = edited-set e.node k ∙ rw (eqb_yes e.node) refl

  other_set : (u k : ℕ) → u ≢ e.node → (flow_of (edited (job_of f) e g)).set u k ≡ (flow_of g).set u k
  other_set u k d = edited-set u k ∙ rw (ne_eqb u e.node d) refl

  -- both lists of the edited flow, column for column
  set_list : edited_list f.n e.node (has e.set) (signals_of (job_of f) (flow_of g)).0 ≡ (signals_of (job_of f) (flow_of (edited (job_of f) e g))).0
  set_list = edited_afresh f.n e.node (has e.set) (flow_of g).set below ∙ list_ext f.n _ _ (λ i j a b. sym (edited-set i j))

  odd_list : edited_list f.n e.node (odd (job_of f) (has e.set)) (signals_of (job_of f) (flow_of g)).1 ≡ (signals_of (job_of f) (flow_of (edited (job_of f) e g))).1
  odd_list =
      edited_afresh f.n e.node (odd (job_of f) (has e.set)) (λ i. odd (job_of f) ((flow_of g).set i)) below
      ∙ list_ext f.n _ _ (λ i j a b. turn i j (eqb i e.node) ∙ parity_ext f.n _ _ (λ k l. ap (λ (c : Bool). (job_of f).edge k j && c) (sym (edited-set i k))))
    where
      turn : (i j : ℕ) (c : Bool) → cond c (odd (job_of f) (has e.set)) (odd (job_of f) ((flow_of g).set i)) j ≡ odd (job_of f) (cond c (has e.set) ((flow_of g).set i)) j
      turn i j true = refl
      turn i j false = refl

  pub lists_afresh : lists_match f g ≡ true → lists_match f (edited (job_of f) e g) ≡ true
  lists_afresh m = by g.signals m
    where
      by : (o : Option Signals) → matching (signals_of (job_of f) (flow_of g)) o ≡ true → matching (signals_of (job_of f) (flow_of (edited (job_of f) e g))) (edited_signals (job_of f) e o) ≡ true
      by none m = refl
      by (some l) m =
          let (a, b) = and_out (equal (signals_of (job_of f) (flow_of g)).0 l.0) (equal (signals_of (job_of f) (flow_of g)).1 l.1) m in
          rw (← equal_same (signals_of (job_of f) (flow_of g)).0 l.0 a, ← equal_same (signals_of (job_of f) (flow_of g)).1 l.1 b, set_list, odd_list, equal_self (signals_of (job_of f) (flow_of (edited (job_of f) e g))).0, equal_self (signals_of (job_of f) (flow_of (edited (job_of f) e g))).1)

  edited_flow : IsEditedFlow f g e (edited (job_of f) e g)
  edited_flow = record { wide = refl; layers = refl; entries = refl; own = own_set; others = other_set; stored = by g.signals; afresh = lists_afresh }
    where
      by : (o : Option Signals) → is_some (edited_signals (job_of f) e o) ≡ is_some o
      by none = refl
      by (some l) = refl

edit_out : (file entry : List ℕ) (b : Both) → edit_asks file entry ≡ gives b → (read_both file ≡ gives b) × ((x : Bool) × (entry_asks b.job.n entry ≡ gives x))
unfolding edit_asks
edit_out file entry b e =
    let (c, p, q) = bind_out (read_both file) _ b e in
    let (x, r, s) = then_out (entry_asks c.job.n entry) _ b q in
    let (y, t, u) = then_out (one_member c.job.mode (entry_of entry ∷ [])) _ b s in
    let same : c ≡ b = give_inj u in
    (subst (λ (b : Both). read_both file ≡ gives b) same p, (x, subst (λ (b : Both). entry_asks b.job.n entry ≡ gives x) same r))

pub edits_afresh : EditsAfresh
unfolding edit_set_call
edits_afresh job flow entry wrote f g alone reads w =
    let (b, e, q) = wrote_out (edit_asks (job ++ flow) entry) (edited_bytes entry) wrote w in
    let (e1, (x, e2)) = edit_out (job ++ flow) entry b e in
    let (same, r) = read_out job flow f alone g reads.0 b e1 in
    let flows : b.flow ≡ g = give_inj (sym r.reads_flow ∙ reads.0) in
    let asked = entry_out f.n entry x (subst (λ (h : JobFile). entry_asks h.n entry ≡ gives x) same e2) in
    let few = (job_asked job f alone.0).few in
    let v = flow_asked f.n flow g few reads.0 in
    let wrote_is : wrote ≡ flow_file_bytes (edited (job_of f) (entry_of entry) g) = q ∙ ap₂ (λ (h : JobFile) (k : FlowFile). flow_file_bytes (edited (job_of h) (entry_of entry) k)) same flows in (
      edited (job_of f) (entry_of entry) g,
      (ap (read_flow f.n) wrote_is ∙ flow_decodes f.n (edited (job_of f) (entry_of entry) g) few (edited_valid (job_of f) g v (entry_of entry) asked.1 asked.2) refl, refl),
      edited_flow f g (entry_of entry) v (below_out f.n (entry_of entry) asked.1).0,
    )

-- ---- how long it is
pub added_fits : (file : List ℕ) (b : Both) → read_both file ≡ gives b → length (added_bytes b) ≤ most_flow
added_fits file b e =
    let r = both_out file b e in
    let few = (job_asked file b.job r.reads_job).few in
    flow_most b.job.n (with_signals (job_of b.job) b.flow) few (added_valid (job_of b.job) b.flow (flow_asked b.job.n b.job.after b.flow few r.reads_flow))

pub edited_fits : (file entry : List ℕ) (b : Both) → edit_asks file entry ≡ gives b → length (edited_bytes entry b) ≤ most_flow
edited_fits file entry b e =
    let (e1, (x, e2)) = edit_out file entry b e in
    let r = both_out file b e1 in
    let few = (job_asked file b.job r.reads_job).few in
    let asked = entry_out b.job.n entry x e2 in
    flow_most b.job.n (edited (job_of b.job) (entry_of entry) b.flow) few (edited_valid (job_of b.job) b.flow (flow_asked b.job.n b.job.after b.flow few r.reads_flow) (entry_of entry) asked.1 asked.2)

-- ---- without lists
module _ (n : ℕ) (s : List ℕ) where
  abbrev made : Front (Layers × List SetEntry) → FlowFile
  made p = record { wide = p.value.0.wide; layers = p.value.0.numbers; sets = p.value.1; signals = none; after = p.rest }

  -- what was read before is read still, where no list stands behind it
  pub reads_before : ((g : FlowFile) → read_before n s ≡ gives g → carries kind_set_signals g.after ≡ false) → read_flow n s ≡ read_before n s
  unfolding read_flow decode_then
  reads_before h = by ((layers n).decode s) h
    where
      last : (l : Layers) (m : Answer (Front (List SetEntry))) → ((g : FlowFile) → (m >>= (λ q. gives (front {A = Layers × List SetEntry} (l, q.value) q.rest)) >>= λ p. gives (made p)) ≡ gives g → carries kind_set_signals g.after ≡ false)
          → (m >>= (λ q. (optional kind_set_signals (signals n)).decode q.rest >>= λ o. gives (front {A = List SetEntry × Option Signals} (q.value, o.value) o.rest)) >>= (λ q. gives (front {A = FlowValue} (l, q.value) q.rest)) >>= λ p. gives (flow_file p))
          ≡ (m >>= (λ q. gives (front {A = Layers × List SetEntry} (l, q.value) q.rest)) >>= λ p. gives (made p))
      last l (gives q) h = rw (h _ refl) refl
      last l (refuses r) h = refl

      by : (m : Answer (Front Layers)) → ((g : FlowFile) → (m >>= (λ p. (record_of kind_sets (sets n)).decode p.rest >>= λ q. gives (front {A = Layers × List SetEntry} (p.value, q.value) q.rest)) >>= λ p. gives (made p)) ≡ gives g → carries kind_set_signals g.after ≡ false)
          → (m >>= (λ p. ((record_of kind_sets (sets n)).decode p.rest >>= λ q. (optional kind_set_signals (signals n)).decode q.rest >>= λ o. gives (front {A = List SetEntry × Option Signals} (q.value, o.value) o.rest)) >>= λ q. gives (front {A = FlowValue} (p.value, q.value) q.rest)) >>= λ p. gives (flow_file p))
          ≡ (m >>= (λ p. (record_of kind_sets (sets n)).decode p.rest >>= λ q. gives (front {A = Layers × List SetEntry} (p.value, q.value) q.rest)) >>= λ p. gives (made p))
      by (gives p) h = last p.value ((record_of kind_sets (sets n)).decode p.rest) h
      by (refuses r) h = refl

pub as_before : AsBefore
unfolding verify_asks read_both judge
as_before file h = by (read_job file) h
  where
    rest : (f : JobFile) (g : FlowFile) → g.signals ≡ none → (a b : Answer Bool)
        → ◌>>=◌ {A = Both} (a >> (b >> gives (record { job = f; flow = g }))) (λ b. judge b.job b.flow) ≡ (a >> (b >> verdict (verify (job_of f) (flow_of g) (mode_of f))))
    rest f g e (refuses r) b = refl
    rest f g e (gives x) (refuses r) = refl
    rest f g e (gives x) (gives y) = judge_matching f g (ap (matching (signals_of (job_of f) (flow_of g))) e)

    none_read : (n : ℕ) (s : List ℕ) (g : FlowFile) → read_before n s ≡ gives g → g.signals ≡ none
    none_read n s g e = let (p, q, r) = bind_out ((Claims.two_records n).decode s) (λ p. gives (made n s p)) g e in ap (λ (g : FlowFile). g.signals) (sym (give_inj r))

    flows : (f : JobFile) (m : Answer FlowFile) → ((g : FlowFile) → m ≡ gives g → g.signals ≡ none)
        → ◌>>=◌ {A = Both} (m >>= λ g. nothing_left g.after >> (one_member f.mode g.sets >> gives (record { job = f; flow = g }))) (λ b. judge b.job b.flow)
        ≡ (m >>= λ g. nothing_left g.after >> (one_member f.mode g.sets >> verdict (verify (job_of f) (flow_of g) (mode_of f))))
    flows f (refuses r) h = refl
    flows f (gives g) h = rest f g (h g refl) (nothing_left g.after) (one_member f.mode g.sets)

    by : (m : Answer JobFile) → ((f : JobFile) (g : FlowFile) → m ≡ gives f → read_before f.n f.after ≡ gives g → carries kind_set_signals g.after ≡ false)
        → ◌>>=◌ {A = Both} (m >>= λ f. read_flow f.n f.after >>= λ g. nothing_left g.after >> (one_member f.mode g.sets >> gives (record { job = f; flow = g }))) (λ b. judge b.job b.flow)
        ≡ (m >>= λ f. read_before f.n f.after >>= λ g. nothing_left g.after >> (one_member f.mode g.sets >> verdict (verify (job_of f) (flow_of g) (mode_of f))))
    by (refuses r) h = refl
    by (gives f) h = rw (reads_before f.n f.after (λ g e. h f g refl e)) (flows f (read_before f.n f.after) (none_read f.n f.after))
