-- A job followed by a flow, `verify_asks` of specs/Calls: what the verifier asks of the two together, and what reading tells of them.
use Prim.Native.Nat.{ℕ, zero, suc, ◌+◌, ◌≤◌, ◌<◌}
use mathlib.Core.Path.{◌≡◌, refl, sym, ap, ◌∙◌, subst}
use mathlib.Core.Bool.{Bool, true, false, not, ◌&&◌, ◌||◌}
use mathlib.Core.Option.{Option, none, some}
use mathlib.Core.List.{List, [], ◌∷◌, ◌++◌}
use mathlib.Core.Logic.{◌⊎◌, inl, inr, ◌↔◌}
use native.Mathlib.Omega.{arith}
use native.Mathlib.Nat.{not-suc-le-zero, le_of_suc-le-suc}
use lib.Dec.{T, eqb, leb, eqb→eq, eqb_refl, leb→le}
use lib.ListN.{length, get_or}
use Rattle.nodes.specs.Lists.{has}
use Rattle.nodes.proofs.Logic.{is_true, is_false, from_true, or_l, or_r, or_all, eqb_comm, and_out}
use Rattle.flows.specs.Job.{plane_xz}
use Rattle.answers.specs.Answer.{Refusal, Answer, gives, refuses, asks, ◌>>=◌, ◌>>◌}
use Rattle.records.specs.JobFile.{JobFile, rises, read_job, working, job_of, mode_causal, mode_planes, mode_pauli}
use Rattle.records.specs.FlowFile.{SetEntry, FlowFile, all_entries, entries_rise, read_flow, flow_of, nothing_left, one_member, entry_in, set_in}
use Rattle.records.specs.Encoding.{AnglesFit, IsValidJob, IsValidFlow}
use Rattle.verdicts.specs.Verdict.{verify}
use Rattle.demands.specs.Calls.{mode_of, Both, read_both, verdict, lists_match, judge, verify_asks}
use Rattle.verdicts.specs.Published.{IsMeasured, HasNoInputs, IsPublishedFlow, ByLayer, MeetsLayerRule, IsDomain, IsCausalAccepted, IsAcceptedFlow}
use Rattle.answers.proofs.Answer.{give_inj, never, bind_out, then_out, asks_yes}
use Rattle.records.proofs.Encoding.{job_asked, job-append, job_follows, flow_asked, flow-carries}
use Rattle.records.proofs.JobFile.{measured_range, output_zero, measured_most, measured_plane}
use Rattle.records.proofs.FlowFile.{set_entry, place_entry, set_at, nodes_below_lem, members_below, nothing_left_lem, one_member_asked, one_member_other, one_member_lem}
use Rattle.verdicts.proofs.Rule.{IsReadable}
use Rattle.verdicts.proofs.Published.{one_to_three, planes_accepts, accepts_planes, paulis_accepts, accepts_paulis, causal_accepts, accepts_causal, published_conditions, conditions_published}

verdict_out : (o : Option Refusal) (b : Bool) → verdict o ≡ gives b → o ≡ none
verdict_out none b e = refl
verdict_out (some r) b e = absurd (never e)

-- ---- reading both
-- what reading has asked of both
pub record ReadsBoth (file : List ℕ) (f : JobFile) (g : FlowFile) : Type 0 where
  pub reads_job : read_job file ≡ gives f
  pub reads_flow : read_flow f.n f.after ≡ gives g
  pub ends : g.after ≡ []
  pub single : (b : Bool) × (one_member f.mode g.sets ≡ gives b)

pub both_out : (file : List ℕ) (b : Both) → read_both file ≡ gives b → ReadsBoth file b.job b.flow
unfolding read_both
both_out file b e =
    let (f, p, q) = bind_out (read_job file) _ b e in
    let (g, r, s) = bind_out (read_flow f.n f.after) _ b q in
    let (x, t, u) = then_out (nothing_left g.after) _ b s in
    let (y, v, w) = then_out (one_member f.mode g.sets) _ b u in
    subst (λ (b : Both). ReadsBoth file b.job b.flow) (give_inj w) (record { reads_job = p; reads_flow = r; ends = nothing_left_lem g.after x t; single = (y, v) })

pub both_in : (file : List ℕ) (f : JobFile) (g : FlowFile) → ReadsBoth file f g → read_both file ≡ gives (record { job = f; flow = g })
unfolding read_both
both_in file f g h = rw (h.reads_job, h.reads_flow, h.ends, h.single.1)

-- ---- judging both
judge_out : (f : JobFile) (g : FlowFile) (b : Bool) → judge f g ≡ gives b → (verify (job_of f) (flow_of g) (mode_of f) ≡ none) × (lists_match f g ≡ true)
unfolding judge
judge_out f g b e =
    let (x, p, q) = then_out (verdict (verify (job_of f) (flow_of g) (mode_of f))) (asks 22 (lists_match f g)) b e in
    (verdict_out (verify (job_of f) (flow_of g) (mode_of f)) x p, asks_yes 22 (lists_match f g) b q)

-- where the lists are those of the flow, 22 is no question
pub judge_matching : (f : JobFile) (g : FlowFile) → lists_match f g ≡ true → judge f g ≡ verdict (verify (job_of f) (flow_of g) (mode_of f))
unfolding judge
judge_matching f g m = by (verify (job_of f) (flow_of g) (mode_of f))
  where
    by : (o : Option Refusal) → (verdict o >> asks 22 (lists_match f g)) ≡ verdict o
    by none = rw m refl
    by (some r) = refl

-- all that the verifier asks of a file that reads as job and flow
pub record IsJudged (f : JobFile) (flow : List ℕ) (g : FlowFile) : Type 0 where
  pub reads : read_flow f.n flow ≡ gives g
  pub nothing : g.after ≡ []
  pub single : (b : Bool) × (one_member f.mode g.sets ≡ gives b)
  pub accepted : verify (job_of f) (flow_of g) (mode_of f) ≡ none
  pub matches : lists_match f g ≡ true

-- the verifier's questions, after both were read
pub verify_read : (file : List ℕ) (f : JobFile) (g : FlowFile) → ReadsBoth file f g → verify_asks file ≡ judge f g
unfolding verify_asks
verify_read file f g h = rw (both_in file f g h)

verify_out : (file : List ℕ) (b : Bool) → verify_asks file ≡ gives b → (f : JobFile) × (g : FlowFile) × ReadsBoth file f g × (judge f g ≡ gives b)
unfolding verify_asks
verify_out file b e = let (x, p, q) = bind_out (read_both file) (λ b. judge b.job b.flow) b e in (x.job, x.flow, both_out file x p, q)

module _ (file : List ℕ) (f : JobFile) (reads_job : read_job file ≡ gives f) (ends : f.after ≡ []) (flow : List ℕ) (g : FlowFile) (reads_flow : read_flow f.n flow ≡ gives g) where
  -- both, behind one another
  abbrev before : JobFile
  before = record { n = f.n; mode = f.mode; edges = f.edges; inputs = f.inputs; outputs = f.outputs; measurements = f.measurements; angles = f.angles; after = flow }

  pub whole : read_job (file ++ flow) ≡ gives before
  whole = job-append file flow f reads_job (job_follows f (f.after ++ flow) (rw ends (flow-carries f.n flow g reads_flow))) ∙ rw ends

  pub whole_both : g.after ≡ [] → (b : Bool) × (one_member f.mode g.sets ≡ gives b) → ReadsBoth (file ++ flow) before g
  whole_both e s = record { reads_job = whole; reads_flow = reads_flow; ends = e; single = s }

  -- of a flow file the verifier asks 9, and then judges it
  pub verify_flow : g.after ≡ [] → verify_asks (file ++ flow) ≡ (one_member f.mode g.sets >> judge f g)
  unfolding verify_asks read_both judge
  verify_flow e = rw (whole, reads_flow, ap (λ (l : List ℕ). eqb (length l) 0) e) (by (one_member f.mode g.sets))
    where
      by : (a : Answer Bool) → ◌>>=◌ {A = Both} (a >> gives (record { job = before; flow = g })) (λ b. judge b.job b.flow) ≡ (a >> judge f g)
      by (gives b) = refl
      by (refuses r) = refl

  pub judged_out : (b : Bool) → verify_asks (file ++ flow) ≡ gives b → IsJudged f flow g
  judged_out b e =
      let (h, k, r, q) = verify_out (file ++ flow) b e in
      let same : h ≡ before = give_inj (sym r.reads_job ∙ whole) in
      let (r', q') = subst (λ (h : JobFile). ReadsBoth (file ++ flow) h k × (judge h k ≡ gives b)) same (r, q) in
      let read : k ≡ g = give_inj (sym r'.reads_flow ∙ reads_flow) in
      let (r'', q'') = subst (λ (k : FlowFile). ReadsBoth (file ++ flow) before k × (judge before k ≡ gives b)) read (r', q') in
      let (a, m) = judge_out before g b q'' in
      record { reads = reads_flow; nothing = r''.ends; single = r''.single; accepted = a; matches = m }

  pub judged_in : IsJudged f flow g → verify_asks (file ++ flow) ≡ gives true
  judged_in h = verify_read (file ++ flow) before g (whole_both h.nothing h.single) ∙ judge_matching before g h.matches ∙ rw h.accepted refl

-- ---- the mode to work with, from the mode of the file
-- it is that of the file, or with angles mode 3
works_by : (f : JobFile) (C : ℕ → Type 0) → C f.mode → C mode_pauli → C (mode_of f)
works_by f C file angled = by f.angles
  where
    by : (o : Option (List ℕ)) → C (working f.mode f.measurements o).mode
    by none = file
    by (some p) = angled

pub searched_works : (f : JobFile) → (f.mode ≡ mode_planes) ⊎ (f.mode ≡ mode_pauli) → (mode_of f ≡ mode_planes) ⊎ (mode_of f ≡ mode_pauli)
searched_works f e = works_by f (λ m. (m ≡ mode_planes) ⊎ (m ≡ mode_pauli)) e (inr refl)

works_causal : (f : JobFile) → mode_of f ≡ mode_causal → f.mode ≡ mode_causal
works_causal f = works_by f (λ m. m ≡ mode_causal → f.mode ≡ mode_causal) (λ e. e) (λ e. absurd (omega (arith, e)))

-- no job in mode 1 has angles
pub causal_works : (f : JobFile) → IsValidJob f → f.mode ≡ mode_causal → mode_of f ≡ mode_causal
causal_works f v e = by f.angles v.angles
  where
    by : (o : Option (List ℕ)) → AnglesFit f.n f.mode (has f.outputs) o → (working f.mode f.measurements o).mode ≡ mode_causal
    by none h = e
    by (some p) (h, l, a) = absurd (omega (arith, e, h))

-- ---- what reading tells
module _ (f : JobFile) (v : IsValidJob f) where
  not_output : (u : ℕ) → (T ((job_of f).output u) → ⊥) → (job_of f).output u ≡ false
  not_output u o = is_false ((job_of f).output u) o

  pub readable : (g : FlowFile) → IsValidFlow f.n g → IsReadable (job_of f) (flow_of g)
  readable g w = record {
    unmeasured = λ u l o. output_zero f v u l (is_true ((job_of f).output u) o);
    measured = λ u s. ((measured_range f v u s.0 (not_output u s.1)).0, below ((job_of f).measured u) (measured_most f v u));
    entries = λ u k t. set_entry g.sets u k t;
    nodes = λ u k t. members_below f.n g.sets u k w.below t;
  }
    where
      below : (m : ℕ) → m ≤ 6 → m < 7
      below m l = omega arith

  pub planes : mode_of f ≡ mode_planes → (u : ℕ) → IsMeasured (job_of f) u → (job_of f).measured u ≤ plane_xz
  planes e u s = (measured_plane f v e u s.0 (not_output u s.1)).1

-- ---- question 9 follows from the conditions of causal flow
-- an ascending list of k alone has one element
only_one : (k : ℕ) (l : List ℕ) → rises 0 l ≡ true → ((m : ℕ) → T (has l m) → m ≡ k) → T (has l k) → length l ≡ 1
unfolding has rises
only_one k [] r h t = absurd t
only_one k (x ∷ []) r h t = refl
only_one k (x ∷ y ∷ l) r h t =
    absurd
    (apart (h x (or_l (eqb x x) (eqb y x || has l x) (eqb_refl x))) (h y (or_r (eqb x y) (eqb y y || has l y) (or_l (eqb y y) (has l y) (eqb_refl y))))
    (leb→le (x + 1) y (from_true (leb (x + 1) y) (and_out (leb (x + 1) y) (rises (y + 1) l) (and_out (leb 0 x) (rises (x + 1) (y ∷ l)) r).1).0)))
  where
    apart : x ≡ k → y ≡ k → x + 1 ≤ y → ⊥
    apart p q l = omega arith

set-rises : (low : ℕ) (es : List SetEntry) (d : SetEntry) (i : ℕ) → entries_rise low es ≡ true → i < length es → rises 0 (get_or es i d).set ≡ true
unfolding entries_rise
set-rises low [] d i a h = absurd (not-suc-le-zero h)
set-rises low (e ∷ es) d zero a h = (and_out (leb low e.node) (rises 0 e.set) (and_out (leb low e.node && rises 0 e.set) (entries_rise (e.node + 1) es) a).0).1
set-rises low (e ∷ es) d (suc i) a h = set-rises (e.node + 1) es d i (and_out (leb low e.node && rises 0 e.set) (entries_rise (e.node + 1) es) a).1 (le_of_suc-le-suc h)

entries_all : (p : SetEntry → Bool) (es : List SetEntry) (d : SetEntry) → ((i : ℕ) → i < length es → p (get_or es i d) ≡ true) → all_entries p es ≡ true
unfolding all_entries
entries_all p [] d h = refl
entries_all p (e ∷ es) d h = rw (h 0 (omega arith), entries_all p es d (λ i l. h (suc i) (omega arith)))

module _ (f : JobFile) (v : IsValidJob f) (g : FlowFile) (w : IsValidFlow f.n g) where
  causal_members : IsCausalAccepted (job_of f) (flow_of g) → all_entries (λ e. eqb (length e.set) 1) g.sets ≡ true
  causal_members c = entries_all (λ e. eqb (length e.set) 1) g.sets d one
    where
      d : SetEntry
      d = record { node = 0; set = [] }

      one : (i : ℕ) → i < length g.sets → eqb (length (get_or g.sets i d).set) 1 ≡ true
      one i l =
          let t = place_entry g.sets d i l in
          let u = (get_or g.sets i d).node in
          let below = nodes_below_lem f.n g.sets u w.below t in
          let measured : IsMeasured (job_of f) u = (below, (c.domain u below).0 t) in
          let (s, flow, same) = c.flow in
          let here : (k : ℕ) → k < f.n → has (get_or g.sets i d).set k ≡ eqb k (s u) = λ k m. sym (set_at 0 g.sets d i k w.rise l) ∙ same u k measured m in
          rw
          (only_one (s u) (get_or g.sets i d).set (set-rises 0 g.sets d i w.rise l)
          (λ k q. let m = members_below f.n g.sets u k w.below (rw (set_at 0 g.sets d i k w.rise l) q) in eqb→eq k (s u) (rw (here k m) at q))
          (rw (here (s u) (flow.node u measured)) (eqb_refl (s u))))

  one_passed : IsAcceptedFlow (mode_of f) (job_of f) (flow_of g) → one_member f.mode g.sets ≡ gives true
  one_passed (inl (q, c)) = rw (causal_members c, or_all (not (eqb f.mode mode_causal)))
  one_passed (inr (inl (q, c))) = one_member_other f.mode g.sets (λ e. omega (arith, q, causal_works f v e))
  one_passed (inr (inr (q, c))) = one_member_other f.mode g.sets (λ e. omega (arith, q, causal_works f v e))

-- ---- each verifier against its published conditions, over all bytes that pass reading
module _ (f : JobFile) (v : IsValidJob f) (g : FlowFile) (w : IsValidFlow f.n g) (single : (b : Bool) × (one_member f.mode g.sets ≡ gives b)) where
  one_each : mode_of f ≡ mode_causal → (u : ℕ) → T (entry_in g.sets u) → (k : ℕ) × (k < f.n) × ((m : ℕ) → set_in g.sets u m ≡ eqb m k)
  one_each e u t =
      let (k, h) = one_member_lem 0 g.sets u w.rise (one_member_asked g.sets single.0 (subst (λ (m : ℕ). one_member m g.sets ≡ gives single.0) (works_causal f e) single.1)) t in
      (k, members_below f.n g.sets u k w.below (subst T (sym (h k ∙ same k)) tt), λ m. h m ∙ eqb_comm k m)
    where
      same : (k : ℕ) → eqb k k ≡ true
      same k = is_true (eqb k k) (eqb_refl k)

  mode_cases : (mode_of f ≡ mode_causal) ⊎ ((mode_of f ≡ mode_planes) ⊎ (mode_of f ≡ mode_pauli))
  mode_cases = works_by f (λ m. (m ≡ mode_causal) ⊎ ((m ≡ mode_planes) ⊎ (m ≡ mode_pauli))) (one_to_three f.mode v.mode_from v.mode_to) (inr (inr refl))

  pub verify_published : verify (job_of f) (flow_of g) (mode_of f) ≡ none → IsAcceptedFlow (mode_of f) (job_of f) (flow_of g)
  verify_published e = go mode_cases
    where
      go : (mode_of f ≡ mode_causal) ⊎ ((mode_of f ≡ mode_planes) ⊎ (mode_of f ≡ mode_pauli)) → IsAcceptedFlow (mode_of f) (job_of f) (flow_of g)
      go (inl q) = inl (q, causal_accepts (job_of f) (flow_of g) (readable f v g w) (one_each q) (subst (λ (m : ℕ). verify (job_of f) (flow_of g) m ≡ none) q e))
      go (inr (inl q)) = inr (inl (q, planes_accepts (job_of f) (flow_of g) (readable f v g w) (planes f v q) (subst (λ (m : ℕ). verify (job_of f) (flow_of g) m ≡ none) q e)))
      go (inr (inr q)) = inr (inr (q, paulis_accepts (job_of f) (flow_of g) (readable f v g w) (subst (λ (m : ℕ). verify (job_of f) (flow_of g) m ≡ none) q e)))

  pub published_verify : IsAcceptedFlow (mode_of f) (job_of f) (flow_of g) → verify (job_of f) (flow_of g) (mode_of f) ≡ none
  published_verify (inl (q, c)) = subst (λ (m : ℕ). verify (job_of f) (flow_of g) m ≡ none) (sym q) (accepts_causal (job_of f) (flow_of g) (readable f v g w) (one_each q) c)
  published_verify (inr (inl (q, c))) = subst (λ (m : ℕ). verify (job_of f) (flow_of g) m ≡ none) (sym q) (accepts_planes (job_of f) (flow_of g) (readable f v g w) (planes f v q) c)
  published_verify (inr (inr (q, c))) = subst (λ (m : ℕ). verify (job_of f) (flow_of g) m ≡ none) (sym q) (accepts_paulis (job_of f) (flow_of g) (readable f v g w) c)

-- no question is answered no exactly where the mode's published conditions hold with the listed differences, and stored lists are those of the flow
module _ (s : List ℕ) (f : JobFile) (g : FlowFile) (reads_job : read_job s ≡ gives f) (reads_flow : read_flow f.n f.after ≡ gives g) (ends : g.after ≡ []) where
  valid : IsValidJob f
  valid = job_asked s f reads_job

  valid_flow : IsValidFlow f.n g
  valid_flow = flow_asked f.n f.after g valid.few reads_flow

  pub verifier_published : verify_asks s ≡ gives true ↔ IsAcceptedFlow (mode_of f) (job_of f) (flow_of g) × (lists_match f g ≡ true)
  verifier_published = (
    (λ e. let (h, k, r, q) = verify_out s true e in
        let same : h ≡ f = give_inj (sym r.reads_job ∙ reads_job) in
        let r' = subst (λ (h : JobFile). ReadsBoth s h k × (judge h k ≡ gives true)) same (r, q) in
        let flow : k ≡ g = give_inj (sym r'.0.reads_flow ∙ reads_flow) in
        let (r'', q'') = subst (λ (k : FlowFile). ReadsBoth s f k × (judge f k ≡ gives true)) flow r' in
        let (a, m) = judge_out f g true q'' in
        (verify_published f valid g valid_flow r''.single a, m)),
    λ (c, m). let t = one_passed f valid g valid_flow c in
        verify_read s f g (record { reads_job = reads_job; reads_flow = reads_flow; ends = ends; single = (true, t) }) ∙ judge_matching f g m ∙ rw (published_verify f valid g valid_flow (true, t) c) refl,
  )

  -- a flow by its paper, by an order that the layers give, is accepted where the layers are as the listed differences say and stored lists are its own
  pub published_accepted : IsDomain (job_of f) (flow_of g).entry → MeetsLayerRule (mode_of f) (job_of f) (flow_of g).layer → IsPublishedFlow (mode_of f) (job_of f) (ByLayer (flow_of g).layer) (flow_of g).set
      → lists_match f g ≡ true → verify_asks s ≡ gives true
  published_accepted d r p m = verifier_published.1 (published_conditions (mode_of f) (job_of f) (flow_of g) d r p, m)

  -- and an accepted flow that has no input in its own set is a flow by its paper: no other difference is left
  pub accepted_published : verify_asks s ≡ gives true → HasNoInputs (job_of f) (flow_of g).set
      → IsDomain (job_of f) (flow_of g).entry × MeetsLayerRule (mode_of f) (job_of f) (flow_of g).layer × IsPublishedFlow (mode_of f) (job_of f) (ByLayer (flow_of g).layer) (flow_of g).set
  accepted_published e i = conditions_published (mode_of f) (job_of f) (flow_of g) i (verifier_published.0 e).0
