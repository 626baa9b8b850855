-- Request 2026-06 proved: what is accepted for the planes is accepted with any angles, so no layer grows; a job reads the same with a flow
-- file behind it; the angles come out as they stand.
use Prim.Native.Nat.{ℕ}
use mathlib.Core.Path.{◌≡◌, refl, sym, ap, ◌∙◌, subst}
use mathlib.Core.Bool.{true, false≢true}
use mathlib.Core.Option.{Option, none, some}
use mathlib.Core.List.{List, ◌++◌, append-nil}
use lib.ListN.{get_or, take}
use Rattle.nodes.specs.Lists.{has}
use Rattle.nodes.specs.Options.{is_some}
use Rattle.answers.specs.Answer.{gives}
use Rattle.answers.proofs.Answer.{give_inj, bind_out, then_out, asks_out}
use Rattle.angles.specs.AngleRecord.{inferred_bytes}
use Rattle.records.specs.JobFile.{JobFile, read_job, job_of}
use Rattle.records.specs.FlowFile.{FlowFile, flow_of, nothing_left}
use Rattle.records.specs.JobLists.{job_with, without_angles}
use Rattle.records.specs.Encoding.{job_bytes, AnglesFit, IsValidJob, IsValidFlow}
use Rattle.records.specs.Writing.{angle_record}
use Rattle.records.proofs.JobFile.{planes_infer}
use Rattle.records.proofs.JobLists.{job_parts}
use Rattle.records.proofs.Encoding.{job_exact, job_decodes, job_asked, flow_asked}
use Rattle.records.proofs.FlowFile.{nothing_left_lem}
use Rattle.verdicts.specs.Verdict.{verify}
use Rattle.verdicts.proofs.Inferred.{inferred_verified}
use Rattle.demands.specs.Calls.{is_owner, mode_of, find_call, read_angles_asks, read_angles_call}
use Rattle.demands.specs.Demand.{IsAccepted, DemandHolds}
use Rattle.demands.specs.Signals.{IsJobAlone}
use Rattle.demands.specs.Angles.{PlanesAlone, StaysAccepted, IsFound, NoLarger, ReadsWithFlow, ReadsOut}
use Rattle.demands.proofs.Judging.{whole, judged_in, judged_out, readable}
use Rattle.demands.proofs.Demand.{demand3}
use Rattle.demands.proofs.Signals.{wrote_out}

-- ---- the same job with other angles, or with none
module _ (f : JobFile) (v : IsValidJob f) where
  abbrev having : Option (List ℕ) → JobFile
  having o = job_with f.n f.mode f.edges f.inputs f.outputs f.measurements o

  valid_as : (o : Option (List ℕ)) → AnglesFit f.n f.mode (has f.outputs) o → IsValidJob (having o)
  valid_as o h = record {
    few = v.few;
    mode_from = v.mode_from;
    mode_to = v.mode_to;
    pairs = v.pairs;
    edges_below = v.edges_below;
    edges_rise = v.edges_rise;
    inputs_below = v.inputs_below;
    inputs_rise = v.inputs_rise;
    outputs_below = v.outputs_below;
    outputs_rise = v.outputs_rise;
    count = v.count;
    allowed = v.allowed;
    angles = h;
  }

  -- a flow that the verifier accepts for the planes it accepts with the angles
  angled_verified : (g : FlowFile) → IsValidFlow f.n g → verify (job_of (without_angles f)) (flow_of g) f.mode ≡ none → verify (job_of f) (flow_of g) (mode_of f) ≡ none
  angled_verified g w e = by f.angles v.angles
    where
      by : (o : Option (List ℕ)) → AnglesFit f.n f.mode (has f.outputs) o → verify (job_of (having o)) (flow_of g) (mode_of (having o)) ≡ none
      by none h = e
      by (some p) (mode, l, a) =
          inferred_verified (job_of (having none)) (flow_of g) (λ u. get_or (inferred_bytes f.measurements p) u 0) (planes_infer (having none) (valid_as none tt) p)
          (readable (having none) (valid_as none tt) g w) (readable (having (some p)) (valid_as (some p) (mode, l, a)) g w)
          (subst (λ (m : ℕ). verify (job_of (having none)) (flow_of g) m ≡ none) mode e)

pub planes_alone : PlanesAlone
planes_alone angled f alone = record {
  with_angles = alone;
  alone = (ap read_job (sym (append-nil (job_bytes (without_angles f)))) ∙ job_decodes (without_angles f) (valid_as f (job_asked angled f alone.0) none tt) refl, refl);
}

pub stays_accepted : StaysAccepted
stays_accepted angled plain f jobs flow g r a =
    let v = job_asked angled f jobs.with_angles.0 in
    let q = judged_out plain (without_angles f) jobs.alone.0 refl flow g r.0 true a in
    judged_in angled f jobs.with_angles.0 jobs.with_angles.1 flow g r.0
    (record { reads = r.0; nothing = r.1; single = q.single; accepted = angled_verified f v g (flow_asked f.n flow g v.few r.0) q.accepted; matches = q.matches })

-- ---- the finder, by demand 3
demand_found : (job wrote : List ℕ) (f : JobFile) → read_job job ≡ gives f → IsFound job wrote → DemandHolds job f wrote
demand_found job wrote f reads (work, out, k, e, w) =
    let (h, r, d) = demand3 job work out k e in
    let same : h ≡ f = give_inj (sym r ∙ reads) in
    subst (DemandHolds job f) w (subst (λ (h : JobFile). DemandHolds job h (take k (find_call job work out).out)) same d)

pub no_larger : NoLarger
no_larger angled plain f jobs one other p q g r =
    let accepted : IsAccepted plain one = (demand_found plain one (without_angles f) jobs.alone.0 p).accepts g r in
    (demand_found angled other f jobs.with_angles.0 q).smallest one g r (stays_accepted angled plain f jobs one g r accepted)

-- ---- reading
pub reads_with_flow : ReadsWithFlow
reads_with_flow job flow f g alone r = whole job f alone.0 alone.1 flow g r.0

pub read_out_asked : (role : ℕ) (job : List ℕ) (f : JobFile) → read_angles_asks role job ≡ gives f → IsJobAlone job f × (is_some f.angles ≡ true)
unfolding read_angles_asks
read_out_asked role job f e =
    let (g, p, q) = bind_out (read_job job) _ f (asks_out 24 (is_owner role) _ f e).1 in
    let (s, t) = asks_out 1 (is_some g.angles) _ f q in
    let (x, n, u) = then_out (nothing_left g.after) _ f t in
    subst (λ (g : JobFile). IsJobAlone job g × (is_some g.angles ≡ true)) (give_inj u) ((p, nothing_left_lem g.after x n), s)

pub reads_out : ReadsOut
unfolding read_angles_call
reads_out role job wrote bytes w =
    let (f, e, q) = wrote_out (read_angles_asks role job) (λ f. angle_record f.angles) wrote w in
    let (alone, there) = read_out_asked role job f e in
    let parts : job ≡ job_bytes (without_angles f) ++ wrote =
    ((job_exact job f bytes).0 alone.0).0 ∙ ap (λ (t : List ℕ). job_bytes f ++ t) alone.1 ∙ append-nil (job_bytes f) ∙ job_parts f ∙ ap (λ (t : List ℕ). job_bytes (without_angles f) ++ t) (sym q) in
    let (p, o) = some_out f.angles there in
    (f, p, alone, o, q ∙ ap angle_record o, parts)
  where
    some_out : (o : Option (List ℕ)) → is_some o ≡ true → (p : List ℕ) × (o ≡ some p)
    some_out none e = absurd (false≢true e)
    some_out (some p) e = (p, refl)
