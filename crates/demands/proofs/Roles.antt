-- Request 2026-07 proved: angles are read out and written for the owner only, every other call is open to both, and no call shows an operator more of the angles than the
-- measurements that they infer. All calls are in one list, `Call`; a call added to it wants its line in each of these proofs.
use Prim.Native.Nat.{ℕ, ◌+◌, ◌-◌, ◌*◌, ◌≤◌}
use mathlib.Core.Path.{◌≡◌, refl, sym, ap, subst, ◌∙◌}
use mathlib.Core.Bool.{Bool, true, false, cond, false≢true}
use mathlib.Core.Option.{none, some}
use mathlib.Core.List.{List, [], ◌∷◌, ◌++◌, append-nil}
use mathlib.Core.Logic.{◌≢◌, ◌⊎◌, inl, inr}
use native.Mathlib.Omega.{arith}
use borrow.Author.Tests.{eqb-true, eq-eqb, ne_eqb}
use lib.ListN.{length, length-append, take, get_or}
use lib.Dec.{eqb}
use lib.Ieee.{Float}
use lib.Seq.{take-append-add}
use Rattle.std.specs.Prelude.{Some, None}
use Rattle.nodes.specs.Lists.{has, zeros}
use Rattle.nodes.proofs.Logic.{or_all}
use Rattle.nodes.proofs.Lists.{length-list_of, get_or-list_of, is_list_of}
use Rattle.solver.specs.Solver.{work_bytes}
use Rattle.flows.specs.Job.{Job, plane_xy, plane_yz, plane_xz}
use Rattle.answers.specs.Answer.{Answer, gives, refuses, asks, ◌>>=◌, ◌>>◌}
use Rattle.angles.specs.Angle.{Angle, is_whole, is_half, inferred_in, inferred_byte, read_bits}
use Rattle.angles.specs.AngleRecord.{angle_bytes, bits_at, inferred_from, inferred_bytes}
use Rattle.records.specs.Records.{head_bytes, written, kind_angles, kind_accepted}
use Rattle.records.specs.JobFile.{JobFile, mode_pauli, read_job, has_edge, job_of}
use Rattle.records.specs.JobLists.{without_angles}
use Rattle.records.specs.FlowFile.{FlowFile, read_flow, entry_of, entry_asks, nothing_left, one_member}
use Rattle.records.specs.Encoding.{job_bytes, flow_file_bytes}
use Rattle.records.specs.SignalLists.{with_signals}
use Rattle.records.specs.Writing.{most_job, flow_bytes}
use Rattle.records.proofs.Records.{written-length}
use Rattle.records.proofs.Encoding.{job_exact, job_asked, job-append_angled}
use Rattle.records.proofs.JobLists.{job_parts, ascending-length, file_ascending, valid_asks}
use Rattle.demands.specs.Calls.{owner, is_owner, progress_by_mode, found_bytes, has_search, find_asks, Both, read_both, judge, verify_asks, edit_asks, read_angles_asks, write_job_asks, put, find_outcome, find_call, outcome, verify_call, write_job_call, read_angles_call, added_bytes, add_signals_call, edited_bytes, edit_set_call}
use Rattle.demands.specs.Programs.{judged_bytes, find_output, find_program, verify_output, verify_program, printed, refusal_in, streams}
use Rattle.demands.specs.JobWriter.{IsJobBytes}
use Rattle.demands.specs.Roles.{finding, verifying, finder_program, verifier_program, writing, reading_out, adding_lists, editing, called, wants_angles, OwnersOnly, OpenToBoth, AsTheOwner, having_angles, IsTwin, IsTwinFile, Secrecy, special, OnlySpecialShow}

-- ---- who may
pub owners_only : OwnersOnly
unfolding read_angles_call read_angles_asks write_job_call write_job_asks
owners_only = record {
  read_out = λ role h file out. rw (ne_eqb role owner h);
  written = λ role h l there out. rw (there, ne_eqb role owner h);
}

pub open_to_both : OpenToBoth
unfolding write_job_call write_job_asks
open_to_both (finding work out) file e role other = refl
open_to_both (verifying out) file e role other = refl
open_to_both (finder_program output error) file e role other = refl
open_to_both (verifier_program output error) file e role other = refl
open_to_both (writing out) lists e role other = rw (e, or_all (is_owner role), or_all (is_owner other))
open_to_both (reading_out out) file e role other = absurd (false≢true (sym e))
open_to_both (adding_lists out) file e role other = refl
open_to_both (editing entry out) file e role other = refl

pub as_the_owner : AsTheOwner
as_the_owner role c s = by (wants_angles c s) refl (eqb role owner) refl
  where
    by : (b : Bool) → wants_angles c s ≡ b → (d : Bool) → eqb role owner ≡ d → (called role c s ≡ called owner c s) ⊎ ((role ≢ owner) × (wants_angles c s ≡ true))
    by false e d h = inl (open_to_both c s e role owner)
    by true e true h = inl (ap (λ (r : ℕ). called r c s) (eqb-true role owner h))
    by true e false h = inr (λ z. false≢true (sym h ∙ eq-eqb role owner z), e)

-- ---- what is read of twins
abbrev holding : JobFile → (angles after : List ℕ) → JobFile
holding f angles after = record { n = f.n; mode = f.mode; edges = f.edges; inputs = f.inputs; outputs = f.outputs; measurements = f.measurements; angles = some angles; after = after }

-- the same job, with these angles and with those
record ReadsTwins (file other : List ℕ) : Type 0 where
  job : JobFile
  angles : List ℕ
  others : List ℕ
  after : List ℕ
  reads : read_job file ≡ gives (holding job angles after)
  reads_other : read_job other ≡ gives (holding job others after)
  inferred : inferred_bytes job.measurements angles ≡ inferred_bytes job.measurements others

read_behind : (s t : List ℕ) (f : JobFile) (p : List ℕ) → IsJobBytes s (having_angles f p) → read_job (s ++ t) ≡ gives (holding f p t)
read_behind s t f p (reads, ends, bytes) = job-append_angled s t (having_angles f p) p refl reads

twins_read : (s t u : List ℕ) → IsTwin s t → ReadsTwins (s ++ u) (t ++ u)
twins_read s t u w = record {
  job = w.job;
  angles = w.angles;
  others = w.others;
  after = u;
  reads = read_behind s u w.job w.angles w.reads;
  reads_other = read_behind t u w.job w.others w.reads_other;
  inferred = w.inferred;
}

files_read : (file other : List ℕ) → IsTwinFile file other → ReadsTwins file other
files_read file other w = rw (w.begins, w.begins_other) (twins_read w.first w.second w.behind w.twins)

-- ---- what is asked of twins, and what is written, is the same
module _ (file other : List ℕ) (w : ReadsTwins file other) where
  abbrev f : JobFile
  f = holding w.job w.angles w.after

  abbrev g : JobFile
  g = holding w.job w.others w.after

  same_job : job_of f ≡ job_of g
  same_job = ap {B = Job} (λ (m : List ℕ). record { nodes = f.n; edge = has_edge f.edges; input = has f.inputs; output = has f.outputs; measured = λ u. get_or m u 0 }) w.inferred

  -- the finder, whatever is made of its answer
  find_same : {A : Type 0} (made : Answer JobFile → A) (work : List ℕ) → made (gives f) ≡ made (gives g) → made (find_asks file work) ≡ made (find_asks other work)
  unfolding find_asks
  find_same {A} made work e = rw (w.reads, w.reads_other) (by (eqb (length w.after) 0) (has_search f.mode) (eqb (length work) work_bytes))
    where
      by : (a b c : Bool) → made (asks 8 a >> (asks 10 b >> (asks 11 c >> gives f))) ≡ made (asks 8 a >> (asks 10 b >> (asks 11 c >> gives g)))
      by true true true = e
      by true true false = refl
      by true false c = refl
      by false b c = refl

  found_same : found_bytes f ≡ found_bytes g
  found_same = ap (λ (j : Job). flow_bytes j (progress_by_mode mode_pauli j)) same_job

  -- a job and its flow, whatever is made of them
  both_same : {A : Type 0} (made : Answer Both → A) → ((h : FlowFile) → made (gives (record { job = f; flow = h })) ≡ made (gives (record { job = g; flow = h }))) → made (read_both file) ≡ made (read_both other)
  unfolding read_both
  both_same {A} made e = rw (w.reads, w.reads_other) (by (read_flow f.n w.after))
    where
      whole : (h : FlowFile) (m k : Answer Bool) → made (m >> (k >> gives (record { job = f; flow = h }))) ≡ made (m >> (k >> gives (record { job = g; flow = h })))
      whole h (gives a) (gives b) = e h
      whole h (gives a) (refuses r) = refl
      whole h (refuses r) k = refl

      by : (m : Answer FlowFile) → made (m >>= λ h. nothing_left h.after >> (one_member f.mode h.sets >> gives (record { job = f; flow = h })))
          ≡ made (m >>= λ h. nothing_left h.after >> (one_member g.mode h.sets >> gives (record { job = g; flow = h })))
      by (gives h) = whole h (nothing_left h.after) (one_member f.mode h.sets)
      by (refuses r) = refl

  judged_same : (h : FlowFile) → judge f h ≡ judge g h
  unfolding judge
  judged_same h = rw same_job

  verify_same : {A : Type 0} (made : Answer Bool → A) → made (verify_asks file) ≡ made (verify_asks other)
  unfolding verify_asks
  verify_same made = both_same (λ m. made (m >>= λ b. judge b.job b.flow)) (λ h. ap made (judged_same h))

  added_same : (h : FlowFile) → added_bytes (record { job = f; flow = h }) ≡ added_bytes (record { job = g; flow = h })
  added_same h = ap (λ (j : Job). flow_file_bytes (with_signals j h)) same_job

  edited_same : (entry : List ℕ) (h : FlowFile) → edited_bytes entry (record { job = f; flow = h }) ≡ edited_bytes entry (record { job = g; flow = h })
  edited_same entry h = rw same_job

  edit_same : (entry out : List ℕ) → edit_set_call file entry out ≡ edit_set_call other entry out
  unfolding edit_set_call edit_asks
  edit_same entry out = both_same (λ m. outcome (m >>= λ b. entry_asks b.job.n entry >> (one_member b.job.mode (entry_of entry ∷ []) >> gives b)) (edited_bytes entry) out) (λ h. by h (entry_asks f.n entry) (one_member f.mode (entry_of entry ∷ [])))
    where
      by : (h : FlowFile) (m k : Answer Bool) → outcome (m >> (k >> gives (record { job = f; flow = h }))) (edited_bytes entry) out ≡ outcome (m >> (k >> gives (record { job = g; flow = h }))) (edited_bytes entry) out
      by h (gives a) (gives b) = ap (λ (bytes : List ℕ). put [] bytes out) (edited_same entry h)
      by h (gives a) (refuses r) = refl
      by h (refuses r) k = refl

-- ---- a program judges the first bytes, in which a job has room
taken : (k : ℕ) (l r : List ℕ) → length l ≤ k → take k (l ++ r) ≡ l ++ take (k - length l) r
taken k l r h = let e : k ≡ length l + (k - length l) = omega arith in ap (λ (i : ℕ). take i (l ++ r)) e ∙ take-append-add l r (k - length l)

-- twins are of one length, which has room
angled_length : (s : List ℕ) (f : JobFile) (p : List ℕ) → IsJobBytes s (having_angles f p) → (length s ≡ length (job_bytes (without_angles f)) + (head_bytes + angle_bytes * f.n)) × (length s ≤ most_job)
angled_length s f p (reads, ends, bytes) =
    let v = job_asked s (having_angles f p) reads in
    let own : s ≡ job_bytes (having_angles f p) = ((job_exact s (having_angles f p) bytes).0 reads).0 ∙ append-nil (job_bytes (having_angles f p)) in
    let parts : length s ≡ length (job_bytes (without_angles f)) + length (written kind_angles p) = ap length (own ∙ job_parts (having_angles f p)) ∙ length-append (job_bytes (without_angles f)) (written kind_angles p) in
    let few : length (job_bytes (having_angles f p)) ≤ most_job = subst (λ (g : JobFile). length (job_bytes g) ≤ most_job) (file_ascending (having_angles f p) v refl) (ascending-length _ (valid_asks (having_angles f p) v)) in
    (omega (arith, parts, written-length kind_angles p, v.angles.1), rw own few)

first_twins : (k : ℕ) (file other : List ℕ) → most_job ≤ k → IsTwinFile file other → ReadsTwins (take k file) (take k other)
first_twins k file other room w =
    let t = w.twins in
    let (size, few) = angled_length w.first t.job t.angles t.reads in
    let (size_other, few_other) = angled_length w.second t.job t.others t.reads_other in
    let same : length w.second ≡ length w.first = size_other ∙ sym size in
    rw (w.begins, w.begins_other, taken k w.first w.behind (omega (arith, few)), taken k w.second w.behind (omega (arith, few_other)), same)
    (twins_read w.first w.second (take (k - length w.first) w.behind) t)

judged_twins : (file other : List ℕ) → IsTwinFile file other → ReadsTwins (take judged_bytes file) (take judged_bytes other)
judged_twins file other = first_twins judged_bytes file other (omega arith)

-- ---- call by call
pub secrecy : Secrecy
unfolding find_call find_program verify_call verify_program add_signals_call
secrecy role h (finding work out) file other w =
    let t = files_read file other w in find_same file other t (λ m. find_outcome m work out) work (ap (λ (bytes : List ℕ). put (zeros (length work)) bytes out) (found_same file other t))
secrecy role h (verifying out) file other w = verify_same file other (files_read file other w) (λ m. outcome m (λ b. written kind_accepted []) out)
secrecy role h (finder_program output error) file other w =
    let t = judged_twins file other w in
    find_same (take judged_bytes file) (take judged_bytes other) t (λ m. streams (printed (refusal_in m) (find_output m) output) error) (zeros work_bytes)
    (ap (λ (bytes : List ℕ). streams (printed none bytes output) error) (found_same (take judged_bytes file) (take judged_bytes other) t))
secrecy role h (verifier_program output error) file other w =
    verify_same (take judged_bytes file) (take judged_bytes other) (judged_twins file other w) (λ m. streams (printed (refusal_in m) (verify_output m) output) error)
secrecy role h (writing out) lists other (p, q, there, same) = owners_only.written role h lists (rw there) out ∙ sym (owners_only.written role h other (rw same) out)
secrecy role h (reading_out out) file other w = owners_only.read_out role h file out ∙ sym (owners_only.read_out role h other out)
secrecy role h (adding_lists out) file other w =
    let t = files_read file other w in both_same file other t (λ m. outcome m added_bytes out) (λ g. ap (λ (bytes : List ℕ). put [] bytes out) (added_same file other t g))
secrecy role h (editing entry out) file other w = edit_same file other (files_read file other w) entry out

-- ---- what shows of angles
-- an ordinary angle keeps the plane
keeps_plane : (p : ℕ) → cond (eqb p plane_xy) plane_xy (cond (eqb p plane_yz) plane_yz (cond (eqb p plane_xz) plane_xz p)) ≡ p
keeps_plane p = by (eqb p plane_xy) refl (eqb p plane_yz) refl (eqb p plane_xz) refl
  where
    by : (a : Bool) → eqb p plane_xy ≡ a → (b : Bool) → eqb p plane_yz ≡ b → (c : Bool) → eqb p plane_xz ≡ c → cond a plane_xy (cond b plane_yz (cond c plane_xz p)) ≡ p
    by true e b f c g = sym (eqb-true p plane_xy e)
    by false e true f c g = sym (eqb-true p plane_yz f)
    by false e false f true g = sym (eqb-true p plane_xz g)
    by false e false f false g = refl

ordinary_keeps : (p : ℕ) (x : Float) → special (Some x) ≡ special None → inferred_from p (Some x) ≡ p
unfolding inferred_byte inferred_in
ordinary_keeps p x e =
    let whole : is_whole x ≡ false = ap (λ (s : Bool × Bool). s.0) e in
    let half : is_half x ≡ false = ap (λ (s : Bool × Bool). s.1) e in
    rw (whole, half) (keeps_plane p)

same_inferred : (p : ℕ) (a b : Angle) → special a ≡ special b → inferred_from p a ≡ inferred_from p b
unfolding inferred_byte inferred_in
same_inferred p (Some x) (Some y) e =
    let whole : is_whole x ≡ is_whole y = ap (λ (s : Bool × Bool). s.0) e in
    let half : is_half x ≡ is_half y = ap (λ (s : Bool × Bool). s.1) e in
    rw (whole, half)
same_inferred p (Some x) None e = ordinary_keeps p x e
same_inferred p None (Some y) e = sym (ordinary_keeps p y (sym e))
same_inferred p None None e = refl

pub only_special_show : OnlySpecialShow
unfolding inferred_bytes
only_special_show planes angles others same =
    is_list_of _ (length planes) _ (length-list_of (length planes) _)
    (λ u l. get_or-list_of (length planes) _ u l ∙ same_inferred (get_or planes u 0) (read_bits (bits_at angles u)) (read_bits (bits_at others u)) (same u l))
