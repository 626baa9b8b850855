-- Request 2026-01 proved: what the job writer writes reads back as the job that its lists mean, one job has one file, and its refusals.
use Prim.Native.Nat.{ℕ, ◌*◌}
use mathlib.Core.Path.{◌≡◌, refl, sym, ap, ◌∙◌, subst}
use mathlib.Core.Bool.{Bool, true, false, not, ◌||◌}
use mathlib.Core.Option.{Option, none, some}
use mathlib.Core.List.{List, [], ◌∷◌, ◌++◌, append-nil}
use lib.ListN.{length, take}
use lib.Dec.{eqb}
use Rattle.nodes.specs.Lists.{has}
use Rattle.nodes.specs.Options.{is_some}
use Rattle.answers.specs.Answer.{Refusal, Answer, gives, refuses, refusal, asks, ◌>>◌}
use Rattle.answers.proofs.Answer.{give_inj, never, asks_yes, asks_out}
use Rattle.angles.specs.AngleRecord.{angle_bytes, angles_allowed}
use Rattle.records.specs.Records.{each_asks}
use Rattle.records.specs.JobFile.{JobFile, opening_allowed, whole_pairs, nodes_below, all_allowed, measurements_asks, angles_asks, has_angles, read_job}
use Rattle.records.specs.JobLists.{JobLists, Meaning, lists_of, angles_given, lists_ask, given_once, meaning, ascending}
use Rattle.records.specs.Encoding.{IsBytes, job_bytes}
use Rattle.records.proofs.Encoding.{job_exact, job_decodes, job_asked}
use Rattle.records.proofs.JobLists.{lists_yes, ascending_valid, ascending_means, file_ascending, valid_asks, valid_once, valid_bytes}
use Rattle.demands.specs.Calls.{owner, is_owner, outcome, written_job, write_job_asks, write_job_call}
use Rattle.demands.specs.JobWriter.{IsJobBytes, Wrote, GivesBack, OneFile, SameBytes, WritesAgain}
use Rattle.demands.proofs.Demand.{put_fits}

-- ---- what the writer has asked and written
pub write_job_asked : (role : ℕ) (l : JobLists) (b : Bool) → write_job_asks role l ≡ gives b → (lists_ask l ≡ gives true) × (given_once l ≡ true)
unfolding write_job_asks
write_job_asked role l b e = by (lists_ask l) refl (asks_out 24 (is_owner role || not (is_some l.angles)) _ b e).1
  where
    by : (m : Answer Bool) → lists_ask l ≡ m → (m >> asks 21 (given_once l)) ≡ gives b → (lists_ask l ≡ gives true) × (given_once l ≡ true)
    by (gives c) p q = (lists_yes l c p, asks_yes 21 (given_once l) b q)
    by (refuses r) p q = absurd (never q)

wrote_out : (l : JobLists) (out : List ℕ) (k : ℕ) (s : List ℕ) → Wrote l out k s → (lists_ask l ≡ gives true) × (given_once l ≡ true) × (written_job l ≡ s)
unfolding write_job_call
wrote_out l out k s w = by (write_job_asks w.role l) refl w.answered w.left
  where
    by : (m : Answer Bool) → write_job_asks w.role l ≡ m → (outcome m (λ b. written_job l) out).answer ≡ gives k → take k (outcome m (λ b. written_job l) out).out ≡ s → (lists_ask l ≡ gives true) × (given_once l ≡ true) × (written_job l ≡ s)
    by (refuses r) p e q = absurd (never e)
    by (gives b) p e q = let (asked, once) = write_job_asked w.role l b p in (asked, once, sym (put_fits [] (written_job l) out k e) ∙ q)

-- ---- what it writes reads back
pub gives_back : GivesBack
gives_back l b out k s w =
    let (asked, once, same) = wrote_out l out k s w in
    let f = ascending (meaning l) in
    let valid = ascending_valid l asked in
    (f, (ap read_job (sym same ∙ sym (append-nil (job_bytes f))) ∙ job_decodes f valid refl, refl, subst IsBytes same (valid_bytes f valid b)), ascending_means l asked once)

-- ---- one job, one file
-- bytes are one job file at most
same_file : (s t : List ℕ) (f g : JobFile) → IsJobBytes s f → IsJobBytes t g → s ≡ t → f ≡ g
same_file s t f g p q e = give_inj (sym p.0 ∙ ap read_job e ∙ q.0)

-- a readable file is what is written for its own lists
own_bytes : (s : List ℕ) (f : JobFile) → IsJobBytes s f → s ≡ written_job (lists_of f)
own_bytes s f (reads, ends, b) =
    ((job_exact s f b).0 reads).0 ∙ ap (λ (t : List ℕ). job_bytes f ++ t) ends ∙ append-nil (job_bytes f)
    ∙ ap job_bytes (sym (file_ascending f (job_asked s f reads) ends))

pub one_file : OneFile
one_file s t f g p q = (
  λ e. ap (λ (f : JobFile). meaning (lists_of f)) (same_file s t f g p q e),
  λ e. own_bytes s f p ∙ ap (λ (m : Meaning). job_bytes (ascending m)) e ∙ sym (own_bytes t g q),
)

pub same_bytes : SameBytes
same_bytes l m a b out other j k s t w x =
    let (f, p, d) = gives_back l a out j s w in
    let (g, q, e) = gives_back m b other k t x in (
      λ h. sym d ∙ ap (λ (f : JobFile). meaning (lists_of f)) (same_file s t f g p q h) ∙ e,
      λ h. sym (wrote_out l out j s w).2 ∙ ap (λ (m : Meaning). job_bytes (ascending m)) h ∙ (wrote_out m other k t x).2,
    )

pub writes_again : WritesAgain
unfolding write_job_asks write_job_call
writes_again s f p out =
    let v = job_asked s f p.0 in
    rw (valid_asks f v, valid_once f v, ← own_bytes s f p)

-- ---- the refusals
-- the questions of the writers, 20 and the operator's 24 aside
abbrev pub writer_numbers : List ℕ
writer_numbers = 3 ∷ 4 ∷ 5 ∷ 7 ∷ 21 ∷ 23 ∷ []

-- with one of these numbers, and no a and b
abbrev IsRefused : Refusal → Type 0
IsRefused r = (r ≡ refusal r.number) × (has writer_numbers r.number ≡ true)

abbrev AllRefused : Answer Bool → Type 0
AllRefused m = (r : Refusal) → m ≡ refuses r → IsRefused r

asked : (q : ℕ) (c : Bool) → IsRefused (refusal q) → AllRefused (asks q c)
asked q true h r e = absurd (never (sym e))
asked q false h r e = let same : refusal q ≡ r = cc in subst IsRefused same h

both_asked : (m k : Answer Bool) → AllRefused m → AllRefused k → AllRefused (m >> k)
both_asked (gives b) k h g r e = g r e
both_asked (refuses q) k h g r e = h r e

angles_refused : (n mode : ℕ) (output : ℕ → Bool) (o : Option (List ℕ)) → AllRefused (angles_given n mode output o)
unfolding has angles_given angles_asks each_asks
angles_refused n mode output none = λ r e. absurd (never (sym e))
angles_refused n mode output (some p) =
    both_asked _ _ (asked 4 (has_angles mode) (refl, refl))
    (both_asked _ _ (asked 3 (eqb (length p) (angle_bytes * n)) (refl, refl)) (asked 23 (angles_allowed n output p) (refl, refl)))

pub write_job_refuses : (l : JobLists) (r : Refusal) → write_job_asks owner l ≡ refuses r → (r ≡ refusal r.number) × (has writer_numbers r.number ≡ true)
unfolding has lists_ask measurements_asks write_job_asks
write_job_refuses l r e =
    both_asked (lists_ask l) _
    (both_asked _ _ (asked 4 (opening_allowed l.n l.mode) (refl, refl))
    (both_asked _ _ (asked 3 (whole_pairs l.edges) (refl, refl))
    (both_asked _ _ (asked 5 (nodes_below l.n l.edges) (refl, refl))
    (both_asked _ _ (asked 5 (nodes_below l.n l.inputs) (refl, refl))
    (both_asked _ _ (asked 5 (nodes_below l.n l.outputs) (refl, refl))
    (both_asked _ _ (both_asked _ _ (asked 3 (eqb (length l.measurements) l.n) (refl, refl)) (asked 7 (all_allowed l.mode (has l.outputs) 0 l.measurements) (refl, refl)))
    (angles_refused l.n l.mode (has l.outputs) l.angles)))))))
    (asked 21 (given_once l) (refl, refl)) r e
