-- What the one number tells a program in C: an answer exactly where it is below 2^32, and else the refusal's number, a and b.
use Prim.Native.Nat.{ℕ, zero, suc, ◌≤◌, ◌<◌}
use mathlib.Core.Path.{◌≡◌, refl}
use mathlib.Core.Bool.{Bool, true, false, false≢true}
use mathlib.Core.Option.{Option, none, some}
use mathlib.Core.List.{List, []}
use mathlib.Core.Logic.{◌↔◌, ◌≢◌, ◌⊎◌, inl, inr}
use native.Mathlib.Omega.{arith}
use lib.ListN.{length}
use Rattle.nodes.specs.Lists.{has}
use Rattle.nodes.specs.Options.{is_some}
use Rattle.answers.specs.Answer.{Refusal, Answer, gives, refuses, asks, ◌>>◌}
use Rattle.answers.proofs.Answer.{never}
use Rattle.solver.specs.Solver as Solver
use Rattle.records.specs.Records.{written, kind_accepted}
use Rattle.records.specs.Splice.{fits_in}
use Rattle.records.specs.Encoding.{IsBytes}
use Rattle.records.specs.Writing.{angle_record, most_flow}
use Rattle.records.specs.JobFile.{JobFile}
use Rattle.records.specs.JobLists.{JobLists}
use Rattle.records.proofs.Records.{written-length}
use Rattle.records.proofs.Encoding.{job_asked}
use Rattle.records.proofs.JobLists.{ascending-length, record_few}
use Rattle.demands.specs.Roles.{writing, reading_out, turned_away}
use Rattle.demands.specs.Calls.{owner, Both, read_both, edit_asks, read_angles_asks, put, find_asks, find_outcome, find_call, verify_asks, outcome, verify_call, written_job, write_job_asks, write_job_call, added_bytes, add_signals_call, edited_bytes, edit_set_call, read_angles_call}
use Rattle.demands.proofs.Demand.{found_fits, asked_find}
use Rattle.demands.proofs.Roles.{owners_only, as_the_owner}
use Rattle.demands.proofs.JobWriter.{writer_numbers, write_job_asked, write_job_refuses}
use Rattle.capi.specs.Codes.{number_unit, answer_code, coded, counted, coded_bits, Tells, TellsWhy}
use Rattle.demands.proofs.Refusals.{IsNumbered, AllNumbered, given, asks-then, find_numbered, verify_numbered, both_numbered, edit_numbered, read_angles_numbered}
use Rattle.demands.proofs.Signals.{added_fits, edited_fits}
use Rattle.demands.proofs.Angles.{read_out_asked}

-- ---- what the calls answer: a small count, or a numbered refusal
abbrev Fits : Type 0 → Answer ℕ → Type 0
Fits bytes (gives k) = k ≤ most_flow
Fits bytes (refuses r) = (1 ≤ r.number) × (r.a < 256) × (bytes → r.b < 65536)

numbered_fits : (bytes : Type 0) (r : Refusal) → IsNumbered bytes r → Fits bytes (refuses r)
numbered_fits bytes r t = (t.number, t.a, t.b)

put_fits : (bytes : Type 0) (work result out : List ℕ) → length result ≤ most_flow → Fits bytes (put work result out).answer
unfolding put
put_fits bytes work result out h = by (fits_in result out)
  where
    by : (c : Bool) → Fits bytes (asks 20 c >> gives (length result))
    by true = h
    by false = (omega arith, omega arith, λ x. omega arith)

find_fits : (file work out : List ℕ) → Fits Unit (find_call file work out).answer
unfolding find_call AllNumbered
find_fits file work out = by (find_asks file work) refl (find_numbered Unit file work)
  where
    by : (a : Answer JobFile) → find_asks file work ≡ a → AllNumbered Unit a → Fits Unit (find_outcome a work out).answer
    by (gives f) e t = put_fits Unit _ _ out (omega (arith, found_fits f (job_asked file f (asked_find file work f e).0).few))
    by (refuses r) e t = numbered_fits Unit r t

verify_fits : (file out : List ℕ) → Fits (IsBytes file) (verify_call file out).answer
unfolding verify_call AllNumbered
verify_fits file out = by (verify_asks file) (verify_numbered file)
  where
    by : (a : Answer Bool) → AllNumbered (IsBytes file) a → Fits (IsBytes file) (outcome a (λ b. written kind_accepted []) out).answer
    by (gives b) t = put_fits (IsBytes file) [] (written kind_accepted []) out (omega (arith, written-length kind_accepted []))
    by (refuses r) t = numbered_fits (IsBytes file) r t

-- to the owner; to an operator the same, or 24
turned_away_fits : (out : List ℕ) → Fits Unit (turned_away out).answer
turned_away_fits out = (omega arith, omega arith, λ x. omega arith)

write_job_fits : (role : ℕ) (l : JobLists) (out : List ℕ) → Fits Unit (write_job_call role l out).answer
unfolding has write_job_call
write_job_fits role l out = to (as_the_owner role (writing out) l)
  where
    -- no question has number 0
    from_one : (q : ℕ) → has writer_numbers q ≡ true → 1 ≤ q
    from_one zero e = absurd (false≢true e)
    from_one (suc q) e = omega arith

    by : (a : Answer Bool) → write_job_asks owner l ≡ a → Fits Unit (outcome a (λ b. written_job l) out).answer
    by (gives b) e = put_fits Unit [] (written_job l) out (omega (arith, ascending-length l (write_job_asked owner l b e).0))
    by (refuses r) e =
        let (same, number) = write_job_refuses l r e in
        rw same (from_one r.number number, omega arith, λ x. omega arith)

    to : (write_job_call role l out ≡ write_job_call owner l out) ⊎ ((role ≢ owner) × (is_some l.angles ≡ true)) → Fits Unit (write_job_call role l out).answer
    to (inl e) = rw e (by (write_job_asks owner l) refl)
    to (inr (h, there)) = rw (owners_only.written role h l there out) (turned_away_fits out)

-- what adding and editing write is a flow file
add_signals_fits : (file out : List ℕ) → Fits Unit (add_signals_call file out).answer
unfolding add_signals_call AllNumbered
add_signals_fits file out = by (read_both file) refl (both_numbered Unit file)
  where
    by : (a : Answer Both) → read_both file ≡ a → AllNumbered Unit a → Fits Unit (outcome a added_bytes out).answer
    by (gives b) e t = put_fits Unit [] (added_bytes b) out (added_fits file b e)
    by (refuses r) e t = numbered_fits Unit r t

edit_set_fits : (file entry out : List ℕ) → Fits Unit (edit_set_call file entry out).answer
unfolding edit_set_call AllNumbered
edit_set_fits file entry out = by (edit_asks file entry) refl (edit_numbered Unit file entry)
  where
    by : (a : Answer Both) → edit_asks file entry ≡ a → AllNumbered Unit a → Fits Unit (outcome a (edited_bytes entry) out).answer
    by (gives b) e t = put_fits Unit [] (edited_bytes entry b) out (edited_fits file entry b e)
    by (refuses r) e t = numbered_fits Unit r t

-- a record of angles is 8 bytes a node
read_angles_fits : (role : ℕ) (file out : List ℕ) → Fits Unit (read_angles_call role file out).answer
unfolding read_angles_call AllNumbered
read_angles_fits role file out = to (as_the_owner role (reading_out out) file)
  where
    by : (a : Answer JobFile) → read_angles_asks owner file ≡ a → AllNumbered Unit a → Fits Unit (outcome a (λ f. angle_record f.angles) out).answer
    by (gives f) e t =
        let v = job_asked file f (read_out_asked owner file f e).0.0 in
        put_fits Unit [] (angle_record f.angles) out (omega (arith, record_few f.n f.mode (has f.outputs) f.angles v.angles, v.few))
    by (refuses r) e t = numbered_fits Unit r t

    to : (read_angles_call role file out ≡ read_angles_call owner file out) ⊎ ((role ≢ owner) × (true ≡ true)) → Fits Unit (read_angles_call role file out).answer
    to (inl e) = rw e (by (read_angles_asks owner file) refl (read_angles_numbered Unit file))
    to (inr (h, there)) = rw (owners_only.read_out role h file out) (turned_away_fits out)

solve_numbered : (matrix out : List ℕ) (rows cols sides side : ℕ) → AllNumbered Unit (Solver.solve_asks matrix out rows cols sides side)
unfolding Solver.solve_asks
solve_numbered matrix out rows cols sides side =
    asks-then Unit 11 (Solver.well_shaped matrix out rows cols sides) _ (omega arith) (omega arith)
    (asks-then Unit 12 (Solver.equation_exists sides side) _ (omega arith) (omega arith) (given Unit _))

solve_fits : (matrix out : List ℕ) (rows cols sides side : ℕ) → Fits Unit (counted (Solver.solve_call matrix out rows cols sides side).answer)
unfolding AllNumbered
solve_fits matrix out rows cols sides side = by (Solver.solve_asks matrix out rows cols sides side) (solve_numbered matrix out rows cols sides side)
  where
    by : (a : Answer (Option (ℕ → Bool))) → AllNumbered Unit a → Fits Unit (counted (Solver.outcome a out).answer)
    by (gives none) t = omega arith
    by (gives (some x)) t = omega arith
    by (refuses r) t = numbered_fits Unit r t

-- ---- what their codes tell
module _ (bytes : Type 0) where
  tells : (a : Answer ℕ) → Fits bytes a → Tells a (answer_code a)
  tells (gives k) h = (omega arith, refl)
  tells (refuses r) h = omega arith

  tells_why : (a : Answer ℕ) → Fits bytes a → bytes → TellsWhy a (answer_code a)
  tells_why (gives k) h x = tt
  tells_why (refuses r) h x = let b = h.2 x in (omega arith, omega arith, omega arith)

pub find_code : (file work out : List ℕ) → let o = find_call file work out in Tells o.answer (coded o).code × TellsWhy o.answer (coded o).code
find_code file work out =
    let a = (find_call file work out).answer in
    let h = find_fits file work out in
    (tells Unit a h, tells_why Unit a h tt)

pub verify_code : (file out : List ℕ) → let o = verify_call file out in Tells o.answer (coded o).code × (IsBytes file → TellsWhy o.answer (coded o).code)
verify_code file out =
    let a = (verify_call file out).answer in
    let h = verify_fits file out in
    (tells (IsBytes file) a h, tells_why (IsBytes file) a h)

pub add_signals_code : (file out : List ℕ) → let o = add_signals_call file out in Tells o.answer (coded o).code × TellsWhy o.answer (coded o).code
add_signals_code file out =
    let a = (add_signals_call file out).answer in
    let h = add_signals_fits file out in
    (tells Unit a h, tells_why Unit a h tt)

pub edit_set_code : (file entry out : List ℕ) → let o = edit_set_call file entry out in Tells o.answer (coded o).code × TellsWhy o.answer (coded o).code
edit_set_code file entry out =
    let a = (edit_set_call file entry out).answer in
    let h = edit_set_fits file entry out in
    (tells Unit a h, tells_why Unit a h tt)

pub read_angles_code : (role : ℕ) (file out : List ℕ) → let o = read_angles_call role file out in Tells o.answer (coded o).code × TellsWhy o.answer (coded o).code
read_angles_code role file out =
    let a = (read_angles_call role file out).answer in
    let h = read_angles_fits role file out in
    (tells Unit a h, tells_why Unit a h tt)

pub write_job_code : (role : ℕ) (l : JobLists) (out : List ℕ) → let o = write_job_call role l out in Tells o.answer (coded o).code × TellsWhy o.answer (coded o).code
write_job_code role l out =
    let a = (write_job_call role l out).answer in
    let h = write_job_fits role l out in
    (tells Unit a h, tells_why Unit a h tt)

pub solve_code : (matrix out : List ℕ) (rows cols sides side : ℕ) → let o = Solver.solve_call matrix out rows cols sides side in
    Tells (counted o.answer) (coded_bits o).code × TellsWhy (counted o.answer) (coded_bits o).code
solve_code matrix out rows cols sides side =
    let a = counted (Solver.solve_call matrix out rows cols sides side).answer in
    let h = solve_fits matrix out rows cols sides side in
    (tells Unit a h, tells_why Unit a h tt)

-- so the codes below 2^32 are those of answers
pub below_answers : (a : Answer ℕ) (c : ℕ) → Tells a c → c < number_unit ↔ ((k : ℕ) × (a ≡ gives k))
below_answers (gives k) c t = ((λ h. (k, refl)), λ h. t.0)
below_answers (refuses r) c t = ((λ h. absurd (no t h)), λ (k, e). absurd (never e))
  where
    no : number_unit ≤ c → c < number_unit → ⊥
    no t h = omega arith
