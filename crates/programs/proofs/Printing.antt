-- What a program's call leaves: its whole output where it fits, and it fits where any has room.
use Prim.Native.Nat.{ℕ, ◌-◌, ◌≤◌, ◌<◌, min}
use mathlib.Core.Path.{◌≡◌, refl, sym, ap, ◌∙◌, subst}
use mathlib.Core.Bool.{Bool, true, false, cond}
use mathlib.Core.Option.{Option, none, some}
use mathlib.Core.List.{List, [], ◌∷◌, ◌++◌}
use mathlib.Core.Logic.{◌⊎◌, inl, inr}
use native.Mathlib.Omega.{arith}
use native.Mathlib.Nat.{min-eq_left, min-eq_right}
use borrow.Author.Tests.{le-leb, lt-leb, leb-true}
use lib.Dec.{leb, nleb→lt}
use lib.ListN.{length, take, drop}
use lib.Seq.{take_all, take-length}
use Rattle.nodes.specs.Lists.{zeros}
use Rattle.nodes.proofs.Logic.{le_or_lt}
use Rattle.solver.specs.Solver.{work_bytes}
use Rattle.answers.specs.Answer.{Refusal, Answer, gives, refuses, refusal, asks, ◌>>◌}
use Rattle.records.specs.Records.{written, kind_accepted, kind_refusal, in_two_bytes}
use Rattle.records.specs.JobFile.{JobFile}
use Rattle.records.specs.Splice.{fits_in, put_front, put_answer}
use Rattle.records.specs.Writing.{most_output}
use Rattle.answers.proofs.Answer.{give_inj, never}
use Rattle.records.proofs.Records.{written-length}
use Rattle.records.proofs.Encoding.{job_asked}
use Rattle.demands.specs.Calls.{found_bytes, Outcome, put, find_asks, find_outcome, find_call, verify_asks, outcome, verify_call}
use Rattle.demands.specs.Programs.{judged_bytes, refusal_bytes, find_output, find_program, verify_output, verify_program, Printed, too_long, printed, refusal_in, find_printed, verify_printed}
use Rattle.demands.proofs.Demand.{found_fits, asked_find}
use Rattle.demands.proofs.Refusals.{AllNumbered, find_numbered}

refuse_inj : {A : Type 0} {r s : Refusal} → ◌≡◌ {A = Answer A} (refuses r) (refuses s) → r ≡ s
refuse_inj e = cc

-- the bytes that are judged
pub first_bytes : (k n : ℕ) (l : List ℕ) → n ≡ min k (length l) → take n l ≡ take k l
first_bytes k n l q = by (le_or_lt k (length l))
  where
    by : (k ≤ length l) ⊎ (length l < k) → take n l ≡ take k l
    by (inl h) = let e : n ≡ k = omega (arith, q, min-eq_left h) in ap (λ (i : ℕ). take i l) e
    by (inr h) =
        let g : length l ≤ k = omega arith in
        let e : n ≡ length l = omega (arith, q, min-eq_right g) in
        ap (λ (i : ℕ). take i l) e ∙ take-length l ∙ sym (take_all k l g)

-- what was written lies in the buffer
pub printed_few : (refused : Option Refusal) (output out : List ℕ) (p : Printed) → p ≡ printed refused output out → p.count ≤ length out
unfolding printed
printed_few refused output out p e = subst (λ (p : Printed). p.count ≤ length out) (sym e) (by (leb (length output) (length out)) refl)
  where
    by : (t : Bool) → leb (length output) (length out) ≡ t
        → (cond {A = Printed} t (record { refused = refused; count = length output; out = output ++ drop (length output) out }) (record { refused = some (refusal too_long); count = 0; out = out })).count ≤ length out
    by true e = leb-true (length output) (length out) e
    by false e = omega arith

-- ---- 001F
refusal_length : (r : Refusal) → length (refusal_bytes r) ≡ 10
unfolding in_two_bytes
refusal_length r = written-length kind_refusal (r.number ∷ r.a ∷ in_two_bytes (r.b ∷ []))

-- what is told, and how much is written, where so many bytes fit
abbrev pub fitting : Refusal → Answer ℕ → Refusal
fitting r (gives k) = r
fitting r (refuses q) = q

abbrev pub fitted : Answer ℕ → ℕ
fitted (gives k) = k
fitted (refuses q) = 0

pub refusal_put : (r : Refusal) (x : Answer ℕ) (bytes out o : List ℕ) → x ≡ put_answer bytes out → o ≡ put_front bytes out
    → record { refused = some (fitting r x); count = fitted x; out = o } ≡ printed (some r) bytes out
unfolding printed
refusal_put r x bytes out o p q = rw (p, q) (by (fits_in bytes out))
  where
    by : (t : Bool)
        → ◌≡◌ {A = Printed} (record { refused = some (fitting r (asks 20 t >> gives (length bytes))); count = fitted (asks 20 t >> gives (length bytes)); out = cond t (bytes ++ drop (length bytes) out) out })
        (cond t (record { refused = some r; count = length bytes; out = bytes ++ drop (length bytes) out }) (record { refused = some (refusal too_long); count = 0; out = out }))
    by true = refl
    by false = refl

-- ---- one call: its result, or its refusal
module _ (w result out o work : List ℕ) where
  -- a result that fits was put, and is all that is printed
  put-gives : (k : ℕ) → ◌≡◌ {A = Outcome} (record { answer = gives k; work = work; out = o }) (put w result out) → ◌≡◌ {A = Printed} (record { refused = none; count = k; out = o }) (printed none result out)
  unfolding put printed
  put-gives k e = by (leb (length result) (length out)) e
    where
      by : (t : Bool)
          → ◌≡◌ {A = Outcome} (record { answer = gives k; work = work; out = o }) (record { answer = asks 20 t >> gives (length result); work = w; out = cond t (result ++ drop (length result) out) out })
          → ◌≡◌ {A = Printed} (record { refused = none; count = k; out = o }) (cond t (record { refused = none; count = length result; out = result ++ drop (length result) out }) (record { refused = some (refusal too_long); count = 0; out = out }))
      by true e = let count : k ≡ length result = give_inj (ap (λ (x : Outcome). x.answer) e) in rw (count, ap (λ (x : Outcome). x.out) e)
      by false e = absurd (never (sym (ap (λ (x : Outcome). x.answer) e)))

  -- one that does not fit was refused with 20, and nothing is printed
  put-refuses : (r : Refusal) → ◌≡◌ {A = Outcome} (record { answer = refuses r; work = work; out = o }) (put w result out)
      → (length out < length result) × (r ≡ refusal too_long) × (o ≡ out)
  unfolding put
  put-refuses r e = by (leb (length result) (length out)) refl e
    where
      by : (t : Bool) → leb (length result) (length out) ≡ t
          → ◌≡◌ {A = Outcome} (record { answer = refuses r; work = work; out = o }) (record { answer = asks 20 t >> gives (length result); work = w; out = cond t (result ++ drop (length result) out) out })
          → (length out < length result) × (r ≡ refusal too_long) × (o ≡ out)
      by true h e = absurd (never (ap (λ (x : Outcome). x.answer) e))
      by false h e = (nleb→lt (length result) (length out) (rw h tt), refuse_inj (ap (λ (x : Outcome). x.answer) e), ap (λ (x : Outcome). x.out) e)

-- a refusal touched nothing, and its record is printed
told : (w work out o : List ℕ) (r q : Refusal) → ◌≡◌ {A = Outcome} (record { answer = refuses r; work = work; out = o }) (record { answer = refuses q; work = w; out = out })
    → printed (some r) (refusal_bytes r) o ≡ printed (some q) (refusal_bytes q) out
told w work out o r q e =
    let same : r ≡ q = refuse_inj (ap (λ (x : Outcome). x.answer) e) in
    rw (same, ap (λ (x : Outcome). x.out) e)

printed_long : (refused : Option Refusal) (output out : List ℕ) → length out < length output → printed refused output out ≡ record { refused = some (refusal too_long); count = 0; out = out }
unfolding printed
printed_long refused output out h = rw (lt-leb (length output) (length out) h)

-- ---- the finder's program
module _ (input out o work : List ℕ) where
  pub find_gives : (k : ℕ) → ◌≡◌ {A = Outcome} (record { answer = gives k; work = work; out = o }) (find_call (take judged_bytes input) (zeros work_bytes) out)
      → ◌≡◌ {A = Printed} (record { refused = none; count = k; out = o }) (find_printed input out)
  unfolding find_call find_program
  find_gives k e = by (find_asks (take judged_bytes input) (zeros work_bytes)) e
    where
      by : (x : Answer JobFile) → ◌≡◌ {A = Outcome} (record { answer = gives k; work = work; out = o }) (find_outcome x (zeros work_bytes) out) → ◌≡◌ {A = Printed} (record { refused = none; count = k; out = o }) (printed (refusal_in x) (find_output x) out)
      by (gives f) e = put-gives (zeros (length (zeros work_bytes))) (found_bytes f) out o work k e
      by (refuses r) e = absurd (never (sym (ap (λ (x : Outcome). x.answer) e)))

  -- 20 says that the result does not fit
  pub find_20 : (r : Refusal) → r.number ≡ too_long → ◌≡◌ {A = Outcome} (record { answer = refuses r; work = work; out = o }) (find_call (take judged_bytes input) (zeros work_bytes) out)
      → ◌≡◌ {A = Printed} (record { refused = some r; count = 0; out = o }) (find_printed input out)
  unfolding find_call find_program AllNumbered
  find_20 r n e = by (find_asks (take judged_bytes input) (zeros work_bytes)) (find_numbered Unit (take judged_bytes input) (zeros work_bytes)) e
    where
      by : (x : Answer JobFile) → AllNumbered Unit x → ◌≡◌ {A = Outcome} (record { answer = refuses r; work = work; out = o }) (find_outcome x (zeros work_bytes) out)
          → ◌≡◌ {A = Printed} (record { refused = some r; count = 0; out = o }) (printed (refusal_in x) (find_output x) out)
      by (gives f) h e =
          let (long, same, plain) = put-refuses (zeros (length (zeros work_bytes))) (found_bytes f) out o work r e in
          rw (same, plain) (sym (printed_long none (found_bytes f) out long))
      by (refuses q) h e =
          let same : r ≡ q = refuse_inj (ap (λ (x : Outcome). x.answer) e) in
          absurd (h.unwritten (sym (ap (λ (x : Refusal). x.number) same) ∙ n))

  -- any other refusal is a question's
  pub find_refuses : (r : Refusal) → (r.number ≡ too_long → ⊥) → ◌≡◌ {A = Outcome} (record { answer = refuses r; work = work; out = o }) (find_call (take judged_bytes input) (zeros work_bytes) out)
      → printed (some r) (refusal_bytes r) o ≡ find_printed input out
  unfolding find_call find_program
  find_refuses r n e = by (find_asks (take judged_bytes input) (zeros work_bytes)) e
    where
      by : (x : Answer JobFile) → ◌≡◌ {A = Outcome} (record { answer = refuses r; work = work; out = o }) (find_outcome x (zeros work_bytes) out) → printed (some r) (refusal_bytes r) o ≡ printed (refusal_in x) (find_output x) out
      by (gives f) e = absurd (n (ap (λ (x : Refusal). x.number) (put-refuses (zeros (length (zeros work_bytes))) (found_bytes f) out o work r e).1))
      by (refuses q) e = told (zeros work_bytes) work out o r q e

-- ---- the verifier's program
module _ (input out o work : List ℕ) where
  pub verify_gives : (k : ℕ) → ◌≡◌ {A = Outcome} (record { answer = gives k; work = work; out = o }) (verify_call (take judged_bytes input) out)
      → ◌≡◌ {A = Printed} (record { refused = none; count = k; out = o }) (verify_printed input out)
  unfolding verify_call verify_program
  verify_gives k e = by (verify_asks (take judged_bytes input)) e
    where
      by : (x : Answer Bool) → ◌≡◌ {A = Outcome} (record { answer = gives k; work = work; out = o }) (outcome x (λ b. written kind_accepted []) out) → ◌≡◌ {A = Printed} (record { refused = none; count = k; out = o }) (printed (refusal_in x) (verify_output x) out)
      by (gives b) e = put-gives [] (written kind_accepted []) out o work k e
      by (refuses r) e = absurd (never (sym (ap (λ (x : Outcome). x.answer) e)))

  -- where 0014 does not fit, 001F does not
  pub verify_refuses : (r : Refusal) → ◌≡◌ {A = Outcome} (record { answer = refuses r; work = work; out = o }) (verify_call (take judged_bytes input) out)
      → printed (some r) (refusal_bytes r) o ≡ verify_printed input out
  unfolding verify_call verify_program
  verify_refuses r e = by (verify_asks (take judged_bytes input)) e
    where
      by : (x : Answer Bool) → ◌≡◌ {A = Outcome} (record { answer = refuses r; work = work; out = o }) (outcome x (λ b. written kind_accepted []) out) → printed (some r) (refusal_bytes r) o ≡ printed (refusal_in x) (verify_output x) out
      by (gives b) e =
          let (long, same, plain) = put-refuses [] (written kind_accepted []) out o work r e in
          let longer : length out < length (refusal_bytes r) = omega (arith, long, refusal_length r, written-length kind_accepted []) in
          rw plain (printed_long (some r) (refusal_bytes r) out longer ∙ sym (printed_long none (written kind_accepted []) out long))
      by (refuses q) e = told [] work out o r q e

-- ---- with a buffer that has room for any output
refusal_few : (r : Refusal) → length (refusal_bytes r) ≤ most_output
refusal_few r = omega (arith, refusal_length r)

-- all of it is written
room_printed : (refused : Option Refusal) (output out : List ℕ) → length output ≤ most_output → most_output ≤ length out
    → printed refused output out ≡ record { refused = refused; count = length output; out = output ++ drop (length output) out }
unfolding printed
room_printed refused output out h g = rw (le-leb (length output) (length out) (omega arith)) refl

-- so the programs, which lend such a buffer, never end with 20
pub find_tells : (input out : List ℕ) → most_output ≤ length out
    → find_printed input out ≡ record { refused = refusal_in (find_asks (take judged_bytes input) (zeros work_bytes)); count = length (find_program input); out = find_program input ++ drop (length (find_program input)) out }
unfolding find_program
find_tells input out room = room_printed (refusal_in (find_asks s w)) (find_output (find_asks s w)) out (by (find_asks s w) refl) room
  where
    s : List ℕ
    s = take judged_bytes input

    w : List ℕ
    w = zeros work_bytes

    by : (x : Answer JobFile) → find_asks s w ≡ x → length (find_output x) ≤ most_output
    by (gives f) q = found_fits f (job_asked s f (asked_find s w f q).0).few
    by (refuses r) q = refusal_few r

pub verify_tells : (input out : List ℕ) → most_output ≤ length out
    → verify_printed input out ≡ record { refused = refusal_in (verify_asks (take judged_bytes input)); count = length (verify_program input); out = verify_program input ++ drop (length (verify_program input)) out }
unfolding verify_program
verify_tells input out room = room_printed (refusal_in (verify_asks s)) (verify_output (verify_asks s)) out (by (verify_asks s)) room
  where
    s : List ℕ
    s = take judged_bytes input

    by : (x : Answer Bool) → length (verify_output x) ≤ most_output
    by (gives b) = omega (arith, written-length kind_accepted [])
    by (refuses r) = refusal_few r
