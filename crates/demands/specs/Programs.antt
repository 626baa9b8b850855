-- The two programs: what each writes for the bytes of its standard input, and what of it goes into lent buffers.
use Rattle.std.specs.Prelude.{ℕ, cond, List, [], ◌∷◌, ◌++◌, leb, length, take, drop}
use Rattle.std.proofs.Math.Option.{Option, none, some}
use Rattle.answers.specs.Answer.{Refusal, Answer, gives, refuses, refusal}
use Rattle.answers.specs.Message.{line, Written, put_whole}
use Rattle.records.specs.Records.{written, kind_accepted, kind_refusal, in_two_bytes}
use Rattle.records.specs.JobFile.{JobFile}
use Rattle.nodes.specs.Lists.{zeros}
use Rattle.solver.specs.Solver.{work_bytes}
use Rattle.demands.specs.Calls.{found_bytes, find_asks, verify_asks}

-- each judges the first 65,536 bytes
abbrev pub judged_bytes : ℕ
judged_bytes = 65536

-- 001F: refusal number and a, a byte each, and b in two
abbrev pub refusal_bytes : Refusal → List ℕ
refusal_bytes r = written kind_refusal (r.number ∷ r.a ∷ in_two_bytes (r.b ∷ []))

abbrev pub find_output : Answer JobFile → List ℕ
find_output (gives f) = found_bytes f
find_output (refuses r) = refusal_bytes r

-- a flow file, 0013 or 001F
unfoldable pub find_program : List ℕ → List ℕ
find_program input = find_output (find_asks (take judged_bytes input) (zeros work_bytes))

abbrev pub verify_output : {A : Type 0} → Answer A → List ℕ
verify_output (gives b) = written kind_accepted []
verify_output (refuses r) = refusal_bytes r

-- 0014 or 001F
unfoldable pub verify_program : List ℕ → List ℕ
verify_program input = verify_output (verify_asks (take judged_bytes input))

-- ---- in lent buffers: the whole output at the front of its buffer, or 20 where it is longer
-- the refusal, none for a result; how many bytes were written; the buffer
pub record Printed : Type 0 where
  pub refused : Option Refusal
  pub count : ℕ
  pub out : List ℕ

-- the writer's question
abbrev pub too_long : ℕ
too_long = 20

-- does the output fit the lent buffer (20)? Where it does not, nothing is written, 001F neither.
unfoldable pub printed : Option Refusal → (output out : List ℕ) → Printed
printed refused output out =
    cond (leb (length output) (length out))
    (record { refused = refused; count = length output; out = output ++ drop (length output) out })
    (record { refused = some (refusal too_long); count = 0; out = out })

abbrev pub refusal_in : {A : Type 0} → Answer A → Option Refusal
refusal_in (gives a) = none
refusal_in (refuses r) = some r

abbrev pub find_printed : (input out : List ℕ) → Printed
find_printed input out = printed (refusal_in (find_asks (take judged_bytes input) (zeros work_bytes))) (find_program input) out

abbrev pub verify_printed : (input out : List ℕ) → Printed
verify_printed input out = printed (refusal_in (verify_asks (take judged_bytes input))) (verify_program input) out

-- ---- both streams, each in its lent buffer, with the count of its bytes
pub record Streams : Type 0 where
  pub output : Written
  pub error : Written

-- with a refusal its line in words; a result has no line
abbrev pub error_of : Option Refusal → List ℕ
error_of none = []
error_of (some r) = line r

abbrev pub streams : Printed → (error : List ℕ) → Streams
streams p error = record { output = record { count = p.count; out = p.out }; error = put_whole (error_of p.refused) error }

abbrev pub find_streams : (input output error : List ℕ) → Streams
find_streams input output error = streams (find_printed input output) error

abbrev pub verify_streams : (input output error : List ℕ) → Streams
verify_streams input output error = streams (verify_printed input output) error
