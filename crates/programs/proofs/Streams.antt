-- Both streams of a program, from the proofs of its parts.
use Prim.Native.Nat.{ℕ, ◌≤◌}
use mathlib.Core.Path.{◌≡◌, refl, ap, ◌∙◌}
use mathlib.Core.Option.{Option}
use mathlib.Core.List.{List, []}
use native.Mathlib.Omega.{arith}
use borrow.Author.Tests.{le-leb}
use lib.ListN.{length}
use Rattle.answers.specs.Answer.{Refusal}
use Rattle.answers.specs.Message.{Written, put_whole}
use Rattle.answers.proofs.Lines.{written_few}
use Rattle.demands.specs.Programs.{Printed, printed, Streams, error_of, streams}
use Rattle.programs.proofs.Printing.{printed_few}

-- nothing is put
pub nothing_put : (out : List ℕ) → ◌≡◌ {A = Written} (record { count = 0; out = out }) (put_whole [] out)
unfolding put_whole
nothing_put out = rw (le-leb 0 (length out) (omega arith)) refl

pub streams_written : (p q : Printed) (w : Written) (error : List ℕ) → p ≡ q → w ≡ put_whole (error_of p.refused) error
    → ◌≡◌ {A = Streams} (record { output = record { count = p.count; out = p.out }; error = w }) (streams q error)
streams_written p q w error same line =
    ap {B = Streams} (λ (w : Written). record { output = record { count = p.count; out = p.out }; error = w }) line ∙ ap (λ (p : Printed). streams p error) same

-- what each count says lies in its buffer
pub streams_few : (refused : Option Refusal) (output out error : List ℕ) (b : Streams) → b ≡ streams (printed refused output out) error → (b.output.count ≤ length out) × (b.error.count ≤ length error)
streams_few refused output out error b e =
    let same : b.output.count ≡ (printed refused output out).count = ap (λ (b : Streams). b.output.count) e in
    let few : (printed refused output out).count ≤ length out = printed_few refused output out (printed refused output out) refl in
    (omega arith, written_few (error_of (printed refused output out).refused) error b.error (ap (λ (b : Streams). b.error) e))
