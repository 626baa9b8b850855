use Prim.Native.Nat.{ℕ}
use mathlib.Core.Path.{sym, ap, ◌∙◌}
use mathlib.Core.List.{List}
use Rattle.nodes.specs.Lists.{zeros}
use Rattle.solver.specs.Solver.{work_bytes}
use Rattle.answers.specs.Refusals.{refusal_of}
use Rattle.demands.specs.Calls.{Outcome, find_call}
use Rattle.demands.specs.Programs.{judged_bytes}
use Rattle.std.specs.Prelude.{Result}
use Rattle.answers.specs.declared.Refusal as Code
use Rattle.answers.specs.Answer.{Refusal, refuses}
use Rattle.programs.specs.declared.output.Output.{Output}
use Rattle.calls.specs.Replies.{reply_of}
use Rattle.programs.specs.Printing.{output_of}
use Rattle.programs.proofs.Printing.{first_bytes, find_gives, find_20, find_refuses}
use Rattle.programs.proofs.output.find_bytes.Goals as goal

pub returns-then-record-eq-TOO_LONG : goal.returns-then-record-eq-TOO_LONG
returns-then-record-eq-TOO_LONG c = let a = c.args in
    let r = c.find in
    let j = c.min-n in
    let o = r.new.out in
    let here = ap {B = Outcome} (λ (x : Result ℕ Code.Refusal). record { answer = reply_of x; work = r.new.work; out = o }) (sym c.in-Err.is) in
    let told = ap {B = Outcome} (λ (z : Refusal). record { answer = refuses z; work = r.new.work; out = o }) c.from-record.ensures in
    let call = told ∙ here ∙ r.ensures ∙ ap (λ (s : List ℕ). find_call s (zeros work_bytes) a.out.now) (first_bytes judged_bytes j.result a.input.now j.ensures) in
    ap (λ (x : Output). output_of x o) c.refused.ensures ∙ find_20 a.input.now a.out.now o r.new.work (refusal_of c.from-record.result) c.if-record-eq-TOO_LONG.true call

pub returns-in-Ok : goal.returns-in-Ok
returns-in-Ok c = let a = c.args in
    let r = c.find in
    let j = c.min-n in
    let o = r.new.out in
    let here = ap {B = Outcome} (λ (x : Result ℕ Code.Refusal). record { answer = reply_of x; work = r.new.work; out = o }) (sym c.in-Ok.is) in
    let call = here ∙ r.ensures ∙ ap (λ (s : List ℕ). find_call s (zeros work_bytes) a.out.now) (first_bytes judged_bytes j.result a.input.now j.ensures) in
    ap (λ (x : Output). output_of x o) c.wrote.ensures ∙ find_gives a.input.now a.out.now o r.new.work c.in-Ok.k call

pub returns-else-record-eq-TOO_LONG : goal.returns-else-record-eq-TOO_LONG
returns-else-record-eq-TOO_LONG c = let a = c.args in
    let r = c.find in
    let j = c.min-n in
    let o = r.new.out in
    let here = ap {B = Outcome} (λ (x : Result ℕ Code.Refusal). record { answer = reply_of x; work = r.new.work; out = o }) (sym c.in-Err.is) in
    let told = ap {B = Outcome} (λ (z : Refusal). record { answer = refuses z; work = r.new.work; out = o }) c.from-record.ensures in
    let call = told ∙ here ∙ r.ensures ∙ ap (λ (s : List ℕ). find_call s (zeros work_bytes) a.out.now) (first_bytes judged_bytes j.result a.input.now j.ensures) in
    c.write_refusal.ensures ∙ find_refuses a.input.now a.out.now o r.new.work (refusal_of c.from-record.result) c.if-record-eq-TOO_LONG.false call
