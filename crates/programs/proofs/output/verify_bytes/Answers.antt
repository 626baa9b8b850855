use Prim.Native.Nat.{ℕ}
use mathlib.Core.Path.{sym, ap, ◌∙◌}
use mathlib.Core.List.{List, []}
use Rattle.answers.specs.Refusals.{refusal_of}
use Rattle.demands.specs.Calls.{Outcome, verify_call}
use Rattle.demands.specs.Programs.{judged_bytes}
use Rattle.std.specs.Prelude.{Result}
use Rattle.answers.specs.declared.Refusal as Code
use Rattle.answers.specs.Answer.{Refusal, refuses}
use Rattle.programs.specs.declared.output.Output.{Output}
use Rattle.calls.specs.Replies.{reply_of}
use Rattle.programs.specs.Printing.{output_of}
use Rattle.programs.proofs.Printing.{first_bytes, verify_gives, verify_refuses}
use Rattle.programs.proofs.output.verify_bytes.Goals as goal

pub returns-in-Ok : goal.returns-in-Ok
returns-in-Ok c = let a = c.args in
    let r = c.verify in
    let j = c.min-n in
    let o = r.new.out in
    let here = ap {B = Outcome} (λ (x : Result ℕ Code.Refusal). record { answer = reply_of x; work = []; out = o }) (sym c.in-Ok.is) in
    let call = here ∙ r.ensures ∙ ap (λ (s : List ℕ). verify_call s a.out.now) (first_bytes judged_bytes j.result a.input.now j.ensures) in
    ap (λ (x : Output). output_of x o) c.wrote.ensures ∙ verify_gives a.input.now a.out.now o [] c.in-Ok.k call

pub returns-in-Err : goal.returns-in-Err
returns-in-Err c = let a = c.args in
    let r = c.verify in
    let j = c.min-n in
    let o = r.new.out in
    let here = ap {B = Outcome} (λ (x : Result ℕ Code.Refusal). record { answer = reply_of x; work = []; out = o }) (sym c.in-Err.is) in
    let told = ap {B = Outcome} (λ (z : Refusal). record { answer = refuses z; work = []; out = o }) c.from.ensures in
    let call = told ∙ here ∙ r.ensures ∙ ap (λ (s : List ℕ). verify_call s a.out.now) (first_bytes judged_bytes j.result a.input.now j.ensures) in
    c.write_refusal.ensures ∙ verify_refuses a.input.now a.out.now o [] (refusal_of c.from.result) call
