use mathlib.Core.Path.{sym, ap, ◌∙◌}
use Rattle.answers.specs.Answer.{gives, refuses, Refusal}
use Rattle.answers.specs.Refusals.{refusal_of, question_of, given}
use Rattle.records.specs.Records.{in_two_bytes}
use Rattle.demands.specs.Programs.{refusal_bytes, Printed}
use Rattle.programs.specs.declared.output.Output.{Output}
use Rattle.programs.specs.Printing.{output_of}
use Rattle.std.proofs.Math.Option.{some}
use Rattle.programs.proofs.Printing.{refusal_put}
use Rattle.programs.proofs.output.write_refusal.Goals as goal

pub returns-in-Ok : goal.returns-in-Ok
unfolding in_two_bytes
returns-in-Ok c =
    let r = refusal_of c.args.q in
    let w = c.write_record in
    ap (λ (x : Output). output_of x w.new.out) c.refused.ensures ∙ refusal_put r (gives c.in-Ok.k) (refusal_bytes r) _ w.new.out (sym (ap (given (λ k. k)) c.in-Ok.is) ∙ w.ensures.result_value) w.ensures.out_after

pub returns-in-Err : goal.returns-in-Err
unfolding in_two_bytes
returns-in-Err c =
    let r = refusal_of c.args.q in
    let w = c.write_record in
    ap (λ (x : Output). output_of x w.new.out) c.refused-in-Err.ensures
    ∙ ap (λ (q : Refusal). record { refused = some q; count = 0; out = w.new.out }) c.from.ensures
    ∙ refusal_put r (refuses (question_of c.in-Err.short)) (refusal_bytes r) _ w.new.out (sym (ap (given (λ k. k)) c.in-Err.is) ∙ w.ensures.result_value) w.ensures.out_after
