use Rattle.std.proofs.Common.{◌+◌, ℕ, drop, sym, ap, ◌∙◌}
use Rattle.std.proofs.Math.Option.{Option, some}
use Rattle.texts.specs.Words.{with_digits}
use Rattle.texts.specs.Views.{value_in}
use Rattle.texts.proofs.Values.{digits_next, digits_end, digits-none}
use Rattle.texts.proofs.words.value_of.Goals as goal

pub loop-c-preserved : goal.loop-c-preserved
loop-c-preserved c =
    let l = c.loop-c in
    let s = c.args.digits.now in
    ap (λ (v : Option ℕ). with_digits v (drop (l.c-index + 1) s)) c.in_ok-v.ensures ∙ sym (digits_next (some l.v) s l.c-index c.loop-c-test.true) ∙ l.invariant

pub returns-in_err-v : goal.returns-in_err-v
returns-in_err-v c =
    let l = c.loop-c in
    let s = c.args.digits.now in
    ap value_in c.from_residual.ensures
    ∙ sym (sym l.invariant ∙ digits_next (some l.v) s l.c-index c.loop-c-test.true ∙ ap (λ (v : Option ℕ). with_digits v (drop (l.c-index + 1) s)) (sym c.in_err-v.ensures) ∙ digits-none (drop (l.c-index + 1) s))

pub returns : goal.returns
returns c = let l = c.loop-c in sym (digits_end (some l.v) c.args.digits.now l.c-index c.loop-c-test.false) ∙ l.invariant
