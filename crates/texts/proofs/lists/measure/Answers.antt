use Rattle.std.proofs.Common.{◌≡◌, ◌+◌, ℕ, List, drop, sym, ap, ◌∙◌}
use Rattle.std.specs.Prelude.{Result}
use Rattle.std.proofs.lemmas.Result.{err_from_is_err_and}
use Rattle.answers.specs.Answer.{Answer, ◌>>=◌}
use Rattle.answers.specs.declared.Refusal.{Refusal}
use Rattle.texts.specs.JobText.{measured}
use Rattle.texts.specs.Views.{bytes_of, table_in}
use Rattle.texts.specs.declared.names.Name.TheVariants.{Nodes}
use Rattle.texts.proofs.Numbers.{measured_more, measured_last}
use Rattle.texts.proofs.lists.measure.Goals.{After-measure_one}
use Rattle.texts.proofs.lists.measure.Goals as goal

-- the number at this place measured, and those behind it
step : (c : After-measure_one) → let l = c.loop-number in let a = c.args in let m = c.measure_one in (table_in m.result m.new.table >>= measured (bytes_of (drop (l.number-index + 1) a.numbers.now))) ≡ measured (bytes_of a.numbers.now) a.table.now
step c =
    let l = c.loop-number in
    let a = c.args in
    ap (λ (t : Answer (List ℕ)). t >>= measured (bytes_of (drop (l.number-index + 1) a.numbers.now))) c.measure_one.ensures.table_after
    ∙ sym (measured_more a.numbers.now l.number-index (Nodes, 0) c.loop-number-test.true l.table)
    ∙ l.invariant.1

pub returns-in_err-measure_one-clause-table_after : goal.returns-in_err-measure_one-clause-table_after
returns-in_err-measure_one-clause-table_after c =
    let m = c.measure_one in
    let p = err_from_is_err_and c.from_residual.result c.from_residual.ensures.1 in
    rw (p.1, p.2) (sym (ap (λ (k : Result Unit Refusal). table_in k m.new.table >>= measured (bytes_of (drop (c.loop-number.number-index + 1) c.args.numbers.now))) c.in_err-measure_one.was) ∙ step (goal.at.returns-in_err-measure_one-clause-table_after c).After-measure_one)

pub loop-number-preserved : goal.loop-number-preserved
loop-number-preserved c =
    let l = c.loop-number in
    let m = c.measure_one in
    (m.ensures.table_len_unchanged ∙ l.invariant.0, sym (ap (λ (k : Result Unit Refusal). table_in k m.new.table >>= measured (bytes_of (drop (l.number-index + 1) c.args.numbers.now))) c.in_ok-measure_one.was) ∙ step (goal.at.loop-number-preserved c).After-measure_one)

pub returns-clause-table_after : goal.returns-clause-table_after
returns-clause-table_after c = let l = c.loop-number in sym (measured_last c.args.numbers.now l.number-index l.table c.loop-number-test.false) ∙ l.invariant.1
