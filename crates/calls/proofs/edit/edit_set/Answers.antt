use mathlib.Core.Path.{refl, sym, ap, ◌∙◌}
use mathlib.Core.Bool.{not}
use borrow.Author.Tests.{not-true, not-false}
use Rattle.answers.specs.Refusals.{given, passed}
use Rattle.calls.specs.Loaded.{both_held}
use Rattle.demands.specs.Calls.{owner}
use Rattle.demands.specs.Roles.{editing}
use Rattle.demands.proofs.Roles.{open_to_both}
use Rattle.calls.proofs.Editing.{edit_not_one, edit_goes}
use Rattle.calls.proofs.edit.edit_set.Goals as goal

pub returns-then-not-one_each : goal.returns-then-not-one_each
returns-then-not-one_each c =
    let a = c.args in
    let read = sym c.read_both.ensures.result_value ∙ ap (given both_held) c.in_ok-job.was in
    edit_not_one a.file.now a.out.now a.entry.now _ _ read (sym (ap passed c.in_ok-ask_entry.was) ∙ c.ask_entry.ensures) (sym c.one_each.ensures ∙ not-true _ (ap not c.if-not-one_each.true))
    ∙ open_to_both (editing a.entry.now a.out.now) a.file.now refl owner a.role

pub returns : goal.returns
returns c =
    let a = c.args in
    let read = sym c.read_both.ensures.result_value ∙ ap (given both_held) c.in_ok-job.was in
    c.edit_read.ensures ∙ edit_goes a.file.now a.out.now a.entry.now _ _ read (sym (ap passed c.in_ok-ask_entry.was) ∙ c.ask_entry.ensures) (sym c.one_each.ensures ∙ not-false _ (ap not c.if-not-one_each.false))
    ∙ open_to_both (editing a.entry.now a.out.now) a.file.now refl owner a.role
