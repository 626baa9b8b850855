use Rattle.std.proofs.Common.{◌≡◌, sym, ap, ◌∙◌}
use Rattle.answers.specs.Refusals.{given}
use Rattle.flows.specs.Branch.{branches}
use Rattle.flows.specs.Numbers.{measurement_number}
use Rattle.finder.proofs.BranchTable.{read_number, unread}
use Rattle.finder.proofs.branch.branches.Goals as goal

pub returns-in-Ok : goal.returns-in-Ok
returns-in-Ok c = c.branches.ensures ∙ ap branches (read_number _ _ (ap (given measurement_number) (sym c.in-Ok.is) ∙ c.try_from.ensures))

pub returns-in-Err : goal.returns-in-Err
returns-in-Err c = sym (unread _ _ (ap (given measurement_number) (sym c.in-Err.is) ∙ c.try_from.ensures))
