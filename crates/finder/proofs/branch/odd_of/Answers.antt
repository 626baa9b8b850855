use mathlib.Core.Path.{sym, ◌∙◌}
use Rattle.nodes.specs.NodeSet.{member}
use Rattle.solver.proofs.BasisTables.{only_in}
use Rattle.flows.specs.Branch.{in_odd}
use Rattle.flows.specs.Numbers.{branch_number}
use Rattle.finder.proofs.Tries.{odd_one, odd_none}
use Rattle.finder.proofs.branch.odd_of.Goals as goal

pub returns-then-in_odd : goal.returns-then-in_odd
returns-then-in_odd c =
    let a = c.args in
    odd_one (member c.with.result) a.u (in_odd (branch_number a.b)) (sym c.in_odd.ensures ∙ c.if-in_odd.true) (only_in (member c.empty-none.result) (member c.with.result) a.u c.requires c.empty-none.ensures c.with.ensures)

pub returns : goal.returns
returns c = let a = c.args in odd_none (member c.empty-none.result) a.u (in_odd (branch_number a.b)) (sym c.in_odd.ensures ∙ c.if-in_odd.false) c.empty-none.ensures
