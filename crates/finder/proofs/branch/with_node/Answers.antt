use mathlib.Core.Path.{sym, ◌∙◌}
use Rattle.nodes.specs.NodeSet.{member}
use Rattle.solver.proofs.BasisTables.{with_in}
use Rattle.flows.specs.Numbers.{branch_number}
use Rattle.finder.proofs.Tries.{own_in, own_out}
use Rattle.finder.proofs.branch.with_node.Goals as goal

pub returns-then-in_set : goal.returns-then-in_set
returns-then-in_set c = let a = c.args in own_in a.f c.in_ok-x.x c.with.result a.u (branch_number a.b) c.in_ok-x.was (sym c.in_set.ensures ∙ c.if-in_set.true) (with_in (member c.in_ok-x.x) (member c.with.result) a.u c.requires c.with.ensures)

pub returns : goal.returns
returns c = let a = c.args in own_out a.f c.in_ok-x.x a.u (branch_number a.b) c.in_ok-x.was (sym c.in_set.ensures ∙ c.if-in_set.false)
