use Rattle.nodes.specs.NodeSet.{member}
use Rattle.solver.proofs.BasisTables.{only_in}
use Rattle.finder.proofs.WorkMatrix.{row_lower, row_upper}
use Rattle.finder.proofs.matrix.row_of.Goals as goal

pub returns-then-lower : goal.returns-then-lower
returns-then-lower c =
    let a = c.args in
    row_lower a.transposed.now a.v a.lower (member c.set_at-near.result) (member c.with.result) (member c.xor.result) c.if-lower.true c.set_at-near.ensures (only_in (member c.empty.result) (member c.with.result) a.v c.requires c.empty.ensures c.with.ensures) c.xor.ensures

pub returns : goal.returns
returns c = let a = c.args in row_upper a.transposed.now a.v a.lower (member c.set_at-near.result) c.if-lower.false c.set_at-near.ensures
