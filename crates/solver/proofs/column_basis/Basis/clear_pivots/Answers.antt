use Rattle.std.proofs.Common.{◌≡◌}
use Rattle.solver.proofs.BasisTables.{only_in}
use Rattle.solver.proofs.BasisForms.{remains}
use Rattle.solver.proofs.column_basis.Basis.clear_pivots.Goals as goal

pub returns : goal.returns
returns c =
    let b = c.args.self.now in
    remains (record { pivots = b.pivots; free = b.free }) b.reduced.now b.preimage.now b.kernel.now c.args.c c.set_at-a.result c.intersection-s.result c.odd_neighbors.result c.odd_neighbors-2.result c.with.result c.xor.result c.xor-2.result
    c.set_at-a.ensures c.intersection-s.ensures c.odd_neighbors.ensures c.xor.ensures c.odd_neighbors-2.ensures c.xor-2.ensures (only_in _ _ c.args.c c.requires c.empty.ensures c.with.ensures)
