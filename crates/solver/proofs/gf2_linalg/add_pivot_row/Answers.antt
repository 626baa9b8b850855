use borrow.Author.Tests.{eq-eqb, ne_eqb}
use Rattle.solver.specs.Steps.{add_pivot_row}
use Rattle.solver.proofs.gf2_linalg.add_pivot_row.Goals as goal

pub returns-then-p-rank : goal.returns-then-p-rank
unfolding add_pivot_row
returns-then-p-rank c = simp (eq-eqb _ _ c.if-p-rank.true)

pub returns : goal.returns
unfolding add_pivot_row
returns c = simp (ne_eqb _ _ c.if-p-rank.false) c.xor_row.ensures
