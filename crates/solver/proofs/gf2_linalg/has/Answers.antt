use Rattle.nodes.proofs.Bit.{test_shift}
use Rattle.solver.specs.WorkMatrix.{entry_of}
use Rattle.solver.proofs.gf2_linalg.has.Goals as goal

pub returns : goal.returns
unfolding entry_of
returns c = test_shift _ _
