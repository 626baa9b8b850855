use native.Mathlib.Omega.{arith}
use Rattle.records.proofs.Splice.{set-splice}
use Rattle.records.proofs.writer.put_byte.Goals as goal

pub returns : goal.returns
returns c = set-splice c.args.out.now c.args.at c.args.x (omega arith)
