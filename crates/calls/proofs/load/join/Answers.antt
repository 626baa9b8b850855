use native.Mathlib.Omega.{arith}
use Rattle.calls.proofs.LoadingEdges.{put_digit}
use Rattle.calls.proofs.load.join.Goals as goal

pub returns : goal.returns
returns c u v =
    rw c.mask.ensures (put_digit c.args.graph.now c.args.a c.args.b (omega arith) c.requires.2 u v)
