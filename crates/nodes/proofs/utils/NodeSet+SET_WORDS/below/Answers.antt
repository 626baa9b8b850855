use Rattle.std.proofs.Common.{◌-◌, ◌%◌, ap, arith}
use lib.Pow.{pow_pos}
use Rattle.nodes.proofs.NodeSet.{member_front}
use Rattle.nodes.proofs.utils.NodeSet+SET_WORDS.below.Goals as goal

pub overflow_sub-front : goal.overflow_sub-front
overflow_sub-front c = omega (arith, c.mask-front.ensures, pow_pos (c.args.n % 64))

pub returns : goal.returns
returns c = member_front 2 (omega arith) _ _ _ (ap (λ x. x - 1) c.mask-front.ensures) (λ q h. c.loop-i.invariant.done q (omega arith))
