use Prim.Native.Nat.{◌%◌}
use Rattle.nodes.proofs.MaskTable.{masks_rule}
use Rattle.nodes.proofs.NodeSet.{in_word}
use Rattle.nodes.proofs.utils.mask.Goals as goal

pub returns : goal.returns
returns c = masks_rule (c.args.v % 64) (in_word c.args.v)
