use Rattle.nodes.proofs.NodeSet.{member_xor}
use Rattle.nodes.proofs.utils.NodeSet.xor.Goals as goal

pub returns : goal.returns
returns g c = member_xor g.row.WORDS _ _ _ c.merged.ensures.words
