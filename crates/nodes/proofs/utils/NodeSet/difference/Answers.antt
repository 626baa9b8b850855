use Rattle.nodes.proofs.NodeSet.{member_minus}
use Rattle.nodes.proofs.utils.NodeSet.difference.Goals as goal

pub returns : goal.returns
returns g c = member_minus g.row.WORDS _ _ _ c.merged.ensures.small c.merged.ensures.words
