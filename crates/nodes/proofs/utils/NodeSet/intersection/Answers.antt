use Rattle.nodes.proofs.NodeSet.{member_and}
use Rattle.nodes.proofs.utils.NodeSet.intersection.Goals as goal

pub returns : goal.returns
returns g c = member_and g.row.WORDS _ _ _ c.merged.ensures.words
