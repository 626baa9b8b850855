use mathlib.Core.Path.{fun_ext}
use Rattle.nodes.proofs.NodeSet.{member_empty}
use Rattle.nodes.proofs.utils.NodeSet+SET_WORDS.empty.Goals as goal

pub returns : goal.returns
returns c = fun_ext (member_empty 2)
