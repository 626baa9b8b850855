use Rattle.std.proofs.Common.{◌≡◌, length, sym, ◌∙◌, rules}
use Rattle.nodes.proofs.NodeSet.{member_whole}
use Rattle.nodes.proofs.Left.{left_start}
use Rattle.nodes.proofs.utils.NodeSet.iter.Goals as goal

pub returns : goal.returns
returns g c =
    let ws = c.self.inside.words in
    let l : length ws ≡ g.row.WORDS = search rules in
    rw (← c.self.view_is) (left_start ws ∙ sym (member_whole g.row.WORDS ws l))
