use Rattle.std.proofs.Common.{◌≡◌, ◌+◌, ◌^◌, ◌<◌, length, get_or, refl, sym, ap, ◌∙◌, arith, rules}
use Rattle.nodes.specs.Row.{count}
use Rattle.nodes.specs.NodeSet.{places, member_of}
use Rattle.nodes.proofs.Count.{count-le}
use Rattle.nodes.proofs.NodeSet.{member_whole}
use Rattle.nodes.proofs.NodeSetCount.{count_more}
use Rattle.nodes.proofs.utils.NodeSet.count.Goals as goal

pub loop-i-init : goal.loop-i-init
unfolding count
loop-i-init g c = record { so_far = refl; few = omega arith }

pub loop-i-preserved : goal.loop-i-preserved
loop-i-preserved g c =
    let small : get_or c.self.inside.words c.loop-i.i 0 < 2 ^ 64 = search (rules, arith) in
    let more = count_more c.self.inside.words c.loop-i.i small in
    let most = count-le (places (c.loop-i.i + 1)) (member_of c.self.inside.words) in
    record { so_far = omega (arith, more, c.loop-i.invariant.so_far); few = omega (arith, more, most, c.loop-i.invariant.so_far) }

pub returns : goal.returns
returns g c =
    let ws = c.self.inside.words in
    let l : length ws ≡ g.row.WORDS = search rules in
    let e : c.loop-i.i ≡ g.row.WORDS = omega arith in
    rw (← c.self.view_is) (c.loop-i.invariant.so_far ∙ ap (λ n. count (places n) (member_of ws)) e ∙ ap (count (places g.row.WORDS)) (sym (member_whole g.row.WORDS ws l)))
