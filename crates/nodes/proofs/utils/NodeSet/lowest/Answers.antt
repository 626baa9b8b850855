use Rattle.std.proofs.Common.{◌≡◌, ◌*◌, ◌+◌, ◌^◌, ◌<◌, length, get_or, sym, ap, ◌∙◌, arith, rules}
use lib.Count.{count_trailing_zeros}
use Rattle.nodes.specs.Row.{lowest}
use Rattle.nodes.specs.NodeSet.{word_bits, places, member_of}
use Rattle.nodes.proofs.Digits.{trailing_lowest}
use Rattle.nodes.proofs.NodeSet.{member_whole}
use Rattle.nodes.proofs.NodeSetCount.{lowest_in_word, lowest_in_none}
use Rattle.nodes.proofs.utils.NodeSet.lowest.Goals as goal

pub returns-then-words-i-ne0 : goal.returns-then-words-i-ne0
returns-then-words-i-ne0 g c =
    let ws = c.self.inside.words in
    let l : length ws ≡ g.row.WORDS = search rules in
    let small : get_or ws c.loop-i.i 0 < 2 ^ 64 = search (rules, arith) in
    let e = lowest_in_word g.row.WORDS ws c.loop-i.i (omega arith) c.if-words-i-ne0.true small c.loop-i.invariant in
    let r : word_bits * c.loop-i.i + count_trailing_zeros 64 (get_or ws c.loop-i.i 0) ≡ lowest (places g.row.WORDS) (member_of ws) = omega (arith, e, trailing_lowest 64 (get_or ws c.loop-i.i 0)) in
    rw (← c.self.view_is) (r ∙ ap (lowest (places g.row.WORDS)) (sym (member_whole g.row.WORDS ws l)))

pub returns : goal.returns
returns g c =
    let ws = c.self.inside.words in
    let l : length ws ≡ g.row.WORDS = search rules in
    let e = lowest_in_none g.row.WORDS ws (λ j h. c.loop-i.invariant j (omega arith)) in
    let r : word_bits * g.row.WORDS ≡ lowest (places g.row.WORDS) (member_of ws) = omega (arith, e) in
    rw (← c.self.view_is) (r ∙ ap (lowest (places g.row.WORDS)) (sym (member_whole g.row.WORDS ws l)))
