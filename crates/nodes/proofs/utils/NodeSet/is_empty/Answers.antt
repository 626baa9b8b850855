use Rattle.std.proofs.Common.{◌≡◌, ℕ, not, ◌^◌, ◌<◌, length, get_or, sym, ap, ◌∙◌, arith, rules}
use mathlib.Core.Bool.{Bool}
use Rattle.nodes.specs.Row.{any_below}
use Rattle.nodes.specs.NodeSet.{places}
use Rattle.nodes.proofs.NodeSet.{member_whole}
use Rattle.nodes.proofs.NodeSetCount.{some_here, any_in_none}
use Rattle.nodes.proofs.Logic.{is_true}
use Rattle.nodes.proofs.utils.NodeSet.is_empty.Goals as goal

pub returns : goal.returns
returns g c =
    let ws = c.self.inside.words in
    let l : length ws ≡ g.row.WORDS = search rules in
    let e : c.loop-i.i ≡ g.row.WORDS = omega arith in
    rw (← c.self.view_is) (sym (ap (λ (s : ℕ → Bool). not (any_below (places g.row.WORDS) s)) (member_whole g.row.WORDS ws l) ∙ ap not (any_in_none g.row.WORDS ws (λ j h. c.loop-i.invariant j (omega arith)))))

pub returns-then-words-i-ne0 : goal.returns-then-words-i-ne0
returns-then-words-i-ne0 g c =
    let ws = c.self.inside.words in
    let l : length ws ≡ g.row.WORDS = search rules in
    let small : get_or ws c.loop-i.i 0 < 2 ^ 64 = search (rules, arith) in
    rw (← c.self.view_is) (sym (ap (λ (s : ℕ → Bool). not (any_below (places g.row.WORDS) s)) (member_whole g.row.WORDS ws l) ∙ ap not (is_true _ (some_here g.row.WORDS ws c.loop-i.i (omega arith) c.if-words-i-ne0.true small))))
