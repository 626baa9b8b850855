use Rattle.std.proofs.Common.{◌≡◌, ◌<◌, ◌^◌, ℕ, Bool, List, length, get_or, refl, sym, ap, ◌∙◌, subst, arith, rules}
use lib.ListN.{length-set}
use Rattle.nodes.specs.Row.{lowest}
use Rattle.nodes.specs.NodeSet.{places, member_in}
use Rattle.nodes.proofs.Remove.{removed}
use Rattle.nodes.proofs.NodeSet.{member_whole}
use Rattle.nodes.proofs.Left.{first_dropped, none_dropped}
use Rattle.nodes.proofs.utils.NodeSet.without_lowest.Goals as goal

pub returns-then-self-i-ne0 : goal.returns-then-self-i-ne0
returns-then-self-i-ne0 g c =
    let w = g.row.WORDS in
    let i = c.loop-i.i in
    let ws = c.self-in-loop-i.inside.words in
    let l : length ws ≡ w = search rules in
    let small : get_or ws i 0 < 2 ^ 64 = search (rules, arith) in
    let e : ws ≡ c.args.self = c.self-in-loop-i.view_is ∙ c.loop-i.invariant.same in
    rw (← e)
    (member_whole w _ (length-set ws i _ ∙ l)
    ∙ first_dropped w ws i (get_or ws i 0) l c.loop-i-test.true (λ j h. subst (λ (x : List ℕ). get_or x j 0 ≡ 0) (sym c.self-in-loop-i.view_is) (c.loop-i.invariant.none j h)) refl c.if-self-i-ne0.true small
    ∙ ap (λ (s : ℕ → Bool). removed s (lowest (places w) s)) (sym (member_whole w ws l)))

pub returns : goal.returns
returns g c =
    let w = g.row.WORDS in
    let ws = c.self.inside.words in
    let l : length ws ≡ w = search rules in
    let k = lowest (places w) (member_in w ws) in
    let e : c.loop-i.self ≡ ws = c.loop-i.invariant.same ∙ sym c.self.view_is in
    rw (e, ← c.self.view_is)
    (member_whole w ws l
    ∙ none_dropped w ws k l (λ j h. subst (λ (x : List ℕ). get_or x j 0 ≡ 0) e (c.loop-i.invariant.none j (omega (arith, c.loop-i-test.false))))
    ∙ ap (λ (s : ℕ → Bool). removed s k) (sym (member_whole w ws l)))
