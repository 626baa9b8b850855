use Rattle.std.proofs.Common.{◌≡◌, ◌↔◌, ℕ, length, sym, ap₂, ◌∙◌, arith, rules}
use mathlib.Core.Bool.{Bool, not}
use lib.Dec.{T}
use Rattle.nodes.specs.Bit.{◌⊕◌}
use Rattle.nodes.specs.Row.{all_below}
use Rattle.nodes.specs.NodeSet.{places}
use Rattle.nodes.proofs.NodeSet.{member_whole}
use Rattle.nodes.proofs.NodeSetCount.{member_same}
use Rattle.nodes.proofs.utils.NodeSet.same.Goals as goal

pub returns : goal.returns
returns g c =
    let us = c.self.inside.words in
    let vs = c.o.inside.words in
    let d : length us ≡ g.row.WORDS = search rules in
    let e : length vs ≡ g.row.WORDS = search rules in
    let same : T c.eq.result ↔ (c.args.self ≡ c.args.o) = search rules in
    rw (← c.self.view_is, ← c.o.view_is) (member_same g.row.WORDS us vs d e (λ q. search (rules, arith)) (λ q. search (rules, arith)) _ (rw (← c.self.view_is, ← c.o.view_is) at same).0 (rw (← c.self.view_is, ← c.o.view_is) at same).1
    ∙ ap₂ (λ (s t : ℕ → Bool). all_below (places g.row.WORDS) (λ u. not (s u ⊕ t u))) (sym (member_whole g.row.WORDS us d)) (sym (member_whole g.row.WORDS vs e)))
