use Rattle.std.proofs.Common.{◌≡◌, ℕ, refl, sym, ap, ◌∙◌, arith, rules, length}
use mathlib.Core.Bool.{Bool}
use Rattle.nodes.proofs.NodeSet.{member_test, member_in_past, member_whole}
use Rattle.nodes.proofs.utils.NodeSet.has.Goals as goal

pub returns-then-v : goal.returns-then-v
returns-then-v g c =
    let l : length c.self.inside.words ≡ g.row.WORDS = search rules in
    rw (c.mask.ensures, ← c.self.view_is) (member_test _ _ _ refl ∙ ap (λ (f : ℕ → Bool). f c.args.v) (sym (member_whole g.row.WORDS c.self.inside.words l)))

pub returns : goal.returns
returns g c = sym (member_in_past g.row.WORDS c.args.self c.args.v (omega arith))
