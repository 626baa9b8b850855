use Rattle.std.proofs.Common.{ℕ, Bool, not, ◌&&◌, ap, ◌∙◌}
use mathlib.Core.Path.{fun_ext}
use Rattle.nodes.specs.NodeSet.{member_in}
use Rattle.nodes.proofs.NodeSet.{member_without}
use Rattle.nodes.proofs.utils.NodeSet.without.Goals as goal

pub returns : goal.returns
returns g c =
    let s = member_in g.row.WORDS c.args.self in
    c.difference.ensures ∙ ap {B = ℕ → Bool} (λ (f : ℕ → Bool) (u : ℕ). s u && not (f u)) c.only.ensures
    ∙ fun_ext (member_without g.row.WORDS c.self.invariant.0 c.args.self c.args.v)
