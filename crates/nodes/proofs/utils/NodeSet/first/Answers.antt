use Rattle.std.proofs.Common.{ℕ, Bool, not, ◌&&◌, ap, ◌∙◌}
use mathlib.Core.Path.{fun_ext}
use Rattle.nodes.specs.Row.{lowest}
use Rattle.nodes.specs.NodeSet.{places, member_in}
use Rattle.nodes.proofs.Remove.{least_alone}
use Rattle.nodes.proofs.utils.NodeSet.first.Goals as goal

pub returns : goal.returns
returns g c =
    let s = member_in g.row.WORDS c.args.self in
    c.difference.ensures ∙ ap {B = ℕ → Bool} (λ (f : ℕ → Bool) (u : ℕ). s u && not (f u)) c.without_lowest.ensures
    ∙ fun_ext (λ u. least_alone s (lowest (places g.row.WORDS) s) u)
