use Rattle.std.proofs.Common.{◌≡◌, ◌∙◌, ℕ, refl, sym, ap, arith}
use Rattle.nodes.specs.Row.{all_below}
use Rattle.nodes.specs.NodeSet.{member}
use Rattle.angles.specs.AngleRecord.{angles_allowed}
use Rattle.angles.proofs.AngleRecord.{allowed_at, all_next, all_fails}
use Rattle.angles.proofs.all_allowed.Goals as goal

pub loop-u-init : goal.loop-u-init
unfolding all_below
loop-u-init c = refl

pub returns-then-not-entry_allowed : goal.returns-then-not-entry_allowed
unfolding angles_allowed
returns-then-not-entry_allowed c =
    let a = c.args in
    sym (all_fails a.n (allowed_at (member a.outputs) a.angles.now) c.loop-u.u (omega arith) (cc c.if-not-entry_allowed.true))

pub loop-u-preserved : goal.loop-u-preserved
loop-u-preserved c =
    let a = c.args in
    all_next c.loop-u.u (allowed_at (member a.outputs) a.angles.now) c.loop-u.invariant (cc c.if-not-entry_allowed.false)

pub returns : goal.returns
unfolding angles_allowed
returns c =
    let a = c.args in
    let e : a.n ≡ c.loop-u.u = omega arith in
    sym (ap (λ (k : ℕ). all_below k (allowed_at (member a.outputs) a.angles.now)) e ∙ c.loop-u.invariant)
