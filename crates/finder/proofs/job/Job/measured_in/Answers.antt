use mathlib.Core.Path.{◌≡◌, ap, ◌∙◌}
use mathlib.Core.Bool.{Bool, ◌||◌, ◌&&◌}
use Prim.Native.Nat.{ℕ}
use native.Mathlib.Omega.{arith}
use lib.Dec.{eqb, ltb}
use lib.ListN.{get_or}
use Rattle.nodes.specs.NodeSet.{member}
use Rattle.finder.proofs.Searches.{none_yet, one_more}
use Rattle.finder.proofs.job.Job.measured_in.Goals as goal

pub loop-u-init : goal.loop-u-init
loop-u-init c = c.empty-found.ensures ∙ none_yet _

pub loop-u-preserved : goal.loop-u-preserved
loop-u-preserved c =
    let a = c.args in
    let l = c.loop-u in
    c.with_if-found.ensures ∙ one_more l.u (λ u. eqb (get_or a.self.now.measured.now u 0) a.a || eqb (get_or a.self.now.measured.now u 0) a.b) (member l.found) c.is_either.result l.invariant c.is_either.ensures

pub returns : goal.returns
returns c =
    let a = c.args in
    let l = c.loop-u in
    let e : l.u ≡ a.self.now.n = omega arith in
    l.invariant ∙ ap {B = ℕ → Bool} (λ (k u : ℕ). ltb u k && (eqb (get_or a.self.now.measured.now u 0) a.a || eqb (get_or a.self.now.measured.now u 0) a.b)) e
