use Rattle.finder.proofs.Searches.{all_more}
use lib.ListN.{get_or}
use mathlib.Core.Path.{◌≡◌, sym, ap, ◌∙◌}
use mathlib.Core.Bool.{Bool, false, ◌||◌, not}
use Prim.Native.Nat.{ℕ}
use native.Mathlib.Omega.{arith}
use Rattle.nodes.specs.NodeSet.{member}
use Rattle.nodes.specs.Row.{all_below}
use Rattle.nodes.proofs.Logic.{is_true, is_false, from_true, from_false}
use Rattle.nodes.proofs.Row.{all_out}
use borrow.Author.Tests.{not-true, not-false}
use Rattle.finder.specs.Searches.{is_plane}
use borrow.Author.Rules.{rules}
use Rattle.finder.proofs.job.Job.planes_given.Goals as goal

pub loop-u-init : goal.loop-u-init
unfolding all_below
loop-u-init c = tt

pub returns-then-not-is_given : goal.returns-then-not-is_given
returns-then-not-is_given c =
    let a = c.args.self.now in
    let u = c.loop-u.u in
    let f : ℕ → Bool = λ u. member a.outputs u || is_plane (get_or a.measured.now u 0) in
    let no : f u ≡ false = sym c.is_given.ensures ∙ not-true _ (ap not c.if-not-is_given.true) in
    sym (is_false (all_below a.n f) (λ t. from_false (f u) no (all_out a.n f t u (search rules))))

pub loop-u-preserved : goal.loop-u-preserved
loop-u-preserved c =
    let a = c.args.self.now in
    let l = c.loop-u in
    let f : ℕ → Bool = λ u. member a.outputs u || is_plane (get_or a.measured.now u 0) in
    all_more l.u f l.invariant (from_true (f l.u) (sym c.is_given.ensures ∙ not-false _ (ap not c.if-not-is_given.false)))

pub returns : goal.returns
returns c =
    let a = c.args.self.now in
    let l = c.loop-u in
    let f : ℕ → Bool = λ u. member a.outputs u || is_plane (get_or a.measured.now u 0) in
    let e : l.u ≡ a.n = omega arith in
    sym (ap (λ (k : ℕ). all_below k f) (sym e) ∙ is_true (all_below l.u f) l.invariant)
