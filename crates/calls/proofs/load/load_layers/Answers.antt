use mathlib.Core.Path.{refl}
use native.Mathlib.Omega.{arith}
use Rattle.records.specs.Views.{flow_held}
use Rattle.calls.proofs.Loaded.{first_none, first_more, first_all}
use borrow.Author.Rules.{rules}
use Rattle.calls.proofs.load.load_layers.Goals as goal

pub loop-u-init : goal.loop-u-init
loop-u-init c = (refl, first_none (flow_held c.args.flow.now).layers c.args.to.now c.requires.1)

pub bounds-to-u : goal.bounds-to-u
bounds-to-u c = omega (arith, c.loop-u.invariant.0, c.requires.0, c.layer_count-u-end.ensures)

pub loop-u-preserved : goal.loop-u-preserved
loop-u-preserved c =
    let l = c.loop-u in
    (search rules, rw c.layer_of.ensures (first_more (flow_held c.args.flow.now).layers l.to l.u (omega (arith, l.invariant.0, c.requires.0, c.layer_count-u-end.ensures)) l.invariant.1))

pub returns : goal.returns
returns c =
    let l = c.loop-u in
    first_all (flow_held c.args.flow.now).layers l.to l.u (omega (arith, c.layer_count-u-end.ensures)) l.invariant.1
