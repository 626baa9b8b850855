use mathlib.Core.Bool.{not}
use mathlib.Core.Path.{refl, ap}
use borrow.Author.Tests.{ne_eqb}
use Rattle.flows.specs.Job.{own}
use Rattle.calls.proofs.AskingNodes.{unequal}
use Rattle.calls.proofs.validate.own_holds.Goals as goal

pub returns-then-not-inside : goal.returns-then-not-inside
unfolding own
returns-then-not-inside c = simp (c.in-1.is, (ap not c.if-not-inside.true))

pub returns-else-not-inside : goal.returns-else-not-inside
unfolding own
returns-else-not-inside c = simp (c.in-1.is, (ap not c.if-not-inside.false))

pub returns-then-inside : goal.returns-then-inside
unfolding own
returns-then-inside c = simp (c.in-2.is, c.if-inside.true)

pub returns-else-inside : goal.returns-else-inside
unfolding own
returns-else-inside c = simp (c.in-2.is, c.if-inside.false)

pub returns-then-inside-2 : goal.returns-then-inside-2
unfolding own
returns-then-inside-2 c = simp (c.in-3.is, c.if-inside-2.true)

pub returns-else-inside-2 : goal.returns-else-inside-2
unfolding own
returns-else-inside-2 c = simp (c.in-3.is, c.if-inside-2.false)

pub returns-in-4 : goal.returns-in-4
unfolding own
returns-in-4 c = rw c.in-4.is refl

pub returns-in-5 : goal.returns-in-5
unfolding own
returns-in-5 c = rw c.in-5.is (unequal c.args.inside c.args.odd)

pub returns-in-6 : goal.returns-in-6
unfolding own
returns-in-6 c = rw c.in-6.is refl

pub returns-in_default : goal.returns-in_default
unfolding own
returns-in_default c = let n = c.in_default.in_default-own.rest in simp (ne_eqb _ 1 n.0.0.0.0.0.1, ne_eqb _ 2 n.0.0.0.0.1, ne_eqb _ 3 n.0.0.0.1, ne_eqb _ 4 n.0.0.1, ne_eqb _ 5 n.0.1, ne_eqb _ 6 n.1)
