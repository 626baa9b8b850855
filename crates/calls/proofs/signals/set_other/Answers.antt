use mathlib.Core.Path.{refl, sym, ◌∙◌}
use borrow.Author.Tests.{eq-eqb, ne_eqb}
use Rattle.calls.proofs.signals.set_other.Goals as goal

pub returns-then-j-i : goal.returns-then-j-i
returns-then-j-i c = let a = c.args in rw (eq-eqb a.j a.i c.if-j-i.true) refl

pub returns : goal.returns
returns c = let a = c.args in c.set_bit.ensures ∙ sym (rw (ne_eqb a.j a.i c.if-j-i.false) refl)
