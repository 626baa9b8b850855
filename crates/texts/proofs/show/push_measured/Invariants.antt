use Rattle.std.proofs.Common.{drop}
use Rattle.texts.specs.Shown.{shown_measured}
use Rattle.texts.proofs.Placed.{Leads}
use Rattle.texts.proofs.show.push_measured.Given as goal

abbrev pub invariant-loop-v : goal.invariant-loop-v
invariant-loop-v l = Leads l.text.items (shown_measured l.m l.v (drop l.v l.measurements)) l.initial.text.items (shown_measured l.m 0 l.measurements)
