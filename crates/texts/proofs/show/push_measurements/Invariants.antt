use Rattle.std.proofs.Common.{drop}
use Rattle.texts.specs.Shown.{shown_measurements}
use Rattle.texts.proofs.Naming.{all_names}
use Rattle.texts.proofs.Placed.{Leads}
use Rattle.texts.proofs.Showing.{lines_for}
use Rattle.texts.proofs.show.push_measurements.Given as goal

abbrev pub invariant-loop-name : goal.invariant-loop-name
invariant-loop-name l = Leads l.text.items (lines_for (drop l.name-index all_names) l.measurements) l.initial.text.items (shown_measurements l.measurements)
