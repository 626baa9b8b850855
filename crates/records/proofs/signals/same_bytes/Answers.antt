use mathlib.Core.Path.{◌∙◌}
use Rattle.records.proofs.SignalLists.{equal_each}
use Rattle.records.proofs.signals.same_bytes.Goals as goal

pub returns : goal.returns
returns c = c.eq.ensures ∙ equal_each c.args.a.now c.args.b.now
