use mathlib.Core.Path.{sym, ◌∙◌}
use native.Mathlib.Omega.{arith}
use Rattle.records.proofs.FlowFile.{entry_not, entry_sets}
use Rattle.records.proofs.questions.ask_entry.Goals as goal

pub returns-then-entry-lt-ENTRY_HEAD_BYTES : goal.returns-then-entry-lt-ENTRY_HEAD_BYTES
returns-then-entry-lt-ENTRY_HEAD_BYTES c = let a = c.args in sym (entry_not a.n a.entry.now (λ e. omega arith))

pub returns-then-from-entry : goal.returns-then-from-entry
returns-then-from-entry c = let a = c.args in sym (entry_not a.n a.entry.now (λ e. c.if-from-entry.true (omega (arith, c.from.ensures))))

pub returns : goal.returns
returns c = let a = c.args in c.ask.ensures ∙ entry_sets a.n a.entry.now (omega (arith, c.if-from-entry.false, c.from.ensures))
