use native.Mathlib.Omega.{arith}
use Rattle.records.proofs.ReadingEntries.{entries_more}
use Rattle.records.proofs.entries.first_entry.Goals as goal

pub returns-clause-entry : goal.returns-clause-entry
returns-clause-entry c = entries_more c.args.bytes.now c.from-end.result c.from-end.ensures (omega arith)
