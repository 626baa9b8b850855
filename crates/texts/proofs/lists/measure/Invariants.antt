use Rattle.std.proofs.Common.{◌≡◌, length, drop}
use Rattle.texts.specs.JobText.{measured}
use Rattle.texts.specs.Views.{bytes_of}
use Rattle.texts.proofs.lists.measure.Given as goal

abbrev pub invariant-loop-number : goal.invariant-loop-number
invariant-loop-number l = (length l.table ≡ length l.initial.table) × (measured (bytes_of (drop l.number-index l.numbers)) l.table ≡ measured (bytes_of l.numbers) l.initial.table)
