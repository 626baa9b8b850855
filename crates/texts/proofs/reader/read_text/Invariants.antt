use Rattle.std.proofs.Common.{◌≡◌, ◌+◌, ◌*◌, ◌≤◌, length}
use Rattle.texts.specs.JobText.{number_bytes, most_numbers, after_lines, read_text}
use Rattle.texts.specs.Views.{pieces_left, reading_of}
use Rattle.texts.proofs.reader.read_text.Given as goal

abbrev pub invariant-loop-line : goal.invariant-loop-line
invariant-loop-line l =
    (l.before + length (pieces_left l.line-iterator) ≤ length l.text)
    × (after_lines (number_bytes * most_numbers) l.before (reading_of l.reader.name l.reader.numbers.items) (pieces_left l.line-iterator) ≡ read_text (number_bytes * most_numbers) l.text)
