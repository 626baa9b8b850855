use Rattle.std.proofs.Common.{◌≡◌, ◌*◌}
use Rattle.texts.specs.JobText.{number_bytes, most_numbers, after_words, after_line}
use Rattle.texts.specs.Views.{pieces_left, reading_of}
use Rattle.texts.proofs.reader.Reader.take_line.Given as goal

abbrev pub invariant-loop-word : goal.invariant-loop-word
invariant-loop-word l =
    after_words (number_bytes * most_numbers) (reading_of l.self.name l.self.numbers.items) (pieces_left l.word-iterator)
    ≡ after_line (number_bytes * most_numbers) (reading_of l.initial.self.name l.initial.self.numbers.items) l.line
