use Rattle.std.proofs.Common.{◌*◌, ◌∙◌}
use Rattle.std.proofs.lemmas.Result.{err_from_is_err_and}
use Rattle.texts.specs.JobText.{number_bytes, most_numbers}
use Rattle.texts.specs.Views.{pieces_left, reading_of}
use Rattle.texts.proofs.Reading.{words_next, words-fault, words_end}
use Rattle.texts.proofs.reader.Reader.take_line.Goals as goal

pub loop-word-preserved : goal.loop-word-preserved
loop-word-preserved c =
    let l = c.loop-word in
    words_next (number_bytes * most_numbers) (reading_of l.self.name l.self.numbers.items) c.in-Some.word.now (pieces_left l.word-iterator) (pieces_left c.next.new.self) c.in-Some.ensures.steps _ c.in_ok-take_word.ensures
    ∙ l.invariant

pub returns-in_err-take_word : goal.returns-in_err-take_word
returns-in_err-take_word c =
    let l = c.loop-word in
    let p = err_from_is_err_and c.from_residual.result c.from_residual.ensures.1 in
    rw (p.1, p.2)
    (words-fault (number_bytes * most_numbers) (reading_of l.self.name l.self.numbers.items) c.in-Some.word.now (pieces_left l.word-iterator) (pieces_left c.next.new.self) c.in-Some.ensures.steps _ c.in_err-take_word.ensures
    ∙ l.invariant)

pub returns : goal.returns
returns c =
    let l = c.loop-word in
    words_end (number_bytes * most_numbers) (reading_of l.self.name l.self.numbers.items) (pieces_left l.word-iterator) c.in-None.ensures.steps.0 ∙ l.invariant
