use Rattle.std.proofs.Common.{◌≡◌, ◌*◌, rules, [], ◌∷◌, sym, ap, ◌∙◌}
use Rattle.std.proofs.lemmas.Result.{err_from_is_err_and}
use Rattle.texts.specs.JobText.{number_bytes, most_numbers, said, after_word}
use Rattle.texts.specs.Views.{last_place, bytes_of, reading_of, word_held}
use Rattle.std.specs.Prelude.{Option, Some}
use Rattle.texts.specs.declared.words.Word as Code
use Rattle.texts.specs.declared.words.Word.TheVariants.{Number, Edge}
use Rattle.texts.proofs.Reading.{some_word, one_told, two_told}
use Rattle.texts.proofs.reader.Reader.take_word.Goals.{After-word_of}
use Rattle.texts.proofs.reader.Reader.take_word.Goals as goal

-- what the word that was read says
says : (c : After-word_of) (word : Option Code.Word) → c.word_of.result ≡ word → let a = c.args.self.now in
    said (number_bytes * most_numbers) (last_place a.name) (bytes_of a.numbers.items) (word_held word) ≡ after_word (number_bytes * most_numbers) (reading_of a.name a.numbers.items) c.args.word.now
says c word e =
    let a = c.args.self.now in
    ap (said (number_bytes * most_numbers) (last_place a.name) (bytes_of a.numbers.items)) (ap word_held (sym e) ∙ c.word_of.ensures)
    ∙ some_word (number_bytes * most_numbers) (last_place a.name) (bytes_of a.numbers.items) c.args.word.now (search (rules, c.if-is_empty.false))

pub returns-in_err-name-in-Some-Number : goal.returns-in_err-name-in-Some-Number
returns-in_err-name-in-Some-Number c =
    let x = c.in-Some-Number.x in
    let place = last_place c.args.self.now.name in
    let p = err_from_is_err_and c.from_residual.result c.from_residual.ensures.1 in
    rw (p.1, p.2) (c.in_err-name-in-Some-Number.ensures (number_bytes * most_numbers) (place ∷ x ∷ []) ∙ says (goal.at.returns-in_err-name-in-Some-Number c).After-word_of (Some (Number x)) (c.in-Some-Number.is ∙ ap Some c.in-Some-Number.field-0-is))

pub returns-in_err-name-in-Some-Edge : goal.returns-in_err-name-in-Some-Edge
returns-in_err-name-in-Some-Edge c =
    let e = c.in-Some-Edge in
    let place = last_place c.args.self.now.name in
    let p = err_from_is_err_and c.from_residual-in_err-name-in-Some-Edge.result c.from_residual-in_err-name-in-Some-Edge.ensures.1 in
    rw (p.1, p.2) (c.in_err-name-in-Some-Edge.ensures (number_bytes * most_numbers) (place ∷ e.a ∷ place ∷ e.b ∷ []) ∙ says (goal.at.returns-in_err-name-in-Some-Edge c).After-word_of (Some (Edge e.a e.b)) (e.is ∙ ap Some e.field-0-is))

pub returns-in_ok-name-in-Some-Number : goal.returns-in_ok-name-in-Some-Number
unfolding bytes_of
returns-in_ok-name-in-Some-Number c =
    let a = c.args.self.now in
    let (e, o, s) = c.in_ok-name-in-Some-Number.ensures in
    one_told a.name c.in_ok-name-in-Some-Number.name e (bytes_of a.numbers.items) (bytes_of c.add.new.numbers.items) c.add.result o c.in-Some-Number.x c.add.ensures s
    ∙ says (goal.at.returns-in_ok-name-in-Some-Number c).After-word_of (Some (Number c.in-Some-Number.x)) (c.in-Some-Number.is ∙ ap Some c.in-Some-Number.field-0-is)

pub returns-in_ok-name-in-Some-Edge : goal.returns-in_ok-name-in-Some-Edge
unfolding bytes_of
returns-in_ok-name-in-Some-Edge c =
    let a = c.args.self.now in
    let m = c.add-in-Some-Edge in
    let (e, o, s) = c.in_ok-name-in-Some-Edge.ensures in
    two_told a.name c.in_ok-name-in-Some-Edge.name e (bytes_of a.numbers.items) (bytes_of m.new.numbers.items) m.result o c.in-Some-Edge.a c.in-Some-Edge.b m.ensures s
    ∙ says (goal.at.returns-in_ok-name-in-Some-Edge c).After-word_of (Some (Edge c.in-Some-Edge.a c.in-Some-Edge.b)) (c.in-Some-Edge.is ∙ ap Some c.in-Some-Edge.field-0-is)
