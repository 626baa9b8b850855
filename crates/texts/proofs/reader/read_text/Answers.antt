use Rattle.std.proofs.Common.{◌≡◌, ◌*◌, length, refl, arith, ap, ◌∙◌}
use Rattle.texts.specs.Pieces.{parting, pieces}
use Rattle.texts.specs.JobText.{number_bytes, most_numbers}
use Rattle.texts.specs.Views.{pieces_left, last_place, bytes_of, reading_of}
use Rattle.texts.specs.declared.pieces.Stop.TheVariants.{LineFeed}
use Rattle.texts.proofs.Parting.{pieces_few}
use Rattle.texts.proofs.Numbers.{bytes_long}
use Rattle.texts.proofs.Reading.{lines_next, lines-fault, lines_short, lines_end}
use Rattle.texts.proofs.reader.read_text.Goals.{After-into_iter-line-iterator}
use Rattle.texts.proofs.reader.read_text.Goals as goal

all_lines : (c : After-into_iter-line-iterator) → pieces_left c.into_iter-line-iterator.result ≡ pieces (parting LineFeed) c.args.text.now
all_lines c = ap pieces_left c.into_iter-line-iterator.ensures.into_iter_gives ∙ c.of-line-items.ensures

pub loop-line-init : goal.loop-line-init
unfolding bytes_of
loop-line-init c =
    let e = all_lines (goal.at.loop-line-init c).After-into_iter-line-iterator in
    (omega (arith, ap length e, pieces_few (parting LineFeed) c.args.text.now), rw (e, c.new.ensures) refl)

pub returns-in-Err : goal.returns-in-Err
returns-in-Err c =
    let l = c.loop-line in
    lines-fault (number_bytes * most_numbers) l.before (reading_of l.reader.name l.reader.numbers.items) c.in-Some.line.now (pieces_left l.line-iterator) (pieces_left c.next.new.self) c.in-Some.ensures.steps _ c.in-Err.ensures
    ∙ l.invariant.1

pub loop-line-preserved : goal.loop-line-preserved
loop-line-preserved c =
    let l = c.loop-line in (
      omega (arith, ap length c.in-Some.ensures.steps, l.invariant.0),
      lines_next (number_bytes * most_numbers) l.before (reading_of l.reader.name l.reader.numbers.items) c.in-Some.line.now (pieces_left l.line-iterator) (pieces_left c.next.new.self) c.in-Some.ensures.steps _ _ c.in_default.ensures
          ∙ l.invariant.1,
    )

pub returns-then-len-lt-OPENING_NUMBERS : goal.returns-then-len-lt-OPENING_NUMBERS
returns-then-len-lt-OPENING_NUMBERS c =
    let l = c.loop-line in
    let ns = l.reader.numbers.items in
    lines_short (number_bytes * most_numbers) l.before (last_place l.reader.name) (bytes_of ns) (pieces_left l.line-iterator) c.in-None.ensures.steps.0 (omega (arith, bytes_long ns, c.len.ensures.value, c.if-len-lt-OPENING_NUMBERS.true))
    ∙ l.invariant.1

pub returns : goal.returns
returns c =
    let l = c.loop-line in
    let ns = l.reader.numbers.items in
    lines_end (number_bytes * most_numbers) l.before (last_place l.reader.name) (bytes_of ns) (pieces_left l.line-iterator) c.in-None.ensures.steps.0 (omega (arith, bytes_long ns, c.len.ensures.value, c.if-len-lt-OPENING_NUMBERS.false))
    ∙ l.invariant.1
