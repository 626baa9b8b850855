use Rattle.std.proofs.Common.{◌≡◌, ◌+◌, ◌-◌, ◌++◌, [], get_or, refl, arith, sym, ◌∙◌, append-nil}
use mathlib.Core.Bool.{cond}
use borrow.Author.Tests.{lt-ltb, le-ltb}
use Rattle.nodes.specs.Lists.{has}
use Rattle.answers.specs.Message.{codes}
use Rattle.texts.specs.Words.{names, first_measurement, outputs_name}
use Rattle.texts.specs.Shown.{shown_measured}
use Rattle.texts.specs.Views.{place_of, line_for}
use Rattle.texts.proofs.Placed.{any_has}
use Rattle.texts.proofs.show.push_measurement.Goals.{After-contains}
use Rattle.texts.proofs.show.push_measurement.Goals as goal

-- the line where it is there, and where it is not
among : (c : After-contains) → c.contains.result ≡ has c.args.measurements.now c.in-Some.m
among c = c.contains.ensures.value ∙ any_has c.args.measurements.now c.in-Some.m

line : (c : After-contains) → line_for c.args.name c.args.measurements.now ≡ cond (has c.args.measurements.now c.in-Some.m) (codes "\n" ++ (get_or names (place_of c.args.name) [] ++ shown_measured c.in-Some.m 0 c.args.measurements.now)) []
unfolding codes
line c =
    let (high, e) = c.in-Some.ensures in
    let p = place_of c.args.name in
    let same : outputs_name + (p - outputs_name) ≡ p = omega (arith, high) in
    rw (le-ltb p first_measurement high, e, same) refl

pub push_line-requires-clause-room : goal.push_line-requires-clause-room
unfolding codes
push_line-requires-clause-room c =
    let a = (goal.at.push_line-requires-clause-room c).After-contains in
    rw (line a, sym (among a) ∙ c.if-contains.true) at c.requires.room

pub returns-then-contains : goal.returns-then-contains
unfolding codes
returns-then-contains c =
    let a = (goal.at.returns-then-contains c).After-contains in
    rw (line a, sym (among a) ∙ c.if-contains.true) c.push_line.ensures

pub returns-else-contains : goal.returns-else-contains
returns-else-contains c =
    let a = (goal.at.returns-else-contains c).After-contains in
    rw (line a, sym (among a) ∙ c.if-contains.false) (sym (append-nil c.args.text.now.items))

pub returns-in_default : goal.returns-in_default
returns-in_default c = rw (lt-ltb (place_of c.args.name) first_measurement c.in_default.ensures) (sym (append-nil c.args.text.now.items))
