use Rattle.std.proofs.Common.{◌≡◌, ◌*◌, ℕ, length, sym, ap, ◌∙◌}
use Rattle.texts.specs.JobText.{in_order}
use Rattle.texts.specs.Views.{place_of, bytes_of}
use Rattle.texts.proofs.Numbers.{bytes_long}
use Rattle.texts.proofs.Reading.{add_order, add_shape, unnamed}
use Rattle.texts.proofs.reader.Reader.name_for.Goals.{After-in_order}
use Rattle.texts.proofs.reader.Reader.name_for.Goals as goal

order : (c : After-in_order) → c.in_order.result ≡ in_order (place_of c.in-Some.name) (length (bytes_of c.args.self.now.numbers.items))
order c = c.in_order.ensures ∙ ap (in_order (place_of c.in-Some.name)) (ap (λ (k : ℕ). 2 * k) c.len.ensures.value ∙ sym (bytes_long c.args.self.now.numbers.items))

pub returns-in_default : goal.returns-in_default
returns-in_default c = λ room more. unnamed c.args.self.now.name c.args.self.now.numbers.items c.args.self.now.named c.in_default.is room c.args.edge more

pub returns-then-not-in_order : goal.returns-then-not-in_order
returns-then-not-in_order c = λ room more.
    rw c.in-Some.is (add_order room (place_of c.in-Some.name) (bytes_of c.args.self.now.numbers.items) c.args.edge more (sym (order (goal.at.returns-then-not-in_order c).After-in_order) ∙ c.if-not-in_order.true))

pub returns-then-not-in_shape : goal.returns-then-not-in_shape
returns-then-not-in_shape c = λ room more.
    rw c.in-Some.is (add_shape room (place_of c.in-Some.name) (bytes_of c.args.self.now.numbers.items) c.args.edge more (sym (order (goal.at.returns-then-not-in_shape c).After-in_order) ∙ c.if-not-in_order.false) (sym c.in_shape.ensures ∙ c.if-not-in_shape.true))

pub returns : goal.returns
returns c = (c.in-Some.is, sym (order (goal.at.returns c).After-in_order) ∙ c.if-not-in_order.false, sym c.in_shape.ensures ∙ c.if-not-in_shape.false)
