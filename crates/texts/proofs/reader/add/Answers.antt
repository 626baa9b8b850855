use Rattle.std.proofs.Common.{refl, arith, ap, ◌∙◌}
use Rattle.texts.specs.Views.{bytes_of}
use Rattle.texts.proofs.Numbers.{bytes_long, bytes_both}
use Rattle.texts.proofs.reader.add.Goals as goal

pub returns-in-Ok : goal.returns-in-Ok
returns-in-Ok c =
    let e = c.in-Ok.ensures in
    let ns = c.args.numbers.now.items in
    let more = c.args.more.now in
    (omega (arith, bytes_long ns, bytes_long more, e.variant.0 refl), ap bytes_of e.ok ∙ bytes_both ns more)
