use Rattle.std.proofs.Common.{rules}
use Rattle.std.proofs.lemmas.List.{take_rest}
use Rattle.texts.specs.Pieces.{parting}
use Rattle.texts.proofs.Parting.{parted_at, parted_nowhere}
use Rattle.texts.proofs.pieces.split.Goals as goal

pub returns-in-Some : goal.returns-in-Some
returns-in-Some c =
    let s = c.args.bytes.now in
    let found = parted_at (parting c.args.stop) s c.in-Some.end (search rules) (search rules) (search rules) in
    record { before = found.0; behind = rw take_rest found.1 }

pub returns-in-None : goal.returns-in-None
returns-in-None c =
    let none = parted_nowhere (parting c.args.stop) c.args.bytes.now (search rules) in
    record { before = none.0; behind = none.1 }
