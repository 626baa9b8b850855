use native.Mathlib.Omega.{arith}
use mathlib.Core.Path.{sym, ap, ◌∙◌}
use Rattle.answers.specs.Refusals.{given}
use Rattle.records.specs.Views.{part_of}
use Rattle.records.proofs.Records.{bytes_known, part_encodes}
use Rattle.records.proofs.part.record.Goals as goal

pub returns-clause-laid_out : goal.returns-clause-laid_out
returns-clause-laid_out g c = part_encodes c.args.kind c.args.file.now (part_of c.in_ok-part.part) (bytes_known c.args.file.now (λ i. omega (arith, c.shared_slice_known-1.given i))) (sym (ap (given part_of) (sym c.in_ok-part.was) ∙ c.front.ensures.value))
