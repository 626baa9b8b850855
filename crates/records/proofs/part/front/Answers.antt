use native.Mathlib.Omega.{arith}
use Rattle.records.proofs.Records.{bytes_known, bytes_part}
use Rattle.records.proofs.part.front.Goals as goal

pub returns-clause-bytes : goal.returns-clause-bytes
returns-clause-bytes c = bytes_part 6 _ c.args.file.now (bytes_known c.args.file.now (λ i. omega (arith, c.shared_slice_known-1.given i)))
