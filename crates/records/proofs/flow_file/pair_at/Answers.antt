use native.Mathlib.Omega.{arith}
use mathlib.Core.Path.{sym}
use lib.ListN.{get_or-eq_default}
use Rattle.records.specs.Records.{from_two_bytes}
use Rattle.records.proofs.Layers.{from_length}
use Rattle.records.proofs.flow_file.pair_at.Goals as goal

pub returns-then-i-bytes : goal.returns-then-i-bytes
returns-then-i-bytes c = let a = c.args in sym (get_or-eq_default (from_two_bytes a.bytes.now) 0 (omega (arith, from_length a.bytes.now)))
