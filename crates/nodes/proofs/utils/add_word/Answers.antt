use mathlib.Core.Path.{sym}
use native.Mathlib.Omega.{arith}
use lib.Bits.{bit_xor}
use lib.ListN.{get_or}
use lib.Seq.{set_out}
use Rattle.nodes.proofs.utils.add_word.Goals as goal

pub returns-else-at-table : goal.returns-else-at-table
returns-else-at-table c = let a = c.args in sym (set_out a.table.now a.at (bit_xor (get_or a.table.now a.at 0) a.word) (omega arith))
