use mathlib.Core.Path.{sym}
use native.Mathlib.Omega.{arith}
use lib.ListN.{length-set}
use Rattle.nodes.specs.NodeSet.{words_of}
use Rattle.nodes.proofs.SetTable.{put_words, put_out}
use Rattle.nodes.proofs.utils.put_set.Goals as goal

pub bounds-table-at-then-u-table : goal.bounds-table-at-then-u-table
bounds-table-at-then-u-table c = simp length-set (omega arith)

pub returns-then-u-table : goal.returns-then-u-table
returns-then-u-table c =
    let a = c.args in
    rw (← c.s.view_is) (put_words a.table.now a.u _ _ (omega arith))

pub returns-else-u-table : goal.returns-else-u-table
returns-else-u-table c =
    let a = c.args in
    sym (put_out a.table.now a.u (words_of a.s) (omega arith))
