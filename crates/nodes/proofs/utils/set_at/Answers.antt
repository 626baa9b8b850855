use mathlib.Core.Path.{refl, sym, ◌∙◌, fun_ext}
use native.Mathlib.Omega.{arith}
use Prim.Native.Nat.{◌+◌, ◌*◌}
use lib.ListN.{get_or, get_or-eq_default}
use Rattle.nodes.specs.SetTable.{set_words}
use Rattle.nodes.proofs.NodeSet.{member_empty}
use Rattle.nodes.proofs.SetTable.{set_words_lem}
use Rattle.nodes.proofs.utils.set_at.Goals as goal

pub returns-then-u-table : goal.returns-then-u-table
returns-then-u-table c =
    let a = c.args in
    let ws = a.table.now in
    set_words_lem ws a.u (get_or ws (set_words * a.u) 0) (get_or ws (set_words * a.u + 1) 0) refl refl

pub returns-then-u-table-2 : goal.returns-then-u-table-2
returns-then-u-table-2 c =
    let a = c.args in
    let ws = a.table.now in
    set_words_lem ws a.u (get_or ws (set_words * a.u) 0) 0 refl (sym (get_or-eq_default ws 0 (omega arith)))

pub returns : goal.returns
returns c =
    let a = c.args in
    let ws = a.table.now in
    c.empty.ensures ∙ sym (fun_ext (member_empty 2)) ∙ set_words_lem ws a.u 0 0 (sym (get_or-eq_default ws 0 (omega arith))) (sym (get_or-eq_default ws 0 (omega arith)))
