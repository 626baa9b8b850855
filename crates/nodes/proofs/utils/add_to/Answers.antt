use mathlib.Core.Path.{sym, ap, ◌∙◌}
use mathlib.Core.List.{List}
use lib.ListN.{get_or}
use Prim.Native.Nat.{ℕ}
use Rattle.nodes.specs.Bit.{bit}
use Rattle.nodes.specs.Row.{members}
use Rattle.nodes.specs.NodeSet.{word_bits, words_of}
use Rattle.nodes.specs.SetTable.{add_sets, raised}
use Rattle.nodes.proofs.SetTable.{sets-append, members_words}
use Rattle.nodes.proofs.utils.add_to.Goals as goal

pub returns : goal.returns
returns c =
    let a = c.args in
    let x = words_of a.x in
    let l = raised 0 (members word_bits (bit (get_or c.nodes.inside.words 0 0))) in
    let h = raised word_bits (members word_bits (bit (get_or c.nodes.inside.words 1 0))) in
    rw (← c.nodes.view_is) (c.add_in_word-2.ensures ∙ ap (λ (t : List ℕ). add_sets t h x) c.add_in_word.ensures ∙ sym (sets-append l h a.table.now x) ∙ ap (λ (m : List ℕ). add_sets a.table.now m x) (sym (members_words c.nodes.inside.words)))
