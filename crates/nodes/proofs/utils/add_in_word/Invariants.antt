use mathlib.Core.Path.{◌≡◌}
use Prim.Native.Nat.{◌^◌, ◌<◌}
use Rattle.nodes.specs.Bit.{bit}
use Rattle.nodes.specs.Row.{members}
use Rattle.nodes.specs.NodeSet.{word_bits, words_of}
use Rattle.nodes.specs.SetTable.{add_sets, raised}
use Rattle.nodes.proofs.utils.add_in_word.Given as goal

abbrev pub invariant-loop-left : goal.invariant-loop-left
invariant-loop-left l = (l.left < 2 ^ word_bits) × (add_sets l.table (raised l.base (members word_bits (bit l.left))) (words_of l.x) ≡ add_sets l.initial.table (raised l.base (members word_bits (bit l.initial.left))) (words_of l.x))

abbrev pub decreases-loop-left : goal.decreases-loop-left
decreases-loop-left l = l.left
