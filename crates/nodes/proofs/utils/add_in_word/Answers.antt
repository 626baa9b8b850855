use native.Mathlib.Omega.{arith}
use mathlib.Core.Path.{refl, sym, ap, ◌∙◌}
use mathlib.Core.List.{List}
use Prim.Native.Nat.{ℕ, ◌+◌, ◌-◌}
use lib.Bits.{bit_and, and_le_r}
use lib.Count.{trailing_le}
use lib.ListN.{length}
use Rattle.nodes.specs.Bit.{bit}
use Rattle.nodes.specs.Row.{members}
use Rattle.nodes.specs.NodeSet.{word_bits, words_of}
use Rattle.nodes.specs.SetTable.{add_set, add_sets, raised}
use Rattle.nodes.proofs.Digits.{trailing_lowest}
use Rattle.nodes.proofs.SetTable.{sets-length, word_cons, word_nil}
use borrow.Author.Rules.{rules}
use Rattle.nodes.proofs.utils.add_in_word.Goals as goal

pub loop-left-init : goal.loop-left-init
loop-left-init c = (search rules, refl)

pub overflow_cast-left : goal.overflow_cast-left
overflow_cast-left c = omega (arith, trailing_le word_bits c.loop-left.left)

pub overflow_add-base : goal.overflow_add-base
overflow_add-base c = omega (arith, trailing_le word_bits c.loop-left.left)

pub add_set-requires : goal.add_set-requires
add_set-requires c = omega (arith, trailing_le word_bits c.loop-left.left)

pub loop-left-smaller : goal.loop-left-smaller
loop-left-smaller c = let l = c.loop-left in omega (arith, and_le_r l.left (l.left - 1))

pub loop-left-preserved : goal.loop-left-preserved
unfolding add_sets
loop-left-preserved c = let a = c.args in let l = c.loop-left in let x = words_of a.x in let r = raised a.base (members word_bits (bit (bit_and l.left (l.left - 1)))) in (
  omega (arith, and_le_r l.left (l.left - 1), l.invariant.0),
  ap (λ (t : List ℕ). add_sets t r x) (c.add_set.ensures ∙ ap (λ (k : ℕ). add_set l.table (a.base + k) x) (trailing_lowest word_bits l.left))
      ∙ ap (λ (m : List ℕ). add_sets l.table m x) (sym (word_cons a.base l.left l.invariant.0 c.loop-left-test.true)) ∙ l.invariant.1,
)

pub shape_of-table : goal.shape_of-table
shape_of-table c = let a = c.args in let l = c.loop-left in let x = words_of a.x in sym (sets-length (raised a.base (members word_bits (bit l.left))) l.table x) ∙ ap length l.invariant.1 ∙ sets-length (raised a.base (members word_bits (bit a.word))) a.table.now x

pub returns : goal.returns
unfolding add_sets
returns c = let a = c.args in let l = c.loop-left in ap (λ (m : List ℕ). add_sets l.table m (words_of a.x)) (sym (ap (λ (w : ℕ). raised a.base (members word_bits (bit w))) c.loop-left-test.false ∙ word_nil a.base)) ∙ l.invariant.1
