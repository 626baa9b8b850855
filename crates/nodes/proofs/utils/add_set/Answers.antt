use mathlib.Core.Path.{◌≡◌, ap₂, ◌∙◌}
use mathlib.Core.List.{List}
use Prim.Native.Nat.{ℕ, suc, ◌+◌, ◌*◌}
use native.Mathlib.Omega.{arith}
use lib.Bits.{bit_xor}
use lib.ListN.{get_or, set}
use Rattle.nodes.specs.SetTable.{set_words, add_words}
use Rattle.nodes.proofs.utils.add_set.Goals as goal

pub returns : goal.returns
unfolding add_words
returns c = let a = c.args in let next : set_words * a.u + 1 ≡ suc (set_words * a.u) = omega arith in rw (← c.x.view_is) (c.add_word-2.ensures ∙ ap₂ (λ (l : List ℕ) (i : ℕ). set l i (bit_xor (get_or l i 0) (get_or c.x.inside.words 1 0))) c.add_word.ensures next)
