-- The rule of the code's own table of masks: entry k is 2 to the power k.
use Prim.Native.Nat.{ℕ, ◌^◌, ◌<◌}
use mathlib.Core.Path.{◌≡◌}
use lib.Dec.{T, eqb, eqb→eq}
use lib.ListN.{get_or}
use Rattle.nodes.specs.Row.{all_below}
use Rattle.nodes.specs.NodeSet.{word_bits}
use Rattle.nodes.specs.declared.masks.TheConstants.{MASKS}
use Rattle.nodes.proofs.Row.{all_out}

masks_test : T (all_below word_bits (λ k. eqb (get_or MASKS k 0) (2 ^ k)))
unfolding all_below
masks_test = tt

pub masks_rule : (k : ℕ) → k < word_bits → get_or MASKS k 0 ≡ 2 ^ k
masks_rule k l = eqb→eq (get_or MASKS k 0) (2 ^ k) (all_out word_bits (λ k. eqb (get_or MASKS k 0) (2 ^ k)) masks_test k l)
