use mathlib.Core.Path.{◌≡◌, ap, ◌∙◌}
use Prim.Native.Nat.{ℕ, ◌/◌, ◌%◌, ◌^◌}
use native.Mathlib.Omega.{arith}
use lib.Bits.{bit_or}
use lib.ListN.{get_or, set}
use lib.Pow.{pow-lt}
use Rattle.nodes.specs.NodeSet.{word_bits}
use Rattle.solver.proofs.gf2_linalg.set_bit.Goals as goal

pub overflow_cast-out : goal.overflow_cast-out
overflow_cast-out c =
    let a = c.args in
    let e : a.k % 8 % word_bits ≡ a.k % 8 = omega arith in
    omega (arith, c.mask.ensures, ap (λ (x : ℕ). 2 ^ x) e, pow-lt {i = a.k % 8} {j = 8} (omega arith))

pub returns : goal.returns
returns c =
    let a = c.args in
    let e : a.k % 8 % word_bits ≡ a.k % 8 = omega arith in
    ap (λ (x : ℕ). set a.out.now (a.k / 8) (bit_or (get_or a.out.now (a.k / 8) 0) x)) (c.mask.ensures ∙ ap (λ (x : ℕ). 2 ^ x) e)
