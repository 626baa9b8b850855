use mathlib.Core.Path.{ap, ◌∙◌}
use Prim.Native.Nat.{ℕ}
use Rattle.capi.specs.Codes.{CodedBits, coded_bits}
use Rattle.capi.proofs.bolz_solve.Goals as goal

pub returns : goal.returns
returns c = let f = c.solve_in_place in record {
  bits_after = ap {B = CodedBits} (λ (k : ℕ). record { code = k; out = f.new.out }) c.solved_code.ensures ∙ ap coded_bits f.ensures.out_after;
  matrix_after = f.ensures.matrix_after;
}
