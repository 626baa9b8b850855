use mathlib.Core.Path.{◌≡◌, refl, ap, ◌∙◌}
use Prim.Native.Nat.{ℕ, ◌*◌}
use native.Mathlib.Omega.{arith}
use Rattle.solver.specs.Steps.{turns}
use Rattle.solver.specs.Solver.{row_bytes}
use Rattle.solver.proofs.Turns.{turns_none, turns_more}
use Rattle.solver.proofs.Bytes.{xor_byte, xor_done}
use borrow.Author.Rules.{rules}
use Rattle.solver.proofs.gf2_linalg.xor_row.Goals as goal

pub loop-j-init : goal.loop-j-init
loop-j-init c = (refl, turns_none _ _)

pub loop-j-preserved : goal.loop-j-preserved
loop-j-preserved c =
    let a = c.args in
    let l = c.loop-j in
    (search rules, turns_more (xor_byte (a.dst * row_bytes) (a.src * row_bytes)) l.j a.matrix.now l.matrix l.invariant.1)

pub returns : goal.returns
returns c =
    let a = c.args in
    let l = c.loop-j in
    let p = c.requires in
    let e : l.j ≡ row_bytes = omega arith in
    l.invariant.1 ∙ ap (λ (n : ℕ). turns (xor_byte (a.dst * row_bytes) (a.src * row_bytes)) n a.matrix.now) e
    ∙ xor_done row_bytes a.matrix.now a.dst a.src p.0 p.1 p.2
