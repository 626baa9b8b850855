use mathlib.Core.Path.{◌≡◌, refl, ap, ◌∙◌}
use Prim.Native.Nat.{ℕ}
use native.Mathlib.Omega.{arith}
use Rattle.solver.specs.Steps.{turns, clear_one, clear_column}
use Rattle.solver.specs.Solver.{row_bytes}
use Rattle.solver.proofs.Turns.{turns_none, turns_more}
use borrow.Author.Rules.{rules}
use Rattle.solver.proofs.gf2_linalg.clear_column.Goals as goal

pub loop-i-init : goal.loop-i-init
loop-i-init c = (refl, turns_none _ _)

pub loop-i-preserved : goal.loop-i-preserved
loop-i-preserved c = let l = c.loop-i in
    let a = c.args in
    (search rules, c.clear_one.ensures ∙ turns_more (clear_one row_bytes a.pivot a.col) l.i a.matrix.now l.matrix l.invariant.1)

pub returns : goal.returns
unfolding clear_column
returns c = let l = c.loop-i in
    let a = c.args in
    let e : l.i ≡ a.rows = omega arith in
    l.invariant.1 ∙ ap (λ (k : ℕ). turns (clear_one row_bytes a.pivot a.col) k a.matrix.now) e
