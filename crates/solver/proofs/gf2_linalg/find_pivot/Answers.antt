use mathlib.Core.Path.{◌≡◌, refl, sym, ◌∙◌}
use mathlib.Core.Bool.{true, false}
use native.Mathlib.Omega.{arith}
use Rattle.solver.specs.WorkMatrix.{entry_of}
use Rattle.solver.specs.Solver.{row_bytes}
use Rattle.solver.proofs.Turns.{first_here, first_next, first_none}
use borrow.Author.Rules.{rules}
use Rattle.solver.proofs.gf2_linalg.find_pivot.Goals as goal

pub loop-i-init : goal.loop-i-init
loop-i-init c = refl

pub returns-then-has : goal.returns-then-has
returns-then-has c = let l = c.loop-i in
    let a = c.args in
    let has : entry_of row_bytes a.matrix.now l.i a.col ≡ true = sym c.has.ensures ∙ c.if-has.true in
    sym (l.invariant ∙ first_here (λ k. entry_of row_bytes a.matrix.now k a.col) l.i a.rows (omega arith) has)

pub loop-i-preserved : goal.loop-i-preserved
loop-i-preserved c = let l = c.loop-i in
    let a = c.args in
    let no : entry_of row_bytes a.matrix.now l.i a.col ≡ false = sym c.has.ensures ∙ c.if-has.false in
    l.invariant ∙ first_next (λ k. entry_of row_bytes a.matrix.now k a.col) l.i a.rows (omega arith) no

pub returns : goal.returns
returns c = let l = c.loop-i in
    let a = c.args in
    let e : a.rows ≡ l.i = omega arith in
    e ∙ sym (l.invariant ∙ first_none (λ k. entry_of row_bytes a.matrix.now k a.col) l.i a.rows (omega arith))
