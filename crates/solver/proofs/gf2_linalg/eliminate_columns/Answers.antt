use mathlib.Core.Path.{◌≡◌, refl, ap, ◌∙◌}
use Prim.Native.Nat.{ℕ}
use native.Mathlib.Omega.{arith}
use Rattle.solver.specs.Steps.{turns, State, eliminate_column, eliminate_columns}
use Rattle.solver.specs.Solver.{row_bytes}
use Rattle.solver.proofs.Turns.{turns_none, turns_more}
use borrow.Author.Rules.{rules}
use Rattle.solver.proofs.gf2_linalg.eliminate_columns.Goals as goal

pub loop-col-init : goal.loop-col-init
loop-col-init c = (search rules, refl, turns_none _ _)

pub loop-col-preserved : goal.loop-col-preserved
loop-col-preserved c = let l = c.loop-col in
    let a = c.args in (
      search rules,
      search rules,
      c.eliminate_column-rank.ensures.matrix_after
          ∙ turns_more (eliminate_column row_bytes a.rows) l.col (record { rank = 0; rows = a.matrix.now }) (record { rank = l.rank; rows = l.matrix }) l.invariant.2,
    )

pub returns : goal.returns
unfolding eliminate_columns
returns c = let l = c.loop-col in
    let a = c.args in
    let e : l.col ≡ a.cols = omega arith in
    ap (λ (s : State). s.rows) (l.invariant.2 ∙ ap (λ (k : ℕ). turns (eliminate_column row_bytes a.rows) k (record { rank = 0; rows = a.matrix.now })) e)
