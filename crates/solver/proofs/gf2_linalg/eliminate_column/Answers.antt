use mathlib.Core.Path.{ap, ◌∙◌}
use mathlib.Core.List.{List}
use Prim.Native.Nat.{ℕ, ◌≤◌, ◌-◌, ◌+◌}
use native.Mathlib.Omega.{arith}
use Rattle.nodes.proofs.Members.{from_ge}
use Rattle.solver.specs.WorkMatrix.{entry_of}
use Rattle.solver.specs.Steps.{clear_column, pivot_to}
use Rattle.solver.specs.Solver.{row_bytes}
use Rattle.solver.proofs.Turns.{column_none, column_some}
use borrow.Author.Rules.{rules}
use Rattle.solver.proofs.gf2_linalg.eliminate_column.Goals as goal

pub returns-then-p-rows : goal.returns-then-p-rows
returns-then-p-rows c =
    let a = c.args in record {
      matrix_after = column_none row_bytes a.rows a.col (record { rank = a.rank; rows = a.matrix.now }) _ c.find_pivot-p.ensures c.if-p-rows.true;
      upper_bound = search rules;
    }

pub add_pivot_row-requires : goal.add_pivot_row-requires
add_pivot_row-requires c =
    let a = c.args in
    let f = c.find_pivot-p in
    let ge : a.rank ≤ f.result = omega (arith, f.ensures, from_ge a.rank (a.rows - a.rank) (λ i. entry_of row_bytes a.matrix.now i a.col)) in
    omega arith

pub clear_column-requires : goal.clear_column-requires
clear_column-requires c =
    let a = c.args in
    let f = c.find_pivot-p in
    let ge : a.rank ≤ f.result = omega (arith, f.ensures, from_ge a.rank (a.rows - a.rank) (λ i. entry_of row_bytes a.matrix.now i a.col)) in
    omega arith

pub returns : goal.returns
unfolding pivot_to
returns c =
    let a = c.args in
    let f = c.find_pivot-p in
    let ge : a.rank ≤ f.result = omega (arith, f.ensures, from_ge a.rank (a.rows - a.rank) (λ i. entry_of row_bytes a.matrix.now i a.col)) in record {
      matrix_after = ap (λ (l : List ℕ). record { rank = a.rank + 1; rows = l })
          (c.clear_column.ensures
          ∙ ap (λ (l : List ℕ). clear_column row_bytes l a.rows a.rank a.col) c.add_pivot_row.ensures)
          ∙ column_some row_bytes a.rows a.col (record { rank = a.rank; rows = a.matrix.now }) f.result f.ensures (omega arith);
      upper_bound = omega arith;
    }
