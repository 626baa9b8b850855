use native.Mathlib.Omega.{arith}
use mathlib.Core.Path.{refl, ap, ◌∙◌, subst}
use mathlib.Core.List.{List}
use mathlib.Core.Bool.{◌&&◌}
use Prim.Native.Nat.{ℕ}
use lib.Dec.{ltb}
use lib.ListN.{length, length-replicate}
use Rattle.nodes.specs.Row.{count}
use Rattle.nodes.specs.NodeSet.{capacity, member}
use Rattle.solver.specs.WorkMatrix.{entry_of}
use Rattle.solver.specs.Solver.{row_bytes, most_columns}
use Rattle.solver.specs.BasisCalls.{Plus}
use Rattle.solver.proofs.BasisTables.{loaded_behind}
use Rattle.solver.proofs.BasisForms.{loads}
use Rattle.solver.proofs.column_basis.load_columns.Goals as goal

pub overflow_mul-start : goal.overflow_mul-start
overflow_mul-start c = omega (arith, c.requires.0, c.count-start.ensures)

pub load-requires : goal.load-requires
load-requires c =
    (omega (arith, c.requires.0), ap length c.clear_table.ensures ∙ length-replicate {A = ℕ} (length c.args.kernel.now) 0 ∙ c.requires.1)

pub slice_bounds-load-count : goal.slice_bounds-load-count
slice_bounds-load-count c = omega (arith, c.requires.0, c.count-start.ensures)

-- dropped: slice-bounds-load-start

pub load-requires-2 : goal.load-requires-2
load-requires-2 c =
    (omega (arith, c.requires.0, c.count-start.ensures), c.load.ensures.size ∙ ap length c.clear_table.ensures ∙ length-replicate {A = ℕ} (length c.args.kernel.now) 0 ∙ c.requires.1)

pub returns : goal.returns
returns c =
    let m = c.load-2 in
    let a = c.args in
    let first = c.load.new.table in
    loads a.matrix.now (member a.upper) (member a.lower) a.kernel.now first m.new.table c.requires.1
    (subst (λ (t : List ℕ). Plus (λ k v. ltb k most_columns && (member a.upper v && entry_of row_bytes a.matrix.now (count v (member a.upper)) k)) t first) c.clear_table.ensures c.load.ensures)
    (loaded_behind (count capacity (member a.upper)) c.count-start.result a.matrix.now _ (member a.lower) first m.new.table c.count-start.ensures refl m.ensures)
