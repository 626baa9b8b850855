use Rattle.std.proofs.Common.{Bool, ℕ, ap}
use Rattle.nodes.specs.NodeSet.{member}
use Rattle.nodes.specs.SetTable.{table_words}
use Rattle.nodes.proofs.SetTable.{zeros_empty}
use Rattle.solver.proofs.BasisForms.{forms}
use Rattle.solver.proofs.column_basis.Basis.form.Goals as goal

pub reduce_columns-requires-clause-pivots : goal.reduce_columns-requires-clause-pivots
reduce_columns-requires-clause-pivots c = c.empty-self.ensures

pub reduce_columns-requires-clause-across : goal.reduce_columns-requires-clause-across
reduce_columns-requires-clause-across c = λ i p. ap (λ (g : ℕ → Bool). g p) (zeros_empty table_words i)

pub returns-clause-form_after : goal.returns-clause-form_after
returns-clause-form_after c =
    let a = c.args in
    let r = c.reduce_columns in
    let n = r.new.self in
    forms a.matrix.now (member a.upper) (member a.lower) (member a.columns) (record { pivots = n.pivots; free = n.free }) c.load_columns.new.kernel _ _ n.kernel.now n.reduced.now n.preimage.now
    c.load_columns.ensures r.ensures.form r.ensures.sized.kernel_size r.ensures.sized.reduced_size r.ensures.sized.preimage_size
