use native.Mathlib.Omega.{arith}
use mathlib.Core.Path.{◌∙◌, subst}
use mathlib.Core.Bool.{Bool}
use Prim.Native.Nat.{ℕ, ◌+◌, ◌≤◌}
use lib.Dec.{T}
use Rattle.nodes.specs.NodeSet.{member, capacity}
use Rattle.nodes.specs.Row.{count}
use Rattle.solver.specs.Solver.{most_rows}
use Rattle.nodes.proofs.Logic.{and_l}
use Rattle.finder.proofs.Tries.{rows_room, laid_answers, form_ready, form_refused}
use Rattle.finder.proofs.round.open_round.Goals as goal
use Rattle.finder.proofs.round.open_round.Goals.{After-intersection-upper}

-- all rows fit

room : (c : After-intersection-upper) → let s = c.args.s.now in count capacity (member c.intersection-upper.result) + count capacity (member s.lower) ≤ most_rows
room c =
    let a = c.args in
    let i = c.intersection-upper in
    rows_room (record { columns = a.s.now.columns; upper = i.result; lower = a.s.now.lower })
    (λ v t l. c.requires.1 v (and_l (member a.s.now.upper v) (member a.rows v) (subst (λ (f : ℕ → Bool). T (f v)) i.ensures t)) l)

pub fill-requires : goal.fill-requires
fill-requires c = omega (arith, room (goal.at.fill-requires c).After-intersection-upper, c.requires.0)

pub returns-in-Ok : goal.returns-in-Ok
returns-in-Ok c =
    let g = c.fill in
    let a = c.args in
    let p = c.requires in
    let i = c.intersection-upper in
    let n = c.form.new.self in
    let z = form_ready c.form.result _ g.new.work (member i.result) (member a.s.now.lower) (member a.s.now.columns) _ a.basis.now.kernel.now a.basis.now.reduced.now a.basis.now.preimage.now (record { pivots = n.pivots; free = n.free }) n.kernel.now n.reduced.now n.preimage.now c.in-Ok.is c.form.ensures.form_after in record {
      tables_solve = laid_answers a.transposed.now g.new.work a.s.now i.result a.rows i.ensures p.3 g.ensures.laid_out g.ensures.laid_out_2.0 (record { pivots = n.pivots; free = n.free }) _ _ _ z;
      work_len = (g.ensures.laid_out_2.1 ∙ p.0, (z.kernel_size, z.reduced_size, z.preimage_size));
    }

pub returns-in-Err : goal.returns-in-Err
returns-in-Err c =
    let g = c.fill in
    let a = c.args in
    let p = c.requires in record {
      tables_solve = absurd (form_refused c.form.result g.new.work (member c.intersection-upper.result) (member a.s.now.lower) a.basis.now.kernel.now a.basis.now.reduced.now a.basis.now.preimage.now c.in-Err.field-0 c.in-Err.is c.form.ensures.result_value
          (omega (arith, room (goal.at.returns-in-Err c).After-intersection-upper, p.0, g.ensures.laid_out_2.1)) p.2.0 p.2.1 p.2.2);
      work_len = absurd (form_refused c.form.result g.new.work (member c.intersection-upper.result) (member a.s.now.lower) a.basis.now.kernel.now a.basis.now.reduced.now a.basis.now.preimage.now c.in-Err.field-0 c.in-Err.is c.form.ensures.result_value
          (omega (arith, room (goal.at.returns-in-Err c).After-intersection-upper, p.0, g.ensures.laid_out_2.1)) p.2.0 p.2.1 p.2.2);
    }
