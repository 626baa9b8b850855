use mathlib.Core.Path.{◌≡◌, ap, ◌∙◌}
use native.Mathlib.Omega.{arith}
use lib.ListN.{length}
use Rattle.solver.specs.Solver.{row_bytes}
use Rattle.nodes.specs.Lists.{zeros}
use Rattle.solver.proofs.WorkMatrix.{bytes_none}
use Rattle.solver.proofs.Leads.{bytes_start}
use borrow.Author.Rules.{rules}
use Rattle.solver.proofs.gf2_linalg.put_leads.Goals as goal

pub loop-i-init : goal.loop-i-init
loop-i-init c =
    let a = c.args in
    let size : length a.out.now ≡ row_bytes = search rules in
    (search rules, c.clear.ensures ∙ ap zeros size ∙ bytes_none row_bytes ∙ bytes_start row_bytes a.matrix.now a.cols a.asked)

pub loop-i-preserved : goal.loop-i-preserved
loop-i-preserved c = (search rules, c.put_lead.ensures)

pub returns : goal.returns
returns c =
    let a = c.args in
    let l = c.loop-i in
    let e : l.i ≡ a.rows = omega arith in
    rw e at l.invariant.1
