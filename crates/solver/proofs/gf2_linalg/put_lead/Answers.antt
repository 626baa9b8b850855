use mathlib.Core.Path.{◌≡◌, sym, ap, ap₂, ◌∙◌}
use mathlib.Core.Bool.{true, not}
use Prim.Native.Nat.{◌<◌}
use native.Mathlib.Omega.{arith}
use borrow.Author.Tests.{not-true, not-false}
use lib.ListN.{length}
use Rattle.solver.specs.WorkMatrix.{entry_of}
use Rattle.solver.specs.Reduced.{lead, leads}
use Rattle.solver.specs.Steps.{set_bit}
use Rattle.solver.specs.Solver.{row_bytes}
use Rattle.solver.proofs.WorkMatrix.{bytes_length}
use Rattle.solver.proofs.Leads.{bytes_skip, bytes_past, bytes_take}
use Rattle.solver.proofs.gf2_linalg.put_lead.Goals as goal

pub returns-then-not-has : goal.returns-then-not-has
returns-then-not-has c =
    let a = c.args in
    c.requires.3 ∙ bytes_skip row_bytes a.matrix.now a.cols a.asked a.row (sym c.has.ensures ∙ not-true _ (ap not c.if-not-has.true))

pub returns-then-k-cols : goal.returns-then-k-cols
returns-then-k-cols c =
    let a = c.args in
    c.requires.3 ∙ bytes_past row_bytes a.matrix.now a.cols a.asked a.row (omega (arith, c.lead-k.ensures))

pub set_bit-requires : goal.set_bit-requires
set_bit-requires c =
    let a = c.args in
    let n : length a.out.now ≡ row_bytes = ap length c.requires.3 ∙ bytes_length row_bytes (leads a.row a.cols (entry_of row_bytes a.matrix.now) (λ i. entry_of row_bytes a.matrix.now i a.asked)) in
    (n, omega arith)

pub returns : goal.returns
returns c =
    let a = c.args in
    let f = c.lead-k in
    let p = c.requires in
    let bit : entry_of row_bytes a.matrix.now a.row a.asked ≡ true = sym c.has.ensures ∙ not-false _ (ap not c.if-not-has.false) in
    let begins : lead (entry_of row_bytes a.matrix.now) a.cols a.row < a.cols = omega (arith, f.ensures) in
    c.set_bit.ensures ∙ ap₂ set_bit p.3 f.ensures ∙ bytes_take row_bytes a.matrix.now a.cols a.asked a.row bit begins p.1
