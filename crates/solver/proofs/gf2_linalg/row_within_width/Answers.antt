use mathlib.Core.Path.{◌≡◌, sym}
use Prim.Native.Nat.{◌+◌, ◌*◌, ◌<◌, ◌^◌}
use native.Mathlib.Omega.{arith}
use lib.ListN.{get_or}
use Rattle.nodes.specs.Row.{all_below}
use Rattle.nodes.proofs.Logic.{is_true}
use Rattle.nodes.proofs.Row.{all_in}
use Rattle.solver.specs.Solver.{row_bytes}
use Rattle.solver.proofs.WorkMatrix.{within, EndsBefore, ends_start, ends_more, ends_not}
use borrow.Author.Rules.{rules}
use Rattle.solver.proofs.gf2_linalg.row_within_width.Goals as goal

pub loop-q-init : goal.loop-q-init
loop-q-init c = (search rules, omega arith, ends_start row_bytes c.args.matrix.now c.args.row c.args.width)

pub returns-then-matrix-start-ne0 : goal.returns-then-matrix-start-ne0
returns-then-matrix-start-ne0 c =
    let a = c.args in
    let l = c.loop-q in
    let byte : get_or a.matrix.now (a.row * row_bytes + l.q) 0 < 2 ^ 8 = omega (arith, c.shared_slice_known-1.given (a.row * row_bytes + l.q)) in
    sym (ends_not row_bytes a.matrix.now a.row a.width l.q l.inside l.invariant.1 (omega arith) byte c.if-matrix-start-ne0.true)

pub loop-q-preserved : goal.loop-q-preserved
loop-q-preserved c =
    let a = c.args in
    let l = c.loop-q in
    (search rules, omega arith, ends_more row_bytes a.matrix.now a.row a.width l.q l.inside l.invariant.1 c.if-matrix-start-ne0.false l.invariant.2)

pub returns : goal.returns
returns c =
    let a = c.args in
    let l = c.loop-q in
    let e : l.q ≡ row_bytes = omega arith in
    let f : EndsBefore row_bytes a.matrix.now a.row a.width (8 * row_bytes) = rw e at l.invariant.2 in
    sym (is_true (all_below (8 * row_bytes) (within row_bytes a.matrix.now a.row a.width)) (all_in (8 * row_bytes) (within row_bytes a.matrix.now a.row a.width) f))
