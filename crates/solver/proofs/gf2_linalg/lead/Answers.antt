use mathlib.Core.Path.{◌≡◌, refl}
use Prim.Native.Nat.{◌+◌, ◌*◌, ◌<◌, ◌^◌}
use native.Mathlib.Omega.{arith}
use lib.ListN.{get_or}
use lib.Count.{trailing_le}
use Rattle.solver.specs.Solver.{row_bytes}
use Rattle.solver.proofs.WorkMatrix.{none_start, none_more, lead_none, lead_inside, lead_outside}
use borrow.Author.Rules.{rules}
use Rattle.solver.proofs.gf2_linalg.lead.Goals as goal

pub loop-q-init : goal.loop-q-init
loop-q-init c = none_start row_bytes c.args.matrix.now c.args.row

pub overflow_cast-k : goal.overflow_cast-k
overflow_cast-k c =
    let a = c.args in
    let l = c.loop-q in
    omega (arith, trailing_le 8 (get_or a.matrix.now (a.row * row_bytes + l.q) 0))

pub overflow_add-k : goal.overflow_add-k
overflow_add-k c =
    let a = c.args in
    let l = c.loop-q in
    omega (arith, trailing_le 8 (get_or a.matrix.now (a.row * row_bytes + l.q) 0))

pub returns-then-k-cols : goal.returns-then-k-cols
returns-then-k-cols c =
    let a = c.args in
    let l = c.loop-q in
    let byte : get_or a.matrix.now (a.row * row_bytes + l.q) 0 < 2 ^ 8 = omega (arith, c.shared_slice_known-1.given (a.row * row_bytes + l.q)) in
    lead_inside row_bytes a.matrix.now a.row l.q (get_or a.matrix.now (a.row * row_bytes + l.q) 0) refl l.invariant byte c.if-byte-ne0.true a.cols c.if-k-cols.true

pub returns-then-byte-ne0 : goal.returns-then-byte-ne0
returns-then-byte-ne0 c =
    let a = c.args in
    let l = c.loop-q in
    let byte : get_or a.matrix.now (a.row * row_bytes + l.q) 0 < 2 ^ 8 = omega (arith, c.shared_slice_known-1.given (a.row * row_bytes + l.q)) in
    lead_outside row_bytes a.matrix.now a.row l.q (get_or a.matrix.now (a.row * row_bytes + l.q) 0) refl l.invariant byte c.if-byte-ne0.true a.cols c.if-k-cols.false

pub loop-q-preserved : goal.loop-q-preserved
loop-q-preserved c =
    let a = c.args in
    let l = c.loop-q in
    none_more row_bytes a.matrix.now a.row l.q l.invariant c.if-byte-ne0.false

pub returns : goal.returns
returns c =
    let a = c.args in
    let l = c.loop-q in
    let e : l.q ≡ row_bytes = omega arith in
    lead_none row_bytes a.matrix.now a.row a.cols (rw e at l.invariant) c.requires.1
