use mathlib.Core.Path.{◌≡◌, refl, ◌∙◌}
use Prim.Native.Nat.{suc, ◌+◌}
use native.Mathlib.Omega.{arith}
use borrow.Author.Tests.{eq-eqb, ne_eqb}
use lib.ListN.{length, get_or}
use Rattle.nodes.specs.Row.{count}
use Rattle.nodes.proofs.Logic.{from_true, from_false}
use Rattle.nodes.proofs.Count.{count-le, count_at, count_not}
use Rattle.records.proofs.ReadingMeasurements.{zero_at}
use Rattle.records.proofs.questions.zeros.Goals as goal
use Rattle.records.proofs.questions.zeros.Goals.{else-byte-eq0, then-byte-eq0}

pub loop-byte-init : goal.loop-byte-init
unfolding count
loop-byte-init c = refl

pub overflow_add-found : goal.overflow_add-found
overflow_add-found c =
    let l = c.loop-byte in
    omega (arith, count-le l.byte-index (zero_at c.args.bytes.now))

pub loop-byte-preserved : goal.loop-byte-preserved
loop-byte-preserved c =
    let l = c.loop-byte in
    let p = c.args.bytes.now in
    let e : l.byte-index + 1 ≡ suc l.byte-index = omega arith in
    rw e (elim c.if-byte-eq0.branch [
      | then-byte-eq0 w ↦ rw (w.found-is, count_at l.byte-index (zero_at p) (from_true (zero_at p l.byte-index) (eq-eqb (get_or p l.byte-index 0) 0 w.if-byte-eq0.true))) (omega arith)
      | else-byte-eq0 w ↦ rw (w.found-is, count_not l.byte-index (zero_at p) (from_false (zero_at p l.byte-index) (ne_eqb (get_or p l.byte-index 0) 0 w.if-byte-eq0.false))) l.invariant
    ])

pub returns : goal.returns
returns c =
    let l = c.loop-byte in
    let p = c.args.bytes.now in
    let e : l.byte-index ≡ length p = omega arith in
    c.from.ensures ∙ rw e at l.invariant
