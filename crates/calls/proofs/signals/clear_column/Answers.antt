use Prim.Native.Nat.{ℕ, ◌+◌, ◌*◌, ◌-◌, ◌/◌, ◌%◌, ◌<◌}
use mathlib.Core.Path.{◌≡◌, sym, ap, ◌∙◌, subst}
use mathlib.Core.Bool.{false}
use native.Mathlib.Omega.{arith}
use borrow.Author.Tests.{lt-ltb, le-ltb}
use lib.Bits.{bit_and}
use lib.Dec.{ltb}
use lib.ListN.{length, get_or, set}
use Rattle.records.specs.BitRows.{byte_bits, row_width}
use Rattle.calls.proofs.BuildingSignals.{in_byte, mask_lt, digit_clear, byte_within, IsPartlySet, partly_none, ltb_next, partly_next, cleared}
use Rattle.calls.proofs.signals.clear_column.Goals as goal
use Rattle.calls.proofs.signals.clear_column.Goals.{In-loop-j}

pub overflow_sub-keep : goal.overflow_sub-keep
overflow_sub-keep c = let i = c.args.i in omega (arith, c.byte_mask-keep.ensures, mask_lt (i % byte_bits) (in_byte i))

pub loop-j-init : goal.loop-j-init
loop-j-init c = let a = c.args in partly_none a.n a.i false a.list.now (λ r. ltb r 0) c.requires.2 (λ r h. le-ltb r 0 (omega arith))

-- the byte lies in the list

inside : (c : In-loop-j) → let l = c.loop-j in c.row_width-width.result * l.j + c.args.i / byte_bits < length l.list
inside c = let l = c.loop-j in let a = c.args in rw c.row_width-width.ensures (omega (arith, l.invariant.size, byte_within a.n a.i l.j c.requires.1 (omega arith)))

pub loop-j-preserved : goal.loop-j-preserved
loop-j-preserved c =
    let l = c.loop-j in
    let a = c.args in
    let w = c.row_width-width in
    let at : w.result * l.j + a.i / byte_bits ≡ row_width a.n * l.j + a.i / byte_bits = ap (λ (k : ℕ). k * l.j + a.i / byte_bits) w.ensures in
    let old : get_or l.list (row_width a.n * l.j + a.i / byte_bits) 0 < 256 = omega (arith, c.slice_known-in-loop-j-1.given (row_width a.n * l.j + a.i / byte_bits)) in
    subst (λ (t : ℕ). IsPartlySet a.n a.i false (λ r. ltb r (l.j + 1)) a.list.now (set l.list t (bit_and (get_or l.list t 0) (255 - c.byte_mask-keep.result)))) (sym at)
    (partly_next a.n a.i false a.list.now c.requires.1 (λ r. ltb r l.j) (λ r. ltb r (l.j + 1)) l.list l.j (bit_and (get_or l.list (row_width a.n * l.j + a.i / byte_bits) 0) (255 - c.byte_mask-keep.result))
    (omega arith) (lt-ltb l.j (l.j + 1) (omega arith)) (λ r d. ltb_next r l.j d) l.invariant
    (ap (λ (m : ℕ). bit_and (get_or l.list (row_width a.n * l.j + a.i / byte_bits) 0) (255 - m)) c.byte_mask-keep.ensures
    ∙ digit_clear (a.i % byte_bits) (get_or l.list (row_width a.n * l.j + a.i / byte_bits) 0) (in_byte a.i) old))

pub returns : goal.returns
returns c =
    let l = c.loop-j in
    let a = c.args in
    cleared a.n a.i (λ r. ltb r l.j) a.list.now l.list l.invariant (λ r h. lt-ltb r l.j (omega arith))
