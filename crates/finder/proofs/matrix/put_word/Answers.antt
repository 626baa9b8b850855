use native.Mathlib.Omega.{arith}
use mathlib.Core.Path.{refl}
use Rattle.finder.proofs.WorkMatrix.{putting_start, putting_step, putting_end}
use Rattle.finder.proofs.matrix.put_word.Goals as goal

pub loop-i-init : goal.loop-i-init
loop-i-init c = let a = c.args in (omega arith, putting_start a.at a.word a.work.now)

pub overflow_add-work : goal.overflow_add-work
overflow_add-work c = let l = c.loop-i in omega (arith, l.invariant.1.size)

pub bounds-work-at : goal.bounds-work-at
bounds-work-at c = let l = c.loop-i in omega (arith, l.invariant.1.size)

pub loop-i-preserved : goal.loop-i-preserved
loop-i-preserved c = let a = c.args in let l = c.loop-i in (omega arith, putting_step a.at a.word l.i _ l.left _ a.work.now l.work _ refl (omega (arith, l.invariant.1.size)) refl refl l.invariant.1)

pub shape_of-work : goal.shape_of-work
shape_of-work c = c.loop-i.invariant.1.size

pub returns : goal.returns
returns c = let a = c.args in let l = c.loop-i in putting_end a.at a.word l.i l.left a.work.now l.work (omega arith) l.invariant.1
