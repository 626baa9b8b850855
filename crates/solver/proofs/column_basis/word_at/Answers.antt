use native.Mathlib.Omega.{arith}
use mathlib.Core.Path.{◌≡◌, refl, subst}
use Prim.Native.Nat.{ℕ, ◌+◌, ◌-◌}
use Rattle.solver.proofs.BasisTables.{IsWord, word_none, word_more}
use Rattle.solver.proofs.column_basis.word_at.Goals as goal

pub loop-left-init : goal.loop-left-init
loop-left-init c = let a = c.args in (omega arith, word_none a.matrix.now (a.at + 8))

pub loop-left-preserved : goal.loop-left-preserved
loop-left-preserved c = let a = c.args in let l = c.loop-left in let w = c.as_word in
    (omega arith, word_more a.matrix.now (a.at + (l.left - 1)) (a.at + l.left) (8 - l.left) (8 - (l.left - 1)) l.word w.result _ (omega arith) (omega arith) (omega arith) l.invariant.1 w.ensures.0 w.ensures.1 refl)

pub returns : goal.returns
returns c = let a = c.args in let l = c.loop-left in let z : l.left ≡ 0 = omega arith in
    let w : IsWord a.matrix.now a.at 8 l.word = let p : a.at + l.left ≡ a.at = omega arith in let n : 8 - l.left ≡ 8 = omega arith in subst (λ (x : ℕ). IsWord a.matrix.now x 8 l.word) p (subst (λ (x : ℕ). IsWord a.matrix.now (a.at + l.left) x l.word) n l.invariant.1) in
    λ k h. w.digits k (omega arith)

pub loop-left-smaller : goal.loop-left-smaller
loop-left-smaller c = omega arith
