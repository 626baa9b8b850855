use mathlib.Core.Path.{◌≡◌, sym, ap, ◌∙◌}
use mathlib.Core.Bool.{Bool, ◌&&◌}
use Prim.Native.Nat.{◌+◌}
use native.Mathlib.Omega.{arith}
use lib.Dec.{ltb}
use lib.ListN.{get_or, drop}
use borrow.Author.Tests.{lt-ltb}
use Rattle.nodes.proofs.Logic.{and_all, and_turn}
use Rattle.nodes.specs.Lists.{all}
use Rattle.records.proofs.ReadingLoops.{all_end, all_next, covers, none_below}
use Rattle.records.proofs.questions.below.Goals as goal
use Rattle.records.proofs.questions.below.Goals.{else-v-top, then-v-top}

pub returns-then-n-eq0 : goal.returns-then-n-eq0
returns-then-n-eq0 c = rw c.if-n-eq0.true (sym (none_below c.args.nodes.now))

pub loop-v-init : goal.loop-v-init
loop-v-init c = rw (lt-ltb 0 c.args.n (omega arith))

pub loop-v-preserved : goal.loop-v-preserved
loop-v-preserved c =
    let l = c.loop-v in
    let a = c.args in
    let p = a.nodes.now in
    let rest : Bool = all (λ v. ltb v a.n) (drop (l.v-index + 1) p) in
    let v = get_or p l.v-index 0 in
    let step : all (λ v. ltb v a.n) p ≡ ltb l.top a.n && (ltb v a.n && rest) = l.invariant ∙ ap (λ (x : Bool). ltb l.top a.n && x) (all_next (λ v. ltb v a.n) p l.v-index (omega arith)) in
    elim c.if-v-top.branch [
      | then-v-top w ↦ rw w.top-is (step ∙ and_turn (ltb l.top a.n) (ltb v a.n) rest ∙ covers l.top v a.n rest (omega arith))
      | else-v-top w ↦ rw w.top-is (step ∙ covers v l.top a.n rest (omega arith))
    ]

pub returns : goal.returns
returns c =
    let l = c.loop-v in
    let a = c.args in
    rw c.from.ensures (sym (l.invariant ∙ ap (λ (x : Bool). ltb l.top a.n && x) (all_end (λ v. ltb v a.n) a.nodes.now l.v-index (omega arith)) ∙ and_all (ltb l.top a.n)))
