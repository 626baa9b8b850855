use mathlib.Core.Path.{◌≡◌, sym, ap, ◌∙◌}
use mathlib.Core.Bool.{Bool, ◌&&◌}
use Prim.Native.Nat.{◌+◌, ◌-◌}
use native.Mathlib.Omega.{arith}
use lib.ListN.{get_or}
use Rattle.nodes.proofs.Logic.{and_all, and_none}
use Rattle.records.proofs.ReadingLoops.{rises_start, rises_end, rises_no, rises_yes}
use borrow.Author.Rules.{rules}
use Rattle.records.proofs.questions.rising.Goals as goal
use Rattle.records.proofs.questions.rising.Goals.{else-nodes-i, then-nodes-i}

pub loop-i-init : goal.loop-i-init
loop-i-init c = (search rules, rises_start c.args.nodes.now)

pub loop-i-preserved : goal.loop-i-preserved
loop-i-preserved c =
    let l = c.loop-i in
    let p = c.args.nodes.now in
    let e : l.i + 1 - 1 ≡ l.i = omega arith in (
      search rules,
      rw e (elim c.if-nodes-i.branch [
        | then-nodes-i w ↦ rw w.ok-is (l.invariant.1 ∙ ap (λ (x : Bool). l.ok && x) (rises_no (get_or p (l.i - 1) 0 + 1) p l.i (omega arith) (omega arith)) ∙ and_none l.ok)
        | else-nodes-i w ↦ rw w.ok-is (l.invariant.1 ∙ ap (λ (x : Bool). l.ok && x) (rises_yes (get_or p (l.i - 1) 0 + 1) p l.i (omega arith) (omega arith)))
      ]),
    )

pub returns : goal.returns
returns c =
    let l = c.loop-i in
    let p = c.args.nodes.now in
    sym (l.invariant.1 ∙ ap (λ (x : Bool). l.ok && x) (rises_end (get_or p (l.i - 1) 0 + 1) p l.i (omega arith)) ∙ and_all l.ok)
