use Rattle.std.proofs.Common.{◌++◌, [], ◌∷◌, ℕ, List, length, get_or, length-append, arith, sym, ap, ◌∙◌, append-nil}
use denote.Enum.Bare.{same_true, same_false}
use Rattle.arrayvec.specs.ArrayVec.{ArrayVec}
use Rattle.texts.specs.contracts.names.Name.{the_type}
use Rattle.texts.specs.JobText.{behind}
use Rattle.texts.specs.Views.{place_of, bytes_of}
use Rattle.texts.specs.declared.names.Name.{Name}
use Rattle.texts.specs.declared.names.Name.TheVariants.{Nodes}
use Rattle.texts.proofs.Numbers.{one_more, none_more, behind_none}
use Rattle.texts.proofs.lists.behind.Goals.{then-eq, else-eq}
use Rattle.texts.proofs.lists.behind.Goals as goal

pub loop-number-preserved : goal.loop-number-preserved
loop-number-preserved c =
    let l = c.loop-number in
    let ps = c.as_slice-number-items.result.now in
    let x = get_or ps l.number-index (Nodes, 0) in
    elim c.if-eq.branch [
      | then-eq w ↦
          let grown = ap (λ (v : ArrayVec ℕ). v.items) w.values-is ∙ w.push.ensures.items in (
            omega (arith, ap length grown, length-append l.values.items (x.1 ∷ []), l.invariant.0),
            one_more ps l.number-index (Nodes, 0) c.loop-number-test.true l.values.items c.if-eq.values.items c.args.name (same_true the_type (tt {0}) _ _ (sym c.eq.ensures ∙ w.if-eq.true)) grown ∙ l.invariant.1,
          )
      | else-eq w ↦
          let same = ap (λ (v : ArrayVec ℕ). v.items) w.values-is in (
            omega (arith, ap length same, l.invariant.0),
            none_more ps l.number-index (Nodes, 0) c.loop-number-test.true l.values.items c.if-eq.values.items c.args.name (same_false the_type _ _ (sym c.eq.ensures ∙ w.if-eq.false)) same ∙ l.invariant.1,
          )
    ]

pub returns : goal.returns
returns c =
    let l = c.loop-number in
    let ps = c.as_slice-number-items.result.now in
    sym (append-nil l.values.items) ∙ ap (λ (t : List ℕ). l.values.items ++ t) (sym (behind_none c.args.name ps l.number-index c.loop-number-test.false)) ∙ l.invariant.1 ∙ ap (λ (t : List (Name × ℕ)). behind (place_of c.args.name) (bytes_of t)) c.as_slice-number-items.ensures.value
