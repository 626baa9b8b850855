use Rattle.std.proofs.Common.{ℕ, ◌+◌, ◌++◌, [], drop, sym, ap, ◌∙◌, append-nil}
use mathlib.Core.Bool.{Bool, cond}
use borrow.Author.Tests.{eq-eqb, ne_eqb}
use Rattle.arrayvec.specs.ArrayVec.{ArrayVec}
use Rattle.texts.specs.Shown.{shown_number, shown_measured}
use Rattle.texts.proofs.Placed.{leads_start, room_here, leads_on, leads_done}
use Rattle.texts.proofs.Showing.{measured_step, measured_end}
use Rattle.texts.proofs.show.push_measured.Goals.{then-measurement-m, else-measurement-m}
use Rattle.texts.proofs.show.push_measured.Goals as goal

pub loop-v-init : goal.loop-v-init
loop-v-init c = leads_start c.args.text.now.items (shown_measured c.args.m 0 c.args.measurements.now)

pub push_number-requires : goal.push_number-requires
push_number-requires c =
    let l = c.loop-v in
    let ms = c.args.measurements.now in
    room_here l.invariant (shown_number l.v) _ (measured_step ms l.v c.args.m c.loop-v-test.true ∙ ap (λ (t : Bool). cond t (shown_number l.v) [] ++ shown_measured c.args.m (l.v + 1) (drop (l.v + 1) ms)) (eq-eqb _ _ c.if-measurement-m.true)) c.requires.room

pub loop-v-preserved : goal.loop-v-preserved
loop-v-preserved c =
    let l = c.loop-v in
    let ms = c.args.measurements.now in
    let more = shown_measured c.args.m (l.v + 1) (drop (l.v + 1) ms) in
    let next = c.if-measurement-m.text.items in
    elim c.if-measurement-m.branch [
      | then-measurement-m w ↦
          leads_on l.invariant (shown_number l.v) more next (measured_step ms l.v c.args.m c.loop-v-test.true ∙ ap (λ (t : Bool). cond t (shown_number l.v) [] ++ more) (eq-eqb _ _ w.if-measurement-m.true))
          (ap (λ (t : ArrayVec ℕ). t.items) w.text-is ∙ w.push_number.ensures)
      | else-measurement-m w ↦
          leads_on l.invariant [] more next (measured_step ms l.v c.args.m c.loop-v-test.true ∙ ap (λ (t : Bool). cond t (shown_number l.v) [] ++ more) (ne_eqb _ _ w.if-measurement-m.false))
          (ap (λ (t : ArrayVec ℕ). t.items) w.text-is ∙ sym (append-nil l.text.items))
    ]

pub returns : goal.returns
returns c = leads_done c.loop-v.invariant (measured_end c.args.measurements.now c.loop-v.v c.args.m c.loop-v-test.false)
