use mathlib.Core.Path.{◌≡◌, sym, ◌∙◌, ap}
use mathlib.Core.Bool.{true, false, ◌&&◌, not}
use Prim.Native.Nat.{◌+◌}
use borrow.Author.Tests.{not-true, not-false, eq-eqb, ne_eqb}
use lib.Dec.{eqb, ltb}
use lib.ListN.{length}
use Rattle.nodes.specs.Row.{count}
use Rattle.nodes.specs.Lists.{has, all}
use Rattle.flows.specs.Numbers.{mode_number}
use Rattle.records.specs.JobFile.{highest_of, all_allowed}
use Rattle.records.proofs.ReadingMeasurements.{zero_at, allowed_tests}
use Rattle.records.proofs.questions.all_allowed.Goals as goal
use Rattle.records.proofs.questions.all_allowed.Goals.{Start}

-- the question by the three tests that the code makes

tests : (s : Start) → let l = s.args.measurements.now in let o = s.args.outputs.now in all_allowed (mode_number s.args.mode) (has o.nodes.now) 0 l ≡ all (λ v. ltb v (highest_of (mode_number s.args.mode) + 1)) l && (eqb (count (length l) (zero_at l)) o.distinct && all (zero_at l) o.nodes.now)
tests s =
    let l = s.args.measurements.now in
    let o = s.args.outputs.now in
    allowed_tests l o.nodes.now o.distinct (rw s.requires o.asked.0) (rw s.requires o.asked.1) (mode_number s.args.mode)

pub returns-then-not-below : goal.returns-then-not-below
returns-then-not-below c =
    let l = c.args.measurements.now in
    let low : all (λ v. ltb v (highest_of (mode_number c.args.mode) + 1)) l ≡ false = rw (c.from-past.ensures, c.highest_of.ensures) at (sym c.below.ensures ∙ not-true _ (ap not c.if-not-below.true)) in
    sym (tests (goal.at.returns-then-not-below c).Start ∙ rw low)

pub returns-then-zeros-outputs : goal.returns-then-zeros-outputs
returns-then-zeros-outputs c =
    let l = c.args.measurements.now in
    let o = c.args.outputs.now in
    let low : all (λ v. ltb v (highest_of (mode_number c.args.mode) + 1)) l ≡ true = rw (c.from-past.ensures, c.highest_of.ensures) at (sym c.below.ensures ∙ not-false _ (ap not c.if-not-below.false)) in
    sym (tests (goal.at.returns-then-zeros-outputs c).Start ∙ rw (low, ne_eqb (count (length l) (zero_at l)) o.distinct (rw c.zeros.ensures at c.if-zeros-outputs.true)))

pub zero_at-requires : goal.zero_at-requires
zero_at-requires c = rw c.requires c.args.outputs.now.asked.0

pub returns : goal.returns
returns c =
    let l = c.args.measurements.now in
    let o = c.args.outputs.now in
    let low : all (λ v. ltb v (highest_of (mode_number c.args.mode) + 1)) l ≡ true = rw (c.from-past.ensures, c.highest_of.ensures) at (sym c.below.ensures ∙ not-false _ (ap not c.if-not-below.false)) in
    c.zero_at.ensures ∙ sym (tests (goal.at.returns c).Start ∙ rw (low, eq-eqb (count (length l) (zero_at l)) o.distinct (rw c.zeros.ensures at c.if-zeros-outputs.false)))
