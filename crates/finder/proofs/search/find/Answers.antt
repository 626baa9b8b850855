use mathlib.Core.Path.{refl, sym, ap, ◌∙◌}
use mathlib.Core.Bool.{Bool, not}
use Prim.Native.Nat.{ℕ}
use Rattle.nodes.specs.Lists.{zeros}
use Rattle.nodes.specs.SetTable.{table_words}
use Rattle.nodes.proofs.SetTable.{zeros_empty}
use borrow.Author.Tests.{not-true, not-false}
use Rattle.finder.specs.Searches.{with_paulis, progress_at, job_in}
use Rattle.finder.proofs.Searches.{given_sized, call-refused, call-searched, call_left}
use Rattle.finder.proofs.search.find.Goals as goal

pub returns-then-not-fits : goal.returns-then-not-fits
returns-then-not-fits c = let a = c.args in sym (call-refused (with_paulis a.rule) a.n a.graph.now a.inputs a.outputs a.measured.now a.work.now a.layers.now a.sets.now (sym c.fits.ensures ∙ not-true _ (ap not c.if-not-fits.true)))

pub rounds-solved-requires : goal.rounds-solved-requires
rounds-solved-requires c =
    let a = c.args in
    (given_sized (with_paulis a.rule) a.n a.graph.now a.inputs a.outputs a.measured.now a.work.now a.layers.now a.sets.now (sym c.fits.ensures ∙ not-false _ (ap not c.if-not-fits.false)), (refl, λ v k. ap (λ (f : ℕ → Bool). f k) (zeros_empty table_words v)), (refl, refl, refl))

pub returns : goal.returns
returns c =
    let a = c.args in
    let k = c.conclude in
    let x = c.rounds-solved.ensures in
    call_left a.n (progress_at (with_paulis a.rule) (job_in a.n a.graph.now a.inputs a.outputs a.measured.now)) c.rounds-solved.result _ _ _ _ x.sets_after k.ensures.result_value (k.ensures.work_after ∙ ap zeros x.sized.rows) x.sized.places x.sized.words (λ q. (c.slice_known-6-1.given q).fits)
    ∙ sym (call-searched (with_paulis a.rule) a.n a.graph.now a.inputs a.outputs a.measured.now a.work.now a.layers.now a.sets.now (sym c.fits.ensures ∙ not-false _ (ap not c.if-not-fits.false)))
