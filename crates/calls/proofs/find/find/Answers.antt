use mathlib.Core.Path.{refl, sym, ap, ◌∙◌}
use mathlib.Core.Bool.{not}
use native.Mathlib.Omega.{arith}
use borrow.Author.Tests.{not-false}
use Rattle.answers.specs.Refusals.{given}
use Rattle.records.specs.Views.{job_held}
use Rattle.records.proofs.Encoding.{job_asked}
use Rattle.demands.specs.Calls.{owner}
use Rattle.demands.specs.Roles.{finding}
use Rattle.demands.proofs.Roles.{open_to_both}
use Rattle.calls.proofs.Finding.{find_goes}
use Rattle.calls.proofs.find.find.Goals as goal

pub find_job-requires : goal.find_job-requires
find_job-requires c = (job_asked c.args.file.now _ (sym c.read_job.ensures.value ∙ ap (given job_held) c.in_ok-job.was), omega arith)

pub returns : goal.returns
returns c =
    let a = c.args in
    let read = sym c.read_job.ensures.value ∙ ap (given job_held) c.in_ok-job.was in
    c.find_job.ensures
    ∙ find_goes a.file.now a.work.now a.out.now _ read (sym c.is_empty.ensures ∙ not-false _ (ap not c.if-not-is_empty.false)) (sym c.has_search.ensures ∙ not-false _ (ap not c.if-not-has_search.false)) (omega arith)
    ∙ open_to_both (finding a.work.now a.out.now) a.file.now refl owner a.role
