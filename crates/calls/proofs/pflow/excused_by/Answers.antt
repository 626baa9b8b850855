use mathlib.Core.Path.{ap, sym, ◌∙◌, fun_ext}
use mathlib.Core.Bool.{Bool, not, ◌&&◌}
use borrow.Author.Tests.{not-true, not-false}
use lib.Dec.{leb}
use lib.ListN.{get_or}
use Rattle.nodes.proofs.Logic.{and_none}
use Rattle.calls.specs.Loaded.{within}
use Rattle.calls.proofs.AskingDefinition.{range_cut, two_of, one_of}
use Rattle.calls.proofs.pflow.excused_by.Goals as goal

pub returns-then-not-excuses : goal.returns-then-not-excuses
returns-then-not-excuses c = let a = c.args in
    let other = sym c.excuses.ensures ∙ not-true _ (ap not c.if-not-excuses.true) in
    record {
      members = c.empty-none.ensures ∙ fun_ext (λ v. sym (rw other (and_none (within a.job.now.n v))));
      odds = c.empty-none.ensures ∙ fun_ext (λ v. sym (rw other (and_none (within a.job.now.n v))));
      ys = c.empty-none.ensures ∙ fun_ext (λ v. sym (rw other (and_none (within a.job.now.n v))));
    }

pub returns : goal.returns
returns c = let y = c in
    let x = y in
    let a = x.args in
    let here = sym x.excuses.ensures ∙ not-false _ (ap not x.if-not-excuses.false) in
    record {
      members = c.difference.ensures ∙ fun_ext (λ v. rw (here, x.measured_from-x.ensures, c.measured_from-z.ensures) (range_cut (within a.job.now.n v) (leb 4 (get_or a.job.now.measured.now v 0)) (leb 6 (get_or a.job.now.measured.now v 0)) ∙ ap (λ (t : Bool). within a.job.now.n v && t) (two_of 4 (get_or a.job.now.measured.now v 0))));
      odds = c.difference-2.ensures ∙ fun_ext (λ v. rw (here, y.measured_from-y.ensures, c.measured_from-past.ensures) (range_cut (within a.job.now.n v) (leb 5 (get_or a.job.now.measured.now v 0)) (leb 7 (get_or a.job.now.measured.now v 0)) ∙ ap (λ (t : Bool). within a.job.now.n v && t) (two_of 5 (get_or a.job.now.measured.now v 0))));
      ys = c.difference-3.ensures ∙ fun_ext (λ v. rw (here, y.measured_from-y.ensures, c.measured_from-z.ensures) (range_cut (within a.job.now.n v) (leb 5 (get_or a.job.now.measured.now v 0)) (leb 6 (get_or a.job.now.measured.now v 0)) ∙ ap (λ (t : Bool). within a.job.now.n v && t) (one_of 5 (get_or a.job.now.measured.now v 0))));
    }
