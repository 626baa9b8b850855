use mathlib.Core.Path.{sym, ap, ◌∙◌}
use Rattle.answers.specs.Message.{put_whole}
use Rattle.programs.specs.Printing.{refused_of}
use Rattle.std.specs.Prelude.{Option}
use Rattle.answers.specs.declared.RefusalRecord.{RefusalRecord}
use Rattle.demands.specs.Programs.{error_of}
use Rattle.programs.proofs.Streams.{nothing_put}
use Rattle.programs.proofs.report.Goals as goal

pub returns-in-None : goal.returns-in-None
returns-in-None c = let a = c.args in nothing_put a.error.now ∙ sym (ap (λ (t : Option RefusalRecord). put_whole (error_of (refused_of t)) a.error.now) c.in-None.is)

pub returns-in-Some : goal.returns-in-Some
returns-in-Some c = let a = c.args in c.message.ensures ∙ sym (ap (λ (t : Option RefusalRecord). put_whole (error_of (refused_of t)) a.error.now) c.in-Some.is)
