use mathlib.Core.Path.{◌∙◌, fun_ext}
use Rattle.records.proofs.JobFile.{has_small}
use Rattle.records.proofs.questions.Outputs.set.Goals as goal

pub returns : goal.returns
returns c = let s = c.args.self.now in c.set_of.ensures ∙ fun_ext (has_small s.n s.nodes.now s.few s.asked.0)
