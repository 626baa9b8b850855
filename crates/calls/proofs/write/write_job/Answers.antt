use mathlib.Core.Path.{refl, ◌∙◌}
use mathlib.Core.Option.{none}
use Rattle.records.specs.JobLists.{given}
use Rattle.demands.specs.Calls.{owner}
use Rattle.demands.specs.Roles.{writing}
use Rattle.demands.proofs.Roles.{open_to_both}
use Rattle.calls.proofs.write.write_job.Goals as goal

pub returns : goal.returns
returns c =
    let a = c.args in
    c.write_given.ensures ∙ open_to_both (writing a.out.now) (given a.n a.mode a.edges.now a.inputs.now a.outputs.now a.measurements.now none) refl owner a.role
