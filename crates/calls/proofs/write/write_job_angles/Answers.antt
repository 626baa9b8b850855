use mathlib.Core.Path.{refl, sym}
use mathlib.Core.Option.{some}
use Rattle.records.specs.JobLists.{JobLists, given}
use Rattle.demands.proofs.Roles.{owners_only}
use Rattle.calls.proofs.write.write_job_angles.Goals as goal
use Rattle.calls.proofs.write.write_job_angles.Goals.{Start}

abbrev lists : Start → JobLists
lists s = let a = s.args in given a.n a.mode a.edges.now a.inputs.now a.outputs.now a.measurements.now (some a.angles.now)

pub returns-then-role-ne-OWNER : goal.returns-then-role-ne-OWNER
returns-then-role-ne-OWNER c = sym (owners_only.written c.args.role c.if-role-ne-OWNER.true (lists (goal.at.returns-then-role-ne-OWNER c).Start) refl c.args.out.now)
