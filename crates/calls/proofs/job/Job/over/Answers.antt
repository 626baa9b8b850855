use native.Mathlib.Omega.{arith}
use Rattle.records.specs.Views.{job_held}
use Rattle.calls.proofs.Loaded.{job_is_loaded}
use Rattle.calls.proofs.job.Job.over.Goals as goal

pub invariant_of-result : goal.invariant_of-result
invariant_of-result c =
    let few = c.requires.valid.few in record {
      few = few;
      table = c.requires.table;
      measured_each = omega (arith, few, c.requires.bytes);
    }

pub returns : goal.returns
returns c = record {
  job_value = job_is_loaded (job_held c.args.job.now) c.requires.valid _ _ c.set_of.result c.set_of-2.result c.requires.edges c.set_of.ensures c.set_of-2.ensures c.requires.measurements;
  mode_value = c.working_mode.ensures;
}
