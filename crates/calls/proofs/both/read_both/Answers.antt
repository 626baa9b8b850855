use mathlib.Core.Path.{sym, ap, ◌∙◌}
use Rattle.answers.specs.Refusals.{given}
use Rattle.records.specs.Views.{job_held, flow_held}
use Rattle.records.proofs.Encoding.{job_asked, job-after}
use Rattle.records.proofs.Records.{bytes_known}
use native.Mathlib.Omega.{arith}
use Rattle.calls.proofs.both.read_both.Goals as goal

pub returns-clause-both_read : goal.returns-clause-both_read
returns-clause-both_read c =
    let read = sym c.read_job.ensures.value ∙ ap (given job_held) c.in_ok-job.was in
    let asked = rw c.in_ok-flow.was at c.read.ensures.payloads in record {
      valid = job_asked c.args.file.now _ read;
      bytes = job-after c.args.file.now _ (bytes_known c.args.file.now (λ i. omega (arith, c.shared_slice_known-1.given i))) read;
      reads = sym c.read.ensures.value ∙ ap (given flow_held) c.in_ok-flow.was;
      layer_bytes = rw c.in_ok-flow.was at c.read.ensures.bytes;
      layers = asked.0;
      sets = asked.1;
    }
