use native.Mathlib.Omega.{arith}
use Rattle.records.proofs.Records.{bytes_known}
use Rattle.records.proofs.JobLaid.{job_laid}
use Rattle.records.proofs.Places.{job_promised}
use Rattle.records.proofs.job_file.read_job.Goals as goal

pub returns-clause-laid_out : goal.returns-clause-laid_out
returns-clause-laid_out c = job_laid c.args.file.now c.read_records.result (bytes_known c.args.file.now (λ i. omega (arith, c.shared_slice_known-1.given i))) c.read_records.ensures

pub returns-clause-placed : goal.returns-clause-placed
returns-clause-placed c = job_promised c.args.file.now c.read_records.result c.read_records.ensures
