-- A job that was read is its records, one behind the other, and what is left.
use Rattle.std.specs.Prelude.{ℕ, ◌≡◌, List, ◌++◌, Result, Ok, Err, IfOk}
use mathlib.Core.Path.{sym}
use Rattle.answers.specs.Refusals.{given}
use Rattle.answers.specs.declared.Refusal as Refused
use Rattle.records.specs.JobFile.{read_job}
use Rattle.records.specs.Encoding.{IsBytes, job_bytes}
use Rattle.records.specs.Views.{job_held}
use Rattle.records.specs.declared.job_file.JobFile as Code
use Rattle.records.proofs.Encoding.{job_exact}

pub job_laid : (s : List ℕ) (r : Result Code.JobFile Refused.Refusal) → IsBytes s → given job_held r ≡ read_job s → IfOk r (λ f. s ≡ job_bytes (job_held f) ++ f.after.now)
job_laid s (Ok f) h e = ((job_exact s (job_held f) h).0 (sym e)).0
job_laid s (Err q) h e = tt
