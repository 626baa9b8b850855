use mathlib.Core.Path.{◌≡◌}
use mathlib.Core.Option.{Option}
use Prim.Native.Nat.{ℕ, ◌-◌}
use Rattle.answers.specs.Answer.{Refusal}
use Rattle.verdicts.specs.Verdict.{each, each_from, domain_ask}
use Rattle.calls.specs.Loaded.{job_loaded, flow_loaded}
use Rattle.calls.specs.declared.job.Job.{Job as JobLoaded}
use Rattle.calls.specs.declared.job.Flow.{Flow as FlowLoaded}
use Rattle.calls.proofs.validate.check_members.Given as goal

abbrev pub asks : JobLoaded → FlowLoaded → ℕ → Option Refusal
asks job flow u = domain_ask (job_loaded job) (flow_loaded flow) u

abbrev pub invariant-loop-u : goal.invariant-loop-u
invariant-loop-u l = each l.job.n (asks l.job l.flow) ≡ each_from l.u (l.job.n - l.u) (asks l.job l.flow)
