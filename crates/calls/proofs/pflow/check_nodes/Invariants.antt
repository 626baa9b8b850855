use mathlib.Core.Path.{◌≡◌}
use Prim.Native.Nat.{◌-◌}
use Rattle.flows.specs.Numbers.{mode_number}
use Rattle.verdicts.specs.Verdict.{each, each_from, definition_ask}
use Rattle.calls.specs.Loaded.{job_loaded, flow_loaded}
use Rattle.calls.proofs.pflow.check_nodes.Given as goal

abbrev pub invariant-loop-i : goal.invariant-loop-i
invariant-loop-i l = each l.job.n (definition_ask (job_loaded l.job) (flow_loaded l.flow) (mode_number l.job.mode)) ≡ each_from l.i (l.job.n - l.i) (definition_ask (job_loaded l.job) (flow_loaded l.flow) (mode_number l.job.mode))
