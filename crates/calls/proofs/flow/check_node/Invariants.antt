use mathlib.Core.Path.{◌≡◌}
use mathlib.Core.Bool.{Bool}
use mathlib.Core.Option.{Option}
use Prim.Native.Nat.{ℕ, ◌<◌}
use lib.Dec.{T}
use Rattle.nodes.specs.Row.{members}
use Rattle.nodes.specs.NodeSet.{capacity, left_of}
use Rattle.nodes.specs.SetTable.{set_at}
use Rattle.nodes.proofs.Left.{listed}
use Rattle.answers.specs.Answer.{Refusal}
use Rattle.verdicts.specs.Verdict.{each, causal_ask}
use Rattle.calls.specs.Loaded.{job_loaded, flow_loaded}
use Rattle.calls.specs.declared.job.Job.{Job as JobLoaded}
use Rattle.calls.specs.declared.job.Flow.{Flow as FlowLoaded}
use Rattle.calls.proofs.AskingDefinition.{only}
use Rattle.calls.proofs.flow.check_node.Given as goal

abbrev pub asks : JobLoaded → FlowLoaded → (i : ℕ) → ℕ → Option Refusal
asks job flow i = causal_ask (job_loaded job) (flow_loaded flow) i

-- those of the members that the iterator has left
abbrev pub invariant-loop-k : goal.invariant-loop-k
invariant-loop-k l =
    let left : ℕ → Bool = listed (members capacity (left_of l.k-iterator.set l.k-iterator.at l.k-iterator.left)) in record {
      can : goal.iterator-loop-k.can_next l.k-iterator;
      ends : goal.iterator-loop-k.is_finite l.k-iterator;
      small : (k : ℕ) → T (left k) → k < l.job.n;
      same : each l.job.n (only (set_at l.flow.sets.now l.i) (asks l.job l.flow l.i)) ≡ each l.job.n (only left (asks l.job l.flow l.i));
    }
