-- What the verifier accepts, said by sets and layers: what is asked of each set alone, and which nodes have to be later. One rule for
-- modes 2 and 3, and that of mode 1 beside it.
use Rattle.std.specs.Prelude.{ℕ, ◌<◌, T, eqb}
use Rattle.flows.specs.Job.{Job}
use Rattle.flows.specs.Conditions.{own_holds, need, causal_holds, causal_need}
use Rattle.records.specs.JobFile.{mode_causal, mode_pauli}
use Rattle.records.specs.FlowFile.{Flow}
use Rattle.verdicts.specs.Published.{IsMeasured, IsDomain, MeetsLayerRule}

-- the entries are the measured nodes, the layers obey their rule, and for each measured i its set holds by itself and each node that
-- i needs is later
pub record MeetsFlowRule (mode : ℕ) (j : Job) (f : Flow) : Type 0 where
  pub domain : IsDomain j f.entry
  pub layers : MeetsLayerRule mode j f.layer
  pub own : (i : ℕ) → IsMeasured j i → T (own_holds j (f.set i) i)
  pub later : (i k : ℕ) → IsMeasured j i → k < j.nodes → T (need j (eqb mode mode_pauli) (f.set i) i k) → f.layer k < f.layer i

pub record MeetsCausalRule (j : Job) (f : Flow) : Type 0 where
  pub domain : IsDomain j f.entry
  pub layers : MeetsLayerRule mode_causal j f.layer
  pub own : (i : ℕ) → IsMeasured j i → T (causal_holds j (f.set i) i)
  pub later : (i k : ℕ) → IsMeasured j i → k < j.nodes → T (causal_need j (f.set i) i k) → f.layer k < f.layer i
