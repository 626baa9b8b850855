-- A flow that is right for the planes, in mode 2, is right for the measurements inferred from them, in mode 3.
use Prim.Native.Nat.{ℕ, ◌<◌}
use mathlib.Core.Path.{◌≡◌, refl}
use mathlib.Core.Option.{none}
use mathlib.Core.Logic.{inl, inr}
use native.Mathlib.Omega.{arith}
use lib.Dec.{T}
use Rattle.flows.specs.Job.{Job}
use Rattle.flows.proofs.Inferred.{infers, measured_as, own_holds-infers, need_infers}
use Rattle.records.specs.JobFile.{mode_planes, mode_pauli}
use Rattle.records.specs.FlowFile.{Flow}
use Rattle.verdicts.specs.Verdict as Q
use Rattle.verdicts.specs.Rule.{MeetsFlowRule}
use Rattle.verdicts.proofs.Rule.{IsReadable, verify_rule}

module _ (j : Job) (f : Flow) (m : ℕ → ℕ) (inferred : (u : ℕ) → u < j.nodes → T (infers (j.measured u) (m u))) where
  -- a flow that obeys the rule of mode 2 obeys that of mode 3 on the inferred measurements, with the same layers and sets
  pub inferred_rule : MeetsFlowRule mode_planes j f → MeetsFlowRule mode_pauli (measured_as j m) f
  inferred_rule p = record {
    domain = p.domain;
    layers = record { outputs = p.layers.outputs; others = λ q. absurd (omega (arith, q)) };
    own = λ i s. own_holds-infers j m (f.set i) i (inferred i s.0) (p.own i s);
    later = λ i k s l t. p.later i k s l (need_infers j m (f.set i) i k t);
  }

  -- so the verifier accepts it there too
  pub inferred_verified : IsReadable j f → IsReadable (measured_as j m) f → Q.verify j f mode_planes ≡ none → Q.verify (measured_as j m) f mode_pauli ≡ none
  inferred_verified r r' e =
      (verify_rule (measured_as j m) f r' mode_pauli (inr refl)).1 (inferred_rule ((verify_rule j f r mode_planes (inl refl)).0 e))
