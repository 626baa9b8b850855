-- Every case, every listed difference and every case with angles holds: what is answered by computation, what the papers say by their conditions.
use Prim.Native.Nat.{ℕ, zero, suc, ◌<◌}
use mathlib.Core.Path.{◌≡◌, refl, subst}
use mathlib.Core.Bool.{Bool}
use mathlib.Core.Option.{none}
use mathlib.Core.List.{List, [], ◌∷◌, ◌++◌}
use mathlib.Core.Logic.{◌⊎◌, inl, inr}
use native.Mathlib.Omega.{arith}
use lib.Dec.{T, eqb→eq}
use lib.Ieee.{eq, lt, of_bits, nan_bits}
use Rattle.nodes.specs.Bit.{bit, digits}
use Rattle.nodes.specs.Row.{parity, any_below, all_below, count, lowest_from, members_from}
use Rattle.solver.specs.System.{solve}
use Rattle.solver.specs.WorkMatrix.{entry_of}
use Rattle.solver.specs.Solver.{matrix_fits, both_fit, well_shaped, solve_asks}
use Rattle.flows.specs.Job.{Job, odd, own, plane_xy, plane_yz, plane_xz}
use Rattle.flows.specs.Branch.{branches, first_solvable}
use Rattle.flows.specs.Search.{rounds}
use Rattle.angles.specs.Angle.{inferred_in, inferred_byte, read_bits, in_range, entry_allowed}
use Rattle.angles.specs.AngleRecord.{little, angles_allowed, inferred_bytes}
use Rattle.answers.specs.Answer.{gives}
use Rattle.records.specs.Records.{length_field, part, checked, written, each_asks, in_two_bytes, from_two_bytes}
use Rattle.nodes.specs.Lists.{has, list_of, all}
use Rattle.records.specs.Format.{decode_then}
use Rattle.records.specs.JobFile.{JobFile, mode_causal, mode_planes, mode_pauli, rises, pairs_rise, allows, all_allowed, opening_asks, edges_asks, nodes_asks, measurements_asks, angles_asks, read_job, has_edge, job_of}
use Rattle.records.specs.JobLists.{job_with}
use Rattle.records.specs.FlowFile.{FlowFile, entries_in, all_entries, entry_below, entries_rise, entry_bytes, sets_asks, read_flow, set_in, entry_in, flow_of}
use Rattle.verdicts.specs.Verdict.{ask, each_from, node_ask, causal_ask, verify}
use Rattle.demands.specs.Calls.{find_asks, read_both, judge, verify_asks}
use Rattle.records.specs.Encoding.{flow_with, entries_for}
use Rattle.demands.specs.Programs.{find_program, verify_program}
use Rattle.verdicts.specs.Published.{IsStrictOrder, IsMeasured, HasNoInputs, IsPublishedFlow, ByLayer}
use Rattle.nodes.specs.Lists.{equal}
use Rattle.demands.specs.Cases.{AllHold, IsFlow, IsNoFlow, SaysOf, alone, alone_flow, isolated, isolated_flow, angled, cases, differences}
use Rattle.demands.specs.Demand.{IsAccepted, IsFlowBytes}
use Rattle.records.proofs.Encoding.{behind, job-append, job_follows, flow-carries}
use Rattle.verdicts.proofs.Published.{by_layer}
use Rattle.demands.proofs.Judging.{accepted_published}

-- ---- the files as they are read
abbrev job_file : (n mode : ℕ) (edges inputs outputs measurements : List ℕ) → JobFile
job_file n mode edges inputs outputs measurements = job_with n mode edges inputs outputs measurements none

abbrev file_f : ℕ → JobFile
file_f mode = job_file 2 mode (0 ∷ 1 ∷ []) (0 ∷ []) (1 ∷ []) (2 ∷ 0 ∷ [])

abbrev output_alone : ℕ → JobFile
output_alone mode = job_file 1 mode [] [] (0 ∷ []) (0 ∷ [])

abbrev node_alone : (mode measurement : ℕ) → JobFile
node_alone mode measurement = job_file 1 mode [] [] [] (measurement ∷ [])

abbrev raised : FlowFile
raised = flow_with (1 ∷ []) []

-- the set {0} of node 0
abbrev itself : List ℕ → FlowFile
itself layers = flow_with layers (record { node = 0; set = 0 ∷ [] } ∷ [])

-- ---- an input in a set is forbidden in every mode, whatever the order
forbidden : (mode : ℕ) → IsNoFlow mode (job_of (file_f mode)) (flow_of (itself (1 ∷ 0 ∷ [])))
unfolding has set_in
forbidden mode before (inl (q, c)) =
    let first : IsMeasured (job_of (file_f mode)) 0 = (omega arith, λ t. t) in
    let same : 0 ≡ c.0 0 = eqb→eq 0 (c.0 0) (subst T (c.2 0 0 first (omega arith)) tt) in
    c.1.no_input 0 first (subst (λ (k : ℕ). T ((job_of (file_f mode)).input k)) same tt)
forbidden mode before (inr (inl (q, p))) = p.no_inputs 0 0 (omega arith, λ t. t) (omega arith) tt tt
forbidden mode before (inr (inr (q, p))) = p.no_inputs 0 0 (omega arith, λ t. t) (omega arith) tt tt

-- ---- where no node is measured, any sets are a flow in any order
module _ (mode : ℕ) (j : Job) (before : ℕ → ℕ → Type 0) (order : IsStrictOrder before) (g : ℕ → ℕ → Bool) (none : (i : ℕ) → IsMeasured j i → ⊥) where
  unmeasured : (mode ≡ mode_causal) ⊎ ((mode ≡ mode_planes) ⊎ (mode ≡ mode_pauli)) → IsPublishedFlow mode j before g
  unmeasured (inl q) = inl (
    q,
    (
      (λ i. i),
      record {
        order = order;
        node = λ i m. absurd (none i m);
        no_input = λ i m t. none i m;
        adjacent = λ i m. absurd (none i m);
        successor = λ i m. absurd (none i m);
        neighbours = λ i k m l t d. absurd (none i m);
      },
      λ i k m l. absurd (none i m),
    ),
  )
  unmeasured (inr (inl q)) = inr (inl (
    q,
    record {
      no_inputs = λ i k m l t h. none i m;
      conditions = record {
        order = order;
        members = λ i k m l t d. absurd (none i m);
        odds = λ i k m l t d. absurd (none i m);
        xy = λ i m e. absurd (none i m);
        xz = λ i m e. absurd (none i m);
        yz = λ i m e. absurd (none i m);
      };
    },
  ))
  unmeasured (inr (inr q)) = inr (inr (
    q,
    record {
      no_inputs = λ i k m l t h. none i m;
      conditions = record {
        order = order;
        members = λ i k m l t d e. absurd (none i m);
        odds = λ i k m l t d e. absurd (none i m);
        ys = λ i k m l e d n. absurd (none i m);
        xy = λ i m e. absurd (none i m);
        xz = λ i m e. absurd (none i m);
        yz = λ i m e. absurd (none i m);
        x = λ i m e. absurd (none i m);
        z = λ i m e. absurd (none i m);
        y = λ i m e. absurd (none i m);
      };
    },
  ))

only_node : (P : ℕ → Type 0) → P 0 → (i : ℕ) → i < 1 → P i
only_node P p zero l = p
only_node P p (suc i) l = absurd (omega (arith, l))

raised_flow : (mode : ℕ) → (mode ≡ mode_causal) ⊎ ((mode ≡ mode_planes) ⊎ (mode ≡ mode_pauli)) → IsFlow mode (job_of (output_alone mode)) (flow_of raised)
unfolding has
raised_flow mode q = record {
  lower = unmeasured mode (job_of (output_alone mode)) (ByLayer (flow_of raised).layer) (by_layer (flow_of raised).layer) (flow_of raised).set
      (λ i m. only_node (λ i. (T ((job_of (output_alone mode)).output i) → ⊥) → ⊥) (λ d. d tt) i m.0 m.1) q;
}

-- ---- a YZ node alone has the flow {0}, by any layer
module _ (layer : ℕ) where
  abbrev j : Job
  j = job_of (node_alone mode_planes plane_yz)

  abbrev g : ℕ → ℕ → Bool
  g = (flow_of (itself (layer ∷ []))).set

  itself_flow : IsFlow mode_planes j (flow_of (itself (layer ∷ [])))
  unfolding has set_in has_edge parity
  itself_flow = record {
    lower = inr (inl (
      refl,
      record {
        no_inputs = λ i k m l t h. h;
        conditions = record {
          order = by_layer (flow_of (itself (layer ∷ []))).layer;
          members = λ i k m l t d. absurd (d (omega (arith, m.0, l)));
          odds = λ i k m l t d. absurd (d (omega (arith, m.0, l)));
          xy = λ i m. only_node (λ i. j.measured i ≡ plane_xy → (T (g i i) → ⊥) × T (odd j (g i) i)) (λ e. absurd (omega (arith, e))) i m.0;
          xz = λ i m. only_node (λ i. j.measured i ≡ plane_xz → T (g i i) × T (odd j (g i) i)) (λ e. absurd (omega (arith, e))) i m.0;
          yz = λ i m. only_node (λ i. j.measured i ≡ plane_yz → T (g i i) × (T (odd j (g i) i) → ⊥)) (λ e. (tt, λ t. t)) i m.0;
        };
      },
    ));
  }

-- ---- an accepted flow is a flow by its paper where the job has no inputs
accepted_flow : (job flow : List ℕ) (f : JobFile) (g : FlowFile) → read_job job ≡ gives f → f.after ≡ [] → f.inputs ≡ [] → IsFlowBytes f.n flow g → IsAccepted job flow → SaysOf job flow IsFlow
unfolding has
accepted_flow job flow f g reads ends inputs r a = (
  f,
  g,
  reads,
  r,
  record {
    lower = (accepted_published (job ++ flow) (behind f flow) g (job-append job flow f reads (job_follows f (f.after ++ flow) (rw ends (flow-carries f.n flow g r.0)))) (rw ends r.0) r.1 a no_inputs_here).2;
  },
)
  where
    no_inputs_here : HasNoInputs (job_of f) (flow_of g).set
    no_inputs_here i k m l t h = rw inputs at h

-- ---- all claims; what is answered is computed
all_hold : AllHold cases × AllHold differences × AllHold angled
unfolding
    bit parity any_below all_below count lowest_from members_from solve entry_of digits list_of matrix_fits both_fit well_shaped solve_asks own branches first_solvable rounds
    length_field part checked decode_then written all has rises pairs_rise allows all_allowed opening_asks edges_asks nodes_asks measurements_asks read_job has_edge
    entries_in all_entries entry_below entries_rise entry_bytes each_asks in_two_bytes from_two_bytes sets_asks read_flow set_in entry_in ask each_from node_ask causal_ask verify entries_for find_asks read_both judge verify_asks find_program verify_program equal
    angles_asks angles_allowed entry_allowed in_range read_bits nan_bits of_bits eq lt little inferred_bytes inferred_byte inferred_in
all_hold = (
  (record { lower = tt }, ((file_f 2, itself (1 ∷ 0 ∷ []), refl, (refl, refl), forbidden 2), record { lower = tt })),
  (
    record { lower = tt },
    (
      (output_alone 1, raised, refl, (refl, refl), raised_flow 1 (inl refl)),
      (
        (output_alone 2, raised, refl, (refl, refl), raised_flow 2 (inr (inl refl))),
        (
          (output_alone 3, raised, refl, (refl, refl), raised_flow 3 (inr (inr refl))),
          (
            (node_alone 2 2, itself (0 ∷ []), refl, (refl, refl), itself_flow 0),
            (
              (file_f 3, itself (1 ∷ 0 ∷ []), refl, (refl, refl), forbidden 3),
              (
                accepted_flow (alone 3 6) (alone_flow 0) (node_alone 3 6) (itself (0 ∷ [])) refl refl refl (refl, refl) refl,
                (
                  (node_alone 2 2, itself (1 ∷ []), refl, (refl, refl), itself_flow 1),
                  (
                    accepted_flow (isolated 3 6) (isolated_flow 0) (job_file 2 3 [] [] (1 ∷ []) (6 ∷ 0 ∷ [])) (itself (0 ∷ 0 ∷ [])) refl refl refl (refl, refl) refl,
                    record { lower = tt },
                  ),
                ),
              ),
            ),
          ),
        ),
      ),
    ),
  ),
  (record { lower = tt }, record { lower = tt }),
)

pub cases_hold : AllHold cases
cases_hold = all_hold.0

pub differences_hold : AllHold differences
differences_hold = all_hold.1

pub angled_hold : AllHold angled
angled_hold = all_hold.2
