-- Layers of either kind: the same verdict for the same numbers; every flow file has one of the wide kind; the finder's reads back as what was found.
use Prim.Native.Nat.{ℕ, ◌≤◌, ◌<◌}
use mathlib.Core.Path.{◌≡◌, refl, sym, ap, ◌∙◌, subst}
use mathlib.Core.Bool.{Bool, not}
use mathlib.Core.Option.{Option, none, some}
use mathlib.Core.List.{List, []}
use mathlib.Core.Logic.{◌⊎◌}
use native.Mathlib.Omega.{arith}
use lib.Dec.{eqb}
use lib.ListN.{length, take}
use Rattle.nodes.specs.Lists.{zeros}
use Rattle.nodes.proofs.Count.{count-le}
use Rattle.flows.specs.Search.{Progress}
use Rattle.flows.proofs.Flows.{found_most_layer}
use Rattle.answers.specs.Answer.{Answer, gives, refuses, ◌>>◌}
use Rattle.answers.proofs.Answer.{never}
use Rattle.records.specs.Records.{written, kind_accepted}
use Rattle.records.specs.JobFile.{JobFile, most_nodes, read_job, job_of, mode_planes, mode_pauli}
use Rattle.records.specs.FlowFile.{one_member}
use Rattle.records.specs.Encoding.{IsValidFlow, found_flow}
use Rattle.records.specs.Writing.{flow_bytes}
use Rattle.records.proofs.Encoding.{job_asked, flow_asked, flow_decodes, flow-layers}
use Rattle.records.proofs.SignalFiles.{flow_lists}
use Rattle.records.proofs.Writing.{flow_file_bytes_lem, found_reads, found_bytes_lem, found_layer, found_entry, found_set}
use Rattle.demands.specs.Calls.{mode_of, progress_by_mode, found_bytes, find_asks, find_outcome, find_call, judge, outcome, verify_call}
use Rattle.demands.specs.Layers.{SameVerdict, widened, Widens, IsWrittenFor, WritesFound}
use Rattle.demands.proofs.Judging.{verify_flow, searched_works}
use Rattle.demands.proofs.Demand.{by_mode, asked_find, put_fits}

-- ---- either kind
-- behind reading the verifier asks of the numbers, the sets and the bytes left alone
pub same_verdict : SameVerdict
unfolding judge verify_call
same_verdict job one other f g h reads ends r q layers sets signals out =
    let same : (one_member f.mode g.sets >> judge f g) ≡ (one_member f.mode h.sets >> judge f h) = rw (layers, sets, signals) in
    ap (λ (a : Answer Bool). outcome a (λ b. written kind_accepted []) out) (verify_flow job f reads ends one g r.0 r.1 ∙ same ∙ sym (verify_flow job f reads ends other h q.0 q.1))

pub widens : Widens
widens n s g few bytes r =
    let v = flow_asked n s g few r.0 in
    let w : IsValidFlow n (widened g) = record { count = v.count; below = v.below; rise = v.rise; lists = v.lists } in (
      flow_file_bytes_lem n (widened g) (omega arith) w refl (flow-layers n s g few bytes r.0) (flow_lists n s g few bytes r.0),
      (flow_decodes n (widened g) few w refl, refl),
    )

-- ---- what the finder writes
module _ (file : List ℕ) (f : JobFile) (reads : read_job file ≡ gives f) (ends : f.after ≡ []) (searched : (mode_of f ≡ mode_planes) ⊎ (mode_of f ≡ mode_pauli)) where
  written_for : (o : Option Progress) → progress_by_mode (mode_of f) (job_of f) ≡ o → IsWrittenFor f o (flow_bytes (job_of f) o)
  written_for none e = refl
  written_for (some s) e = (
    found_flow (job_of f) s,
    record {
      bytes = found_bytes_lem (job_of f) s few small;
      reads = (found_reads (job_of f) s few, refl);
      wide = refl;
      layers = found_layer (job_of f) s;
      entries = found_entry (job_of f) s;
      sets = found_set (job_of f) s;
    },
  )
    where
      few : f.n ≤ most_nodes
      few = (job_asked file f reads).few

      -- no layer exceeds the number of measured nodes
      small : (u : ℕ) → u < f.n → s.layer u < 65536
      small u l = omega (arith, few, found_most_layer (job_of f) (eqb (mode_of f) mode_pauli) s (sym (by_mode file f reads ends searched) ∙ e) u l, count-le f.n (λ u. not ((job_of f).output u)))

pub writes_found : WritesFound
unfolding find_call
writes_found file work out k e = go (find_asks file work) refl e
  where
    go : (a : Answer JobFile) → find_asks file work ≡ a → (find_outcome a work out).answer ≡ gives k
        → (job : JobFile) × (read_job file ≡ gives job) × IsWrittenFor job (progress_by_mode (mode_of job) (job_of job)) (take k (find_outcome a work out).out)
    go (refuses r) p e = absurd (never e)
    go (gives f) p e =
        let (reads, ends, mode, size) = asked_find file work f p in
        (f, reads, subst (IsWrittenFor f (progress_by_mode (mode_of f) (job_of f))) (sym (put_fits (zeros (length work)) (found_bytes f) out k e)) (written_for file f reads ends (searched_works f mode) (progress_by_mode (mode_of f) (job_of f)) refl))
