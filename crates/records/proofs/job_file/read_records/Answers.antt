use native.Mathlib.Omega.{arith}
use lib.ListN.{get_or}
use Rattle.records.proofs.JobFile.{allowed_out, opening_out, nodes_out}
use Rattle.records.proofs.NodeLists.{has-count}
use Rattle.records.proofs.job_file.read_records.Goals as goal

pub mode_of-mode-requires : goal.mode_of-mode-requires
mode_of-mode-requires c =
    let first = c.in_ok-opening.opening.payload.now in
    let allowed = allowed_out (get_or first 0 0) (get_or first 1 0) (opening_out first c.in_ok-opening.ensures.asked).1 in
    (omega (arith, allowed.1, allowed.2, c.byte_at-2.ensures), omega (arith, allowed.1, allowed.2, c.byte_at-2.ensures))

pub invariant_of-asked : goal.invariant_of-asked
invariant_of-asked c =
    let n = c.from-n.result in
    let nodes = c.in_ok-outputs.outputs.payload.now in
    let first = c.in_ok-opening.opening.payload.now in
    let (below, rise) = nodes_out n nodes c.in_ok-outputs.ensures.asked in
    let few = (allowed_out (get_or first 0 0) (get_or first 1 0) (opening_out first c.in_ok-opening.ensures.asked).1).0 in
    record { few = omega (arith, few, c.from-n.ensures, c.byte_at.ensures); asked = (below, has-count n 0 nodes below rise) }
