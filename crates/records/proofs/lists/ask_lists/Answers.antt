use mathlib.Core.Path.{◌≡◌, sym, ap, ◌∙◌, fun_ext}
use mathlib.Core.Bool.{true, not}
use native.Mathlib.Omega.{arith}
use borrow.Author.Tests.{not-false}
use Rattle.nodes.specs.Row.{count}
use Rattle.nodes.specs.NodeSet.{capacity}
use Rattle.records.specs.JobFile.{opening_allowed, nodes_below}
use Rattle.records.proofs.JobFile.{allowed_out, has_small}
use Rattle.records.proofs.WritingJobs.{set_count}
use Rattle.records.proofs.lists.ask_lists.Goals as goal

pub mode_of-mode-requires : goal.mode_of-mode-requires
mode_of-mode-requires c =
    let j = c.args.job.now in
    let opened : opening_allowed j.n j.mode ≡ true = sym c.opening_allowed.ensures ∙ not-false _ (ap not c.if-not-opening_allowed.false) in
    let allowed = allowed_out j.n j.mode opened in
    (omega (arith, allowed.1, allowed.2), omega (arith, allowed.1, allowed.2))

pub invariant_of-outputs : goal.invariant_of-outputs
invariant_of-outputs c =
    let j = c.args.job.now in
    let opened : opening_allowed j.n j.mode ≡ true = sym c.opening_allowed.ensures ∙ not-false _ (ap not c.if-not-opening_allowed.false) in
    let below : nodes_below j.n j.outputs.now ≡ true = sym c.below-else-not-below-2.ensures ∙ not-false _ (ap not c.if-not-below-3.false) in
    let few = (allowed_out j.n j.mode opened).0 in
    record { few = few; asked = (below, sym (c.count.ensures ∙ ap (count capacity) c.set_of-set.ensures ∙ set_count j.n j.outputs.now few below)) }

pub ask_given-requires : goal.ask_given-requires
ask_given-requires c =
    let j = c.args.job.now in
    let opened : opening_allowed j.n j.mode ≡ true = sym c.opening_allowed.ensures ∙ not-false _ (ap not c.if-not-opening_allowed.false) in
    let below : nodes_below j.n j.outputs.now ≡ true = sym c.below-else-not-below-2.ensures ∙ not-false _ (ap not c.if-not-below-3.false) in
    c.set_of-set.ensures ∙ fun_ext (has_small j.n j.outputs.now (allowed_out j.n j.mode opened).0 below)
