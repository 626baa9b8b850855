use Prim.Native.Nat.{ℕ}
use mathlib.Core.Path.{◌≡◌, refl, sym, ap, ◌∙◌}
use mathlib.Core.Bool.{true, false}
use mathlib.Core.List.{List, []}
use native.Mathlib.Omega.{arith}
use Rattle.nodes.specs.NodeSet.{member}
use Rattle.records.specs.Splice.{put_front, put_answer}
use Rattle.records.specs.Views.{given_held}
use Rattle.records.specs.JobLists.{JobLists, once, edges_once, given_once}
use Rattle.records.proofs.JobLists.{IsAsked, lists_asked}
use Rattle.demands.specs.Calls.{written_job}
use Rattle.calls.proofs.Finding.{put_is}
use Rattle.calls.proofs.LoadingEdges.{edges_fit}
use Rattle.calls.proofs.Writing.{write_twice, write_goes, nodes_once, nodes_twice, nodes_listed, edges_once_lem, edges_twice, edges_listed, lists_written}
use Rattle.calls.proofs.write.write_asked.Goals as goal
use Rattle.calls.proofs.write.write_asked.Goals.{Else-count-job, Else-count-job-2, Else-edges_len-job, Start}

abbrev lists : Start → JobLists
lists s = given_held s.args.job.now

asked : (s : Start) → IsAsked (lists s)
asked s = lists_asked (lists s) s.requires

pub load_graph-requires : goal.load_graph-requires
load_graph-requires c = (refl, edges_fit c.args.job.now.n c.args.job.now.edges.now (asked (goal.at.load_graph-requires c).Start).few (asked (goal.at.load_graph-requires c).Start).edges_below)

-- ---- what the code has found out: each was given once

abbrev lists-at-Else-edges_len-job : Else-edges_len-job → JobLists
lists-at-Else-edges_len-job s = given_held s.args.job.now

edges-given : (c : Else-edges_len-job) → edges_once c.args.job.now.edges.now ≡ true
edges-given c =
    edges_once_lem (lists-at-Else-edges_len-job c) c.requires (member c.below-nodes.result) c.below-nodes.ensures _ c.load_graph.ensures (sym c.edges_len.ensures ∙ c.if-edges_len-job.false)

abbrev lists-at-Else-count-job : Else-count-job → JobLists
lists-at-Else-count-job s = given_held s.args.job.now

asked-at-Else-count-job : (s : Else-count-job) → IsAsked (lists-at-Else-count-job s)
asked-at-Else-count-job s = lists_asked (lists-at-Else-count-job s) s.requires

inputs-given : (c : Else-count-job) → once c.args.job.now.inputs.now ≡ true
inputs-given c =
    nodes_once (lists-at-Else-count-job c) c.requires c.args.job.now.inputs.now (asked-at-Else-count-job c).inputs_below (member c.set_of-ins.result) c.set_of-ins.ensures (sym c.count.ensures ∙ c.if-count-job.false)

abbrev lists-at-Else-count-job-2 : Else-count-job-2 → JobLists
lists-at-Else-count-job-2 s = given_held s.args.job.now

asked-at-Else-count-job-2 : (s : Else-count-job-2) → IsAsked (lists-at-Else-count-job-2 s)
asked-at-Else-count-job-2 s = lists_asked (lists-at-Else-count-job-2 s) s.requires

outputs-given : (c : Else-count-job-2) → once c.args.job.now.outputs.now ≡ true
outputs-given c =
    nodes_once (lists-at-Else-count-job-2 c) c.requires c.args.job.now.outputs.now (asked-at-Else-count-job-2 c).outputs_below (member c.set_of-outs.result) c.set_of-outs.ensures (sym c.count-2.ensures ∙ c.if-count-job-2.false)

pub returns-then-edges_len-job : goal.returns-then-edges_len-job
returns-then-edges_len-job c =
    let edges = edges_twice (lists (goal.at.returns-then-edges_len-job c).Start) c.requires (member c.below-nodes.result) c.below-nodes.ensures _ c.load_graph.ensures (λ e. c.if-edges_len-job.true (c.edges_len.ensures ∙ e)) in
    let twice : given_once (lists (goal.at.returns-then-edges_len-job c).Start) ≡ false = rw edges in
    write_twice (lists (goal.at.returns-then-edges_len-job c).Start) c.args.out.now c.requires twice

pub returns-then-count-job : goal.returns-then-count-job
returns-then-count-job c =
    let inputs =
    nodes_twice (lists (goal.at.returns-then-count-job c).Start) c.requires c.args.job.now.inputs.now (asked (goal.at.returns-then-count-job c).Start).inputs_below (member c.set_of-ins.result) c.set_of-ins.ensures (λ e. c.if-count-job.true (c.count.ensures ∙ e)) in
    let twice : given_once (lists (goal.at.returns-then-count-job c).Start) ≡ false = rw (edges-given (goal.at.returns-then-count-job c).Else-edges_len-job, inputs) in
    write_twice (lists (goal.at.returns-then-count-job c).Start) c.args.out.now c.requires twice

pub returns-then-count-job-2 : goal.returns-then-count-job-2
returns-then-count-job-2 c =
    let outputs =
    nodes_twice (lists (goal.at.returns-then-count-job-2 c).Start) c.requires c.args.job.now.outputs.now (asked (goal.at.returns-then-count-job-2 c).Start).outputs_below (member c.set_of-outs.result) c.set_of-outs.ensures (λ e. c.if-count-job-2.true (c.count-2.ensures ∙ e)) in
    let twice : given_once (lists (goal.at.returns-then-count-job-2 c).Start) ≡ false = rw (edges-given (goal.at.returns-then-count-job-2 c).Else-edges_len-job, inputs-given (goal.at.returns-then-count-job-2 c).Else-count-job, outputs) in
    write_twice (lists (goal.at.returns-then-count-job-2 c).Start) c.args.out.now c.requires twice

pub overflow_cast-job : goal.overflow_cast-job
overflow_cast-job c = omega (arith, (asked (goal.at.overflow_cast-job c).Start).few)

pub overflow_cast-job-2 : goal.overflow_cast-job-2
overflow_cast-job-2 c = omega (arith, (asked (goal.at.overflow_cast-job-2 c).Start).mode_to)

pub returns : goal.returns
returns c =
    let l = lists (goal.at.returns c).Start in let out = c.args.out.now in let wrote = c.write_job in let ins = c.set_of-ins in let outs = c.set_of-outs in let nodes = c.below-nodes in let bytes = lists_written l c.requires _ _ _ (edges_listed l c.requires (member nodes.result) nodes.ensures _ c.load_graph.ensures)
    (nodes_listed l c.requires c.args.job.now.inputs.now (asked (goal.at.returns c).Start).inputs_below (member ins.result) ins.ensures) (nodes_listed l c.requires c.args.job.now.outputs.now (asked (goal.at.returns c).Start).outputs_below (member outs.result) outs.ensures) in
    let once : given_once l ≡ true = rw (edges-given (goal.at.returns c).Else-edges_len-job, inputs-given (goal.at.returns c).Else-count-job, outputs-given (goal.at.returns c).Else-count-job-2) in
    put_is (written_job l) out _ _ [] _ (wrote.ensures.result_value ∙ ap (λ (b : List ℕ). put_answer b out) bytes) (wrote.ensures.out_after ∙ ap (λ (b : List ℕ). put_front b out) bytes) refl
    ∙ write_goes l out c.requires once
