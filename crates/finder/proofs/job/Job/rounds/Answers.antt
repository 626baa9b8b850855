use native.Mathlib.Omega.{arith}
use mathlib.Core.Path.{◌≡◌, sym, ap, ◌∙◌}
use mathlib.Core.Bool.{Bool, cond}
use Rattle.nodes.specs.NodeSet.{member}
use Rattle.flows.specs.Job.{Job}
use Rattle.flows.specs.Search.{Progress, no_node, first_round}
use Rattle.flows.specs.Tries.{try_at}
use Rattle.flows.proofs.Tries.{try_ext}
use Rattle.finder.specs.Visits.{progress_in}
use Rattle.finder.specs.Searches.{with_paulis, job_in, progress_at}
use Rattle.finder.proofs.WorkMatrix.{transposed_start}
use Rattle.finder.proofs.Visits.{pending_end, pending_less, pending_next}
use Rattle.finder.proofs.Rounds.{IsSearchPending, search_start}
use Rattle.finder.proofs.job.Job.rounds.Goals as goal
use Rattle.finder.proofs.job.Job.rounds.Goals.{At-loop-kinds, Joined-with_paulis, then-with_paulis, else-with_paulis}

-- from the return, and from the end of a turn

abbrev job-at : At-loop-kinds → Job
job-at c = let a = c.args in job_in a.self.now.n a.self.now.graph.now a.self.now.inputs a.self.now.outputs a.self.now.measured.now

abbrev here : At-loop-kinds → Progress
here c = progress_in c.loop-kinds.state.solved c.loop-kinds.layers c.loop-kinds.sets

-- the first round, and the nodes that are later than all of it

first : (c : Joined-with_paulis) → let p = with_paulis c.args.self.now.rule in (c.if-with_paulis.r ≡ first_round p) × (member c.if-with_paulis.later ≡ cond p no_node (member c.begin-state.result.solved))
first c =
    let p = with_paulis c.args.self.now.rule in
    let solved = member c.begin-state.result.solved in
    elim c.if-with_paulis.branch [
      | then-with_paulis w ↦ (w.r-is ∙ ap first_round (sym w.if-with_paulis.true ∙ c.with_paulis.ensures), ap member w.later-is ∙ w.empty-later.ensures ∙ ap (λ (b : Bool). cond b no_node solved) (sym w.if-with_paulis.true ∙ c.with_paulis.ensures))
      | else-with_paulis w ↦ (w.r-is ∙ ap first_round (sym w.if-with_paulis.false ∙ c.with_paulis.ensures), ap member w.later-is ∙ ap (λ (b : Bool). cond b no_node solved) (sym w.if-with_paulis.false ∙ c.with_paulis.ensures))
    ]

-- the search is on its way

first-at-At-loop-kinds : (c : At-loop-kinds) → let p = with_paulis c.args.self.now.rule in (c.if-with_paulis.r ≡ first_round p) × (member c.if-with_paulis.later ≡ cond p no_node (member c.begin-state.result.solved))
first-at-At-loop-kinds c =
    let p = with_paulis c.args.self.now.rule in
    let solved = member c.begin-state.result.solved in
    elim c.if-with_paulis.branch [
      | then-with_paulis w ↦ (w.r-is ∙ ap first_round (sym w.if-with_paulis.true ∙ c.with_paulis.ensures), ap member w.later-is ∙ w.empty-later.ensures ∙ ap (λ (b : Bool). cond b no_node solved) (sym w.if-with_paulis.true ∙ c.with_paulis.ensures))
      | else-with_paulis w ↦ (w.r-is ∙ ap first_round (sym w.if-with_paulis.false ∙ c.with_paulis.ensures), ap member w.later-is ∙ ap (λ (b : Bool). cond b no_node solved) (sym w.if-with_paulis.false ∙ c.with_paulis.ensures))
    ]

on-way : (c : At-loop-kinds) → let a = c.args in IsSearchPending (with_paulis a.self.now.rule) a.self.now.n a.self.now.graph.now a.self.now.inputs a.self.now.outputs a.self.now.measured.now c.loop-kinds.r (member c.loop-kinds.later) (here c)
on-way c =
    let a = c.args in
    let f = first-at-At-loop-kinds c in c.loop-kinds.invariant.3 a.self.now.outputs (rw f.0 (search_start (with_paulis a.self.now.rule) a.self.now.n a.self.now.graph.now a.self.now.inputs a.self.now.outputs a.self.now.measured.now _ _ c.begin-state.ensures.sets_after f.1))

pub kinds-kinds-requires : goal.kinds-kinds-requires
kinds-kinds-requires c = let p = c.requires.0 in (p.nodes, p.given)

pub begin-state-requires : goal.begin-state-requires
begin-state-requires c = let p = c.requires.0 in (p.nodes, p.places, p.words)

pub loop-kinds-init : goal.loop-kinds-init
loop-kinds-init c =
    let b = c.begin-state.ensures in
    let a = c.args in
    let p = c.requires in
    (record { nodes = p.0.nodes; given = p.0.given; rows = p.0.rows; places = b.columns_value.1; words = b.columns_value.2 }, p.2, transposed_start a.self.now.graph.now c.begin-state.result.support a.transposed.now p.1.0 p.1.1 b.columns_value.0, λ o w. w)

pub advance-state-requires : goal.advance-state-requires
advance-state-requires c =
    let i = c.loop-kinds.invariant in record {
      sized = (i.0, i.1, i.2);
      kinds_of = (c.kinds-kinds.ensures, (on-way (goal.at.advance-state-requires c).At-loop-kinds).sub, (on-way (goal.at.advance-state-requires c).At-loop-kinds).cut);
    }

pub shape_of-work-then-same : goal.shape_of-work-then-same
shape_of-work-then-same c = c.advance-state.ensures.sized_2.0.rows ∙ sym c.requires.0.rows

pub shape_of-layers-then-same : goal.shape_of-layers-then-same
shape_of-layers-then-same c = c.advance-state.ensures.sized_2.0.places ∙ sym c.requires.0.places

pub shape_of-sets-then-same : goal.shape_of-sets-then-same
shape_of-sets-then-same c = c.advance-state.ensures.sized_2.0.words ∙ sym c.requires.0.words

pub shape_of-transposed-then-same : goal.shape_of-transposed-then-same
shape_of-transposed-then-same c = c.advance-state.ensures.sized_2.2.size ∙ sym c.requires.1.0

pub returns-then-same : goal.returns-then-same
returns-then-same c =
    let a = c.args in
    let j = job-at (goal.at.returns-then-same c).At-loop-kinds in record {
      sets_after = pending_end (try_at j (with_paulis a.self.now.rule)) a.self.now.n (try_ext j (with_paulis a.self.now.rule)) (progress_at (with_paulis a.self.now.rule) j) c.loop-kinds.r (member c.loop-kinds.later) (here (goal.at.returns-then-same c).At-loop-kinds) _ (on-way (goal.at.returns-then-same c).At-loop-kinds) (c.advance-state.ensures.advanced a.self.now.outputs) c.loop-kinds.invariant.0.nodes (sym c.same.ensures ∙ c.if-same.true);
      sized = c.advance-state.ensures.sized_2.0;
    }

pub overflow_add-r : goal.overflow_add-r
overflow_add-r c = omega (arith, c.loop-kinds.invariant.0.nodes, (on-way (goal.at.overflow_add-r c).At-loop-kinds).all)

pub loop-kinds-smaller : goal.loop-kinds-smaller
loop-kinds-smaller c =
    let a = c.args in
    let j = job-at (goal.at.loop-kinds-smaller c).At-loop-kinds in pending_less (try_at j (with_paulis a.self.now.rule)) a.self.now.n (try_ext j (with_paulis a.self.now.rule)) (progress_at (with_paulis a.self.now.rule) j) c.loop-kinds.r (member c.loop-kinds.later) (here (goal.at.loop-kinds-smaller c).At-loop-kinds) _ (on-way (goal.at.loop-kinds-smaller c).At-loop-kinds) (c.advance-state.ensures.advanced a.self.now.outputs) (sym c.same.ensures ∙ c.if-same.false)

pub loop-kinds-preserved : goal.loop-kinds-preserved
loop-kinds-preserved c =
    let a = c.args in
    let e = c.advance-state.ensures in (
      e.sized_2.0,
      e.sized_2.1,
      e.sized_2.2,
      λ o g. let j = job_in a.self.now.n a.self.now.graph.now a.self.now.inputs o a.self.now.measured.now in
          pending_next (try_at j (with_paulis a.self.now.rule)) a.self.now.n (try_ext j (with_paulis a.self.now.rule)) (progress_at (with_paulis a.self.now.rule) j) c.loop-kinds.r (member c.loop-kinds.later) (here (goal.at.loop-kinds-preserved c).At-loop-kinds) _ (c.loop-kinds.invariant.3 o g) (e.advanced o) (sym c.same.ensures ∙ c.if-same.false),
    )
