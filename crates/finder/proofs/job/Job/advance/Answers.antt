use mathlib.Core.Path.{sym, ap, ◌∙◌}
use mathlib.Core.Bool.{Bool, not, ◌&&◌}
use Prim.Native.Nat.{ℕ, ◌<◌}
use lib.Dec.{T}
use Rattle.nodes.specs.NodeSet.{member}
use Rattle.nodes.specs.SetTable.{set_at}
use Rattle.nodes.proofs.Logic.{is_true}
use Rattle.finder.specs.WorkMatrix.{Sees}
use Rattle.finder.specs.Searches.{with_paulis}
use Rattle.finder.specs.Visits.{IsRoundContext}
use Rattle.finder.proofs.Rounds.{cut_inside, round_context, round_advanced, solved_advanced}
use Rattle.finder.proofs.job.Job.advance.Goals as goal
use Rattle.finder.proofs.job.Job.advance.Goals.{After-context-s}

-- the later nodes are below n

inside : (d : After-context-s) → (v : ℕ) → T (member d.args.later v) → v < d.args.self.now.n
inside d v t =
    let a = d.args in
    let p = d.requires in
    cut_inside a.self.now.n a.state.now.solved a.layers.now a.sets.now p.kinds_of.2 v (p.kinds_of.1 v t)

fitting : (d : After-context-s) → let a = d.args in IsRoundContext a.self.now.n a.self.now.measured.now a.state.now.solved d.context-s.result a.kinds.now.plain
fitting d =
    let a = d.args in
    let p = d.requires in
    let e = d.context-s.ensures in
    round_context (with_paulis a.self.now.rule) a.self.now.n a.self.now.graph.now a.self.now.inputs a.self.now.measured.now a.later a.kinds.now d.context-s.result p.sized.0.nodes p.kinds_of.0 (inside d) e.0 e.1 e.2 a.state.now.solved p.kinds_of.1

pub returns-then-is_empty : goal.returns-then-is_empty
returns-then-is_empty c =
    let a = c.args in
    let p = c.requires in record {
      advanced = solved_advanced (with_paulis a.self.now.rule) a.self.now.n a.self.now.graph.now a.self.now.inputs a.self.now.measured.now (member a.later) a.r p.sized.0.nodes a.state.now.solved a.layers.now a.sets.now p.kinds_of.2 _ (c.difference-unsolved.ensures ∙ ap {B = ℕ → Bool} (λ (f : ℕ → Bool) (v : ℕ). f v && not (member a.state.now.solved v)) c.below.ensures) _ c.is_empty.ensures c.if-is_empty.true;
      sized_2 = p.sized;
    }

pub transpose-support-requires : goal.transpose-support-requires
transpose-support-requires c = c.requires.sized.2

pub open_round-requires : goal.open_round-requires
open_round-requires c =
    let p = c.requires in
    (p.sized.0.rows, (fitting (goal.at.open_round-requires c).After-context-s).apart, p.sized.1, λ v k x y. c.transpose-support.ensures.0.reach v k y)

pub visit-solved-requires : goal.visit-solved-requires
visit-solved-requires c =
    let a = c.args in
    let p = c.requires.sized.0 in
    let x = c.transpose-support.ensures in
    let f = fitting (goal.at.visit-solved-requires c).After-context-s in let seeing : Sees a.self.now.graph.now (member c.context-s.result.columns) c.transpose-support.new.transposed = λ v k y. x.0.rows v k ∙ ap (λ (b : Bool). b && set_at a.self.now.graph.now k v) (is_true (member c.transpose-support.result.columns k) (x.1 k y)) in
    (f, p.given, p.places, p.words)

pub shape_of-transposed : goal.shape_of-transposed
shape_of-transposed c = c.transpose-support.ensures.0.size ∙ sym c.requires.sized.2.size

pub returns : goal.returns
returns c =
    let a = c.args in
    let p = c.requires in
    let e = c.context-s.ensures in record {
      advanced = λ outputs. c.visit-solved.ensures.sets_after ∙ round_advanced (with_paulis a.self.now.rule) a.self.now.n a.self.now.graph.now a.self.now.inputs a.self.now.measured.now a.later a.kinds.now c.context-s.result p.sized.0.nodes p.kinds_of.0 (inside (goal.at.returns c).After-context-s) e.0 e.1 e.2 a.state.now.solved p.kinds_of.1 a.layers.now a.sets.now p.kinds_of.2 a.r outputs;
      sized_2 = (record { nodes = p.sized.0.nodes; given = p.sized.0.given; rows = c.open_round.ensures.work_len.0; places = c.visit-solved.ensures.layers_len.0; words = c.visit-solved.ensures.layers_len.1 }, c.open_round.ensures.work_len.1, c.transpose-support.ensures.0);
    }
