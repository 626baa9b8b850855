use native.Mathlib.Omega.{arith}
use mathlib.Core.Path.{◌≡◌, ap, ap₂, ◌∙◌}
use mathlib.Core.Bool.{Bool, not, ◌&&◌}
use Prim.Native.Nat.{ℕ, ◌<◌}
use Rattle.nodes.specs.NodeSet.{capacity, member}
use Rattle.solver.specs.BasisCalls.{form_in}
use Rattle.flows.specs.Branch.{in_set, with_node}
use Rattle.flows.specs.Numbers.{branch_number}
use Rattle.flows.specs.Round.{has_row}
use Rattle.finder.specs.WorkMatrix.{context_of}
use Rattle.finder.proofs.Tries.{round_tried, answer_same}
use Rattle.finder.proofs.branch.Round.try_branch.Goals as goal
use Rattle.finder.proofs.branch.Round.try_branch.Goals.{After-has-present}

-- whether u has a row
rowed : (c : After-has-present) → c.has-present.result ≡ has_row (context_of c.args.self.now.context) c.args.u
rowed c = c.has-present.ensures ∙ ap (λ (f : ℕ → Bool). f c.args.u) c.union-rows.ensures

pub side_of-side-requires : goal.side_of-side-requires
side_of-side-requires c = omega (arith, c.args.self.now.ready.within.nodes, c.requires.node)

pub asked_columns-asked-requires : goal.asked_columns-asked-requires
asked_columns-asked-requires c = (omega (arith, c.args.self.now.ready.within.nodes, c.requires.node), rowed (goal.at.asked_columns-asked-requires c).After-has-present)

pub with_node-requires : goal.with_node-requires
with_node-requires c = omega (arith, c.args.self.now.ready.within.nodes, c.requires.node)

pub returns : goal.returns
returns c =
    let a = c.args in
    let s = a.self.now in
    let b = s.basis.now in
    c.with_node.ensures
    ∙ ap (with_node (in_set (branch_number a.b)) a.u) (c.answer-found.ensures ∙ answer_same (form_in b.pivots b.free b.reduced.now b.preimage.now b.kernel.now)
    (c.intersection.ensures ∙ ap₂ {C = ℕ → Bool} (λ (f g : ℕ → Bool) (v : ℕ). f v && g v) c.side_of-side.ensures c.union-rows.ensures)
    c.asked_columns-asked.ensures
    (c.asked_odd-odd.ensures ∙ ap₂ (λ (x : Bool) (f : ℕ → Bool). not x && f a.u) (rowed (goal.at.returns c).After-has-present) c.side_of-side.ensures))
    ∙ round_tried s.n s.graph.now s.context (record { pivots = b.pivots; free = b.free }) b.kernel.now b.reduced.now b.preimage.now s.transposed.now s.ready a.u (branch_number a.b) c.requires.node c.requires.covered
