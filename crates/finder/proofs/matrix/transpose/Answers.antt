use Rattle.std.proofs.Common.{◌≡◌, ℕ, Bool, not, ◌&&◌, List, refl, sym, ap, ◌∙◌, subst, rules, eqb}
use Rattle.nodes.specs.Lists.{has}
use Rattle.nodes.specs.Row.{members}
use Rattle.nodes.specs.NodeSet.{capacity, member, left_of}
use Rattle.nodes.proofs.Left.{listed, all_members, taken}
use Rattle.solver.proofs.BasisTables.{only_in}
use Rattle.finder.proofs.WorkMatrix.{IsGrowing, growing_start, growing_step, growing_end}
use Rattle.finder.proofs.matrix.transpose.Goals as goal

pub loop-k-init : goal.loop-k-init
loop-k-init c =
    let a = c.args in
    let new : ℕ → Bool = λ k. member a.columns k && not (member a.support.now.columns k) in
    let it = c.into_iter-k-iterator.result in
    let e : left_of it.set it.at it.left ≡ member c.difference-new.result = search rules in
    let all : listed (members capacity (left_of it.set it.at it.left)) ≡ new = all_members c.difference-new.result _ e ∙ c.difference-new.ensures in
    record {
      can = tt;
      ends = tt;
      growing = subst (λ (s : ℕ → Bool). IsGrowing a.graph.now (member a.support.now.columns) new s a.support.now.rows a.transposed.now) (sym all)
          (growing_start a.graph.now a.support.now (member a.columns) new a.transposed.now c.requires refl);
    }

pub loop-k-preserved : goal.loop-k-preserved
loop-k-preserved c =
    let a = c.args in
    let l = c.loop-k in
    let left = listed (members capacity (left_of l.k-iterator.set l.k-iterator.at l.k-iterator.left)) in
    let next = listed (members capacity (left_of c.next.new.self.set c.next.new.self.at c.next.new.self.left)) in
    let t = taken capacity (left_of l.k-iterator.set l.k-iterator.at l.k-iterator.left) _ _ c.in-Some.k refl c.in-Some.ensures.steps in
    record {
      can = tt;
      ends = tt;
      growing = growing_step a.graph.now (member a.support.now.columns) (λ k. member a.columns k && not (member a.support.now.columns k)) left next c.set_at-near.result c.with.result l.rows c.union-rows.result c.in-Some.k l.transposed c.add_to.new.table
          t.some t.least c.set_at-near.ensures (only_in (member c.empty.result) (member c.with.result) c.in-Some.k t.small c.empty.ensures c.with.ensures) t.rest c.add_to.ensures c.union-rows.ensures l.invariant.growing;
    }

pub shape_of-transposed : goal.shape_of-transposed
shape_of-transposed c = c.loop-k.invariant.growing.size ∙ sym c.requires.size

pub returns : goal.returns
unfolding has
returns c =
    let a = c.args in
    let l = c.loop-k in
    growing_end a.graph.now (member a.support.now.columns) (member a.columns) (λ k. member a.columns k && not (member a.support.now.columns k)) (listed (members capacity (left_of l.k-iterator.set l.k-iterator.at l.k-iterator.left))) _ l.transposed
    (λ v. ap (λ (x : List ℕ). listed x v) c.in-None.ensures.steps.0) refl c.union.ensures l.invariant.growing
