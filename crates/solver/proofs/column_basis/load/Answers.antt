use Rattle.std.proofs.Common.{◌≡◌, ℕ, Bool, ◌&&◌, List, refl, sym, ap, ◌∙◌, subst, arith, rules, eqb, ltb}
use Rattle.nodes.specs.Lists.{has}
use Rattle.nodes.specs.Row.{count, lowest, members}
use Rattle.nodes.specs.NodeSet.{capacity, member, left_of}
use Rattle.nodes.proofs.Count.{count-le}
use Rattle.nodes.proofs.Members.{lowest_member}
use Rattle.nodes.proofs.Left.{listed, all_members, taken}
use Rattle.nodes.proofs.Walk.{IsWalk, walk_start, walk_rank, walk_room, walk_step}
use Rattle.solver.specs.WorkMatrix.{entry_of}
use Rattle.solver.specs.Solver.{row_bytes, most_columns}
use Rattle.solver.proofs.BasisTables.{plus_none, plus_then, plus_as, plus_sets, only_in, loaded, loaded_none, loaded_all, loaded_step}
use Rattle.solver.proofs.column_basis.load.Goals as goal

pub loop-v-init : goal.loop-v-init
loop-v-init c =
    let r = member c.args.rows in
    let it = c.into_iter-v-iterator.result in
    let e : left_of it.set it.at it.left ≡ r = search rules in
    let all : listed (members capacity (left_of it.set it.at it.left)) ≡ r = all_members c.args.rows _ e in
    record {
      can = tt;
      ends = tt;
      walk = subst (λ (s : ℕ → Bool). IsWalk r s 0) (sym all) (walk_start r);
      plus = plus_none (loaded r (listed (members capacity (left_of it.set it.at it.left))) (entry_of row_bytes c.args.matrix.now)) c.args.table.now
          (λ k v. ap (λ (s : ℕ → Bool). loaded r s (entry_of row_bytes c.args.matrix.now) k v) all ∙ loaded_none r (entry_of row_bytes c.args.matrix.now) k v);
    }

pub row_at-requires : goal.row_at-requires
row_at-requires c =
    let t = taken capacity (left_of c.loop-v.v-iterator.set c.loop-v.v-iterator.at c.loop-v.v-iterator.left) _ _ c.in-Some.v refl c.in-Some.ensures.steps in
    let room = walk_room capacity (member c.args.rows) _ c.loop-v.i c.loop-v.invariant.walk t.some in
    omega (arith, room, c.requires.0)

pub overflow_add-i : goal.overflow_add-i
overflow_add-i c =
    let t = taken capacity (left_of c.loop-v.v-iterator.set c.loop-v.v-iterator.at c.loop-v.v-iterator.left) _ _ c.in-Some.v refl c.in-Some.ensures.steps in
    let room = walk_room capacity (member c.args.rows) _ c.loop-v.i c.loop-v.invariant.walk t.some in
    omega (arith, room, count-le capacity (member c.args.rows))

pub loop-v-preserved : goal.loop-v-preserved
loop-v-preserved c =
    let l = c.loop-v in
    let r = member c.args.rows in
    let e = entry_of row_bytes c.args.matrix.now in
    let t = taken capacity (left_of l.v-iterator.set l.v-iterator.at l.v-iterator.left) _ _ c.in-Some.v refl c.in-Some.ensures.steps in
    let left = listed (members capacity (left_of l.v-iterator.set l.v-iterator.at l.v-iterator.left)) in
    let next = listed (members capacity (left_of c.next.new.self.set c.next.new.self.at c.next.new.self.left)) in
    let p = lowest capacity left in
    let here = lowest_member capacity left t.some in
    record {
      can = tt;
      ends = tt;
      walk = walk_step capacity r left l.i l.invariant.walk t.some next t.rest;
      plus = plus_then (loaded r left e) (λ k v. member c.row_at.result k && member c.with.result v) (loaded r next e) c.args.table.now l.table c.add_to.new.table l.invariant.plus
          (plus_sets l.table c.add_to.new.table c.row_at.result c.with.result (l.invariant.plus.size ∙ c.requires.1) c.add_to.ensures)
          (loaded_step r left next e (member c.row_at.result) (member c.with.result) l.i p (l.invariant.walk.within p here) here (walk_rank capacity r left l.i l.invariant.walk t.some) c.row_at.ensures
          (only_in (member c.empty.result) (member c.with.result) c.in-Some.v t.small c.empty.ensures c.with.ensures ∙ ap {B = ℕ → Bool} (λ (x u : ℕ). eqb u x) t.least) t.rest);
    }

pub returns : goal.returns
unfolding has
returns c =
    let l = c.loop-v in
    let r = member c.args.rows in
    let e = entry_of row_bytes c.args.matrix.now in
    let left = listed (members capacity (left_of l.v-iterator.set l.v-iterator.at l.v-iterator.left)) in
    plus_as (loaded r left e) (λ k v. ltb k most_columns && (r v && e (count v r) k)) c.args.table.now l.table l.invariant.plus
    (loaded_all r left e (λ v. ap (λ (x : List ℕ). listed x v) c.in-None.ensures.steps.0))
