use Rattle.std.proofs.Common.{◌≡◌, ℕ, Bool, ◌&&◌, List, refl, sym, ap, ◌∙◌, subst, arith, rules, eqb}
use lib.Dec.{T}
use Rattle.nodes.specs.Bit.{◌⊕◌}
use Rattle.nodes.specs.Lists.{has}
use Rattle.nodes.specs.Row.{count, lowest, members}
use Rattle.nodes.specs.NodeSet.{capacity, member, left_of}
use Rattle.nodes.specs.SetTable.{set_at}
use Rattle.nodes.proofs.Logic.{from_false}
use Rattle.nodes.proofs.Count.{count-le}
use Rattle.nodes.proofs.Left.{listed, all_members, taken, IsTaken}
use Rattle.nodes.proofs.Walk.{walk_room}
use Rattle.finder.specs.WorkMatrix.{row_bit}
use Rattle.finder.proofs.WorkMatrix.{IsLaying, laying_start, laying_step}
use Rattle.finder.proofs.matrix.put_rows.Goals as goal

pub loop-v-init : goal.loop-v-init
loop-v-init c =
    let a = c.args in
    let r = member a.rows in
    let it = c.into_iter-v-iterator.result in
    let e : left_of it.set it.at it.left ≡ r = search rules in
    let all : listed (members capacity (left_of it.set it.at it.left)) ≡ r = all_members a.rows _ e in
    record { can = tt; ends = tt; laying = subst (λ (s : ℕ → Bool). IsLaying r s (row_bit a.transposed.now (member a.columns) a.lower) 0 a.work.now a.work.now) (sym all) (laying_start r (row_bit a.transposed.now (member a.columns) a.lower) a.work.now) }

pub row_of-row-requires : goal.row_of-row-requires
row_of-row-requires c = (taken capacity (left_of c.loop-v.v-iterator.set c.loop-v.v-iterator.at c.loop-v.v-iterator.left) _ _ c.in-Some.v refl c.in-Some.ensures.steps).small

pub put_row-requires : goal.put_row-requires
put_row-requires c =
    let l = c.loop-v in
    let t = taken capacity (left_of l.v-iterator.set l.v-iterator.at l.v-iterator.left) _ _ c.in-Some.v refl c.in-Some.ensures.steps in
    let room = walk_room capacity (member c.args.rows) _ l.i l.invariant.laying.walk t.some in
    omega (arith, room, c.requires, l.invariant.laying.size)

pub overflow_add-i : goal.overflow_add-i
overflow_add-i c =
    let l = c.loop-v in
    let t = taken capacity (left_of l.v-iterator.set l.v-iterator.at l.v-iterator.left) _ _ c.in-Some.v refl c.in-Some.ensures.steps in
    let room = walk_room capacity (member c.args.rows) _ l.i l.invariant.laying.walk t.some in
    omega (arith, room, count-le capacity (member c.args.rows))

pub loop-v-preserved : goal.loop-v-preserved
loop-v-preserved c =
    let a = c.args in
    let l = c.loop-v in
    let left = listed (members capacity (left_of l.v-iterator.set l.v-iterator.at l.v-iterator.left)) in
    let next = listed (members capacity (left_of c.next.new.self.set c.next.new.self.at c.next.new.self.left)) in
    let t = taken capacity (left_of l.v-iterator.set l.v-iterator.at l.v-iterator.left) _ _ c.in-Some.v refl c.in-Some.ensures.steps in
    record {
      can = tt;
      ends = tt;
      laying = laying_step (member a.rows) left next (member c.intersection.result) (row_bit a.transposed.now (member a.columns) a.lower) l.i a.work.now l.work c.put_row.new.work
          t.some t.rest
          (c.intersection.ensures ∙ ap {B = ℕ → Bool} (λ (f : ℕ → Bool) (k : ℕ). f k && member a.columns k) (c.row_of-row.ensures ∙ ap {B = ℕ → Bool} (λ (v k : ℕ). set_at a.transposed.now v k ⊕ (a.lower && eqb k v)) t.least))
          c.put_row.ensures l.invariant.laying;
    }

pub shape_of-work : goal.shape_of-work
shape_of-work c = c.loop-v.invariant.laying.size

pub returns : goal.returns
unfolding has
returns c =
    let l = c.loop-v in
    (λ v k t h. l.invariant.laying.done v k t (from_false (listed (members capacity (left_of l.v-iterator.set l.v-iterator.at l.v-iterator.left)) v) (ap (λ (x : List ℕ). listed x v) c.in-None.ensures.steps.0)) h, l.invariant.laying.size)
