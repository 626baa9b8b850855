use Rattle.std.proofs.Common.{◌≡◌, ℕ, Bool, not, ◌&&◌, ◌||◌, List, refl, sym, ap, ap₂, ◌∙◌, subst, rules, eqb}
use mathlib.Core.Logic.{◌⊎◌, inl, inr}
use mathlib.Core.Path.{fun_ext}
use lib.Dec.{T}
use Rattle.nodes.specs.Lists.{has}
use Rattle.nodes.specs.Row.{lowest, members}
use Rattle.nodes.specs.NodeSet.{capacity, member, left_of}
use Rattle.nodes.specs.SetTable.{set_at}
use Rattle.nodes.proofs.Logic.{and_l, and_r, not_out, or_out, or_false, from_false}
use Rattle.nodes.proofs.Members.{lowest_member}
use Rattle.nodes.proofs.Remove.{removed}
use Rattle.nodes.proofs.Left.{listed, all_members, none_listed, taken}
use Rattle.solver.specs.BasisCalls.{form_with}
use Rattle.solver.proofs.BasisTables.{with_in}
use Rattle.solver.proofs.BasisForms.{IsLeft, unbound, unbound_start, unbound_next, unbound_end, left_start, left_step, left_done, left_units}
use Rattle.solver.proofs.column_basis.Basis.reduce_columns.Goals as goal
use Rattle.solver.proofs.column_basis.Basis.reduce_columns.Goals.{In-Some}

-- what is left, and the column at hand
abbrev left-at : In-Some → ℕ → Bool
left-at c = listed (members capacity (left_of c.loop-c.c-iterator.set c.loop-c.c-iterator.at c.loop-c.c-iterator.left))

here-left : (c : In-Some) → T (left-at c c.in-Some.c)
here-left c =
    let t = taken capacity (left_of c.loop-c.c-iterator.set c.loop-c.c-iterator.at c.loop-c.c-iterator.left) _ _ c.in-Some.c refl c.in-Some.ensures.steps in
    subst (λ (x : ℕ). T (left-at c x)) (sym t.least) (lowest_member capacity (left-at c) t.some)

-- what made a pivot is not left, nor is column c, which does now
bound_done : (bound left next : ℕ → Bool) (c : ℕ) → ((k : ℕ) → T (bound k) → T (left k) → ⊥) → c ≡ lowest capacity left → next ≡ removed left (lowest capacity left)
    → (k : ℕ) → T (bound k || eqb k c) → T (next k) → ⊥
bound_done bound left next c h e f k x y = by (or_out (bound k) (eqb k c) x)
  where
    in_left : T (left k && not (eqb k (lowest capacity left)))
    in_left = subst (λ (s : ℕ → Bool). T (s k)) f y

    by : T (bound k) ⊎ T (eqb k c) → ⊥
    by (inl a) = h k a (and_l (left k) (not (eqb k (lowest capacity left))) in_left)
    by (inr z) = not_out (eqb k (lowest capacity left)) (and_r (left k) (not (eqb k (lowest capacity left))) in_left) (subst (λ (i : ℕ). T (eqb k i)) e z)

pub loop-c-init : goal.loop-c-init
loop-c-init c =
    let r = member c.args.columns in
    let b = c.args.self.now in
    let bound = member c.empty-bound.result in
    let it = c.into_iter-c-iterator.result in
    let e : left_of it.set it.at it.left ≡ r = search rules in
    let all : listed (members capacity (left_of it.set it.at it.left)) ≡ r = all_members c.args.columns _ e in
    record {
      can = tt;
      ends = tt;
      same = (refl, refl, refl);
      sized = c.requires.sized;
      across = λ i v. c.requires.across i v ∙ sym (ap (λ (s : ℕ → Bool). s v && set_at b.reduced.now v i) c.requires.pivots);
      done = λ k t l. from_false (bound k) (ap (λ (s : ℕ → Bool). s k) c.empty-bound.ensures) t;
      left = subst (λ (s : ℕ → Bool). IsLeft r b.reduced.now b.preimage.now b.kernel.now s (form_with (member b.pivots) (unbound r s bound) b.reduced.now b.preimage.now b.kernel.now)) (sym all)
          (left_start r b.reduced.now b.preimage.now b.kernel.now _
          (ap₂ (λ (p f : ℕ → Bool). form_with p f b.reduced.now b.preimage.now b.kernel.now) c.requires.pivots (unbound_start r bound)));
    }

pub reduce_column-requires : goal.reduce_column-requires
reduce_column-requires c =
    let l = c.loop-c in
    let b = c.args.self.now in
    let r = member c.args.columns in
    let left = left-at (goal.at.reduce_column-requires c).In-Some in
    let t = taken capacity (left_of l.c-iterator.set l.c-iterator.at l.c-iterator.left) _ _ c.in-Some.c refl c.in-Some.ensures.steps in
    record {
      column = t.small;
      sized = l.invariant.sized;
      units = left_units r b.reduced.now b.preimage.now b.kernel.now left (member l.self.pivots) (unbound r left (member l.bound)) l.self.reduced.now l.self.preimage.now l.self.kernel.now l.invariant.left;
      across = l.invariant.across;
    }

pub loop-c-preserved-then-reduce_column : goal.loop-c-preserved-then-reduce_column
loop-c-preserved-then-reduce_column c =
    let d = (goal.at.loop-c-preserved-then-reduce_column c).In-Some in
    let l = c.loop-c in
    let b = c.args.self.now in
    let n = c.reduce_column.new.self in
    let r = member c.args.columns in
    let bound = member l.bound in
    let left = left-at d in
    let next = listed (members capacity (left_of c.next.new.self.set c.next.new.self.at c.next.new.self.left)) in
    let t = taken capacity (left_of l.c-iterator.set l.c-iterator.at l.c-iterator.left) _ _ c.in-Some.c refl c.in-Some.ensures.steps in
    let more = with_in bound (member c.with-bound.result) c.in-Some.c t.small c.with-bound.ensures in
    record {
      can = tt;
      ends = tt;
      same = (c.reduce_column.ensures.same_tables.0 ∙ c.loop-c.invariant.same.0, c.reduce_column.ensures.same_tables.1 ∙ c.loop-c.invariant.same.1, c.reduce_column.ensures.same_tables.2 ∙ c.loop-c.invariant.same.2);
      sized = c.reduce_column.ensures.sized;
      across = c.reduce_column.ensures.across;
      done = λ k x y. bound_done bound left next c.in-Some.c l.invariant.done t.least t.rest k (subst (λ (s : ℕ → Bool). T (s k)) more x) y;
      left = left_step r b.reduced.now b.preimage.now b.kernel.now left next c.in-Some.c _ _ l.invariant.left t.some t.least t.rest
          (ap (λ (f : ℕ → Bool). form_with (member n.pivots) f n.reduced.now n.preimage.now n.kernel.now)
          (unbound_next r left next bound (member c.with-bound.result) c.in-Some.c c.reduce_column.result (l.invariant.left.within c.in-Some.c (here-left d)) (here-left d) (λ x. l.invariant.done c.in-Some.c x (here-left d)) (t.rest ∙ ap (removed left) (sym t.least))
          (more ∙ ap {B = ℕ → Bool} (λ (m : Bool) (k : ℕ). bound k || (m && eqb k c.in-Some.c)) (sym c.if-reduce_column.true)))
          ∙ c.reduce_column.ensures.form (unbound r left bound));
    }

pub loop-c-preserved : goal.loop-c-preserved
loop-c-preserved c =
    let d = (goal.at.loop-c-preserved c).In-Some in
    let l = c.loop-c in
    let b = c.args.self.now in
    let n = c.reduce_column.new.self in
    let r = member c.args.columns in
    let bound = member l.bound in
    let left = left-at d in
    let next = listed (members capacity (left_of c.next.new.self.set c.next.new.self.at c.next.new.self.left)) in
    let t = taken capacity (left_of l.c-iterator.set l.c-iterator.at l.c-iterator.left) _ _ c.in-Some.c refl c.in-Some.ensures.steps in
    record {
      can = tt;
      ends = tt;
      same = (c.reduce_column.ensures.same_tables.0 ∙ c.loop-c.invariant.same.0, c.reduce_column.ensures.same_tables.1 ∙ c.loop-c.invariant.same.1, c.reduce_column.ensures.same_tables.2 ∙ c.loop-c.invariant.same.2);
      sized = c.reduce_column.ensures.sized;
      across = c.reduce_column.ensures.across;
      done = λ k x y. l.invariant.done k x (and_l (left k) (not (eqb k (lowest capacity left))) (subst (λ (s : ℕ → Bool). T (s k)) t.rest y));
      left = left_step r b.reduced.now b.preimage.now b.kernel.now left next c.in-Some.c _ _ l.invariant.left t.some t.least t.rest
          (ap (λ (f : ℕ → Bool). form_with (member n.pivots) f n.reduced.now n.preimage.now n.kernel.now)
          (unbound_next r left next bound bound c.in-Some.c c.reduce_column.result (l.invariant.left.within c.in-Some.c (here-left d)) (here-left d) (λ x. l.invariant.done c.in-Some.c x (here-left d)) (t.rest ∙ ap (removed left) (sym t.least))
          (fun_ext (λ k. sym (ap (λ (m : Bool). bound k || (m && eqb k c.in-Some.c)) c.if-reduce_column.false ∙ or_false (bound k)))))
          ∙ c.reduce_column.ensures.form (unbound r left bound));
    }

pub returns-clause-form : goal.returns-clause-form
unfolding has
returns-clause-form c =
    let l = c.loop-c in
    let b = c.args.self.now in
    let r = member c.args.columns in
    let left = listed (members capacity (left_of l.c-iterator.set l.c-iterator.at l.c-iterator.left)) in
    ap (λ (f : ℕ → Bool). form_with (member l.self.pivots) f l.self.reduced.now l.self.preimage.now l.self.kernel.now)
    (c.difference-self.ensures ∙ sym (unbound_end r left (member l.bound) (λ k. ap (λ (x : List ℕ). listed x k) c.in-None.ensures.steps.0)))
    ∙ left_done r b.reduced.now b.preimage.now b.kernel.now left _ l.invariant.left (none_listed capacity _ c.in-None.ensures.steps.0)
