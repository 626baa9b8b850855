use Rattle.std.proofs.Common.{◌≡◌, ℕ, Bool, ◌&&◌, refl, sym, ap, ◌∙◌, subst, rules, T}
use Rattle.nodes.specs.Row.{dot, members, parity}
use Rattle.nodes.specs.NodeSet.{capacity, member, left_of}
use Rattle.nodes.specs.SetTable.{set_at}
use Rattle.nodes.proofs.Logic.{from_true, from_false}
use Rattle.nodes.proofs.Left.{listed, all_members, none_listed, taken}
use Rattle.solver.proofs.BasisTables.{mover_here, mover_none, drop_lowest}
use Rattle.solver.proofs.column_basis.BasisView.first_mover.Goals as goal

pub loop-c-init : goal.loop-c-init
loop-c-init c =
    let r = member c.args.self.now.free in
    let it = c.into_iter-c-iterator.result in
    let e : left_of it.set it.at it.left ≡ r = search rules in
    let all : listed (members capacity (left_of it.set it.at it.left)) ≡ r = all_members c.args.self.now.free _ e in
    record {
      can = tt;
      ends = tt;
      within = λ k t. subst (λ (s : ℕ → Bool). T (s k)) all t;
      rest = λ k t o. subst (λ (s : ℕ → Bool). T (s k)) (sym all) t;
    }

pub returns-then-is_odd : goal.returns-then-is_odd
returns-then-is_odd c =
    let l = c.loop-c in
    let a = c.args in
    let left = listed (members capacity (left_of l.c-iterator.set l.c-iterator.at l.c-iterator.left)) in
    let t = taken capacity (left_of l.c-iterator.set l.c-iterator.at l.c-iterator.left) _ _ c.in-Some.c refl c.in-Some.ensures.steps in
    let odd = c.is_odd.ensures ∙ ap (parity capacity) (c.intersection.ensures ∙ ap {B = ℕ → Bool} (λ (f : ℕ → Bool) (u : ℕ). f u && member a.asked u) c.set_at.ensures) in
    mover_here (member a.self.now.free) (λ k. dot capacity (set_at a.self.now.kernel.now k) (member a.asked)) left c.in-Some.c l.invariant.within l.invariant.rest t.some t.least
    (from_true (dot capacity (set_at a.self.now.kernel.now c.in-Some.c) (member a.asked)) (sym odd ∙ c.if-is_odd.true))

pub loop-c-preserved : goal.loop-c-preserved
loop-c-preserved c =
    let l = c.loop-c in
    let a = c.args in
    let left = listed (members capacity (left_of l.c-iterator.set l.c-iterator.at l.c-iterator.left)) in
    let next = listed (members capacity (left_of c.next.new.self.set c.next.new.self.at c.next.new.self.left)) in
    let t = taken capacity (left_of l.c-iterator.set l.c-iterator.at l.c-iterator.left) _ _ c.in-Some.c refl c.in-Some.ensures.steps in
    let odd = c.is_odd.ensures ∙ ap (parity capacity) (c.intersection.ensures ∙ ap {B = ℕ → Bool} (λ (f : ℕ → Bool) (u : ℕ). f u && member a.asked u) c.set_at.ensures) in
    let no = from_false (dot capacity (set_at a.self.now.kernel.now c.in-Some.c) (member a.asked)) (sym odd ∙ c.if-is_odd.false) in
    let d = drop_lowest left next c.in-Some.c t.least t.rest in
    record {
      can = tt;
      ends = tt;
      within = λ k u. l.invariant.within k (d.0 k u);
      rest = λ k u o. d.1 k (l.invariant.rest k u o) (λ z. no (subst (λ (x : ℕ). T (dot capacity (set_at a.self.now.kernel.now x) (member a.asked))) z o));
    }

pub returns : goal.returns
returns c =
    let l = c.loop-c in
    let a = c.args in
    mover_none (member a.self.now.free) (λ k. dot capacity (set_at a.self.now.kernel.now k) (member a.asked)) _ _ refl l.invariant.rest (none_listed capacity _ c.in-None.ensures.steps.0)
