use Rattle.std.proofs.Common.{◌≡◌, ℕ, ◌<◌, Bool, not, ◌&&◌, List, get_or, refl, sym, ap, ◌∙◌, subst, arith, rules}
use mathlib.Core.Option.{Option, none}
use native.Mathlib.Nat.{lt_of_lt_of_le}
use lib.Dec.{T, eqb}
use Rattle.nodes.specs.Lists.{has}
use Rattle.nodes.specs.Row.{lowest, members}
use Rattle.nodes.specs.NodeSet.{member, capacity, left_of}
use Rattle.nodes.proofs.Logic.{and_l, from_false}
use Rattle.nodes.proofs.Left.{listed, all_members, taken}
use Rattle.nodes.proofs.Members.{lowest_member}
use Rattle.nodes.proofs.Remove.{removed}
use Rattle.solver.specs.BasisCalls.{solution_of}
use Rattle.flows.specs.Search.{Progress}
use Rattle.finder.specs.WorkMatrix.{context_of}
use Rattle.finder.specs.Tries.{try_for}
use Rattle.finder.specs.Visits.{unsolved, progress_in, visited}
use Rattle.finder.proofs.Visits.{picked, visited_start, visited_more, visited_end, visited_fewer, passed_plain}
use Rattle.finder.proofs.Tries.{plain_none}
use Rattle.finder.proofs.Rounds.{unsolved_inside, unsolved_not, plain_tried}
use Rattle.finder.proofs.branch.Round.visit.Goals as goal
use Rattle.finder.proofs.branch.Round.visit.Goals.{In-Some, Start}

-- what a try of the round gives, and what the round began with
abbrev try-at : Start → ℕ → Option (ℕ → Bool)
try-at s u = let j = s.args.self.now in try_for j.n j.graph.now (context_of j.context) u (get_or s.args.measured.now u 0)

abbrev begun : Start → Progress
begun s = let a = s.args in progress_in a.solved a.layers.now a.sets.now

abbrev all-at : Start → ℕ → Bool
all-at s = unsolved s.args.self.now.n (member s.args.solved)

abbrev part-at : Start → ℕ → Bool
part-at s = picked s.args.self.now.n (member s.args.solved) (member s.args.plain) (member s.args.self.now.basis.now.pivots)

-- a node in XY whose row is no pivot would get nothing
plain-passed : (s : Start) (u : ℕ) → T (all-at s u) → T (member s.args.plain u) → (T (member s.args.self.now.basis.now.pivots u) → ⊥) → try-at s u ≡ none
plain-passed s u t x y =
    let a = s.args in
    let j = a.self.now in
    let b = j.basis.now in
    let p = s.requires.0 in
    let small = unsolved_inside j.n (member a.solved) (all-at s) refl u t in
    let fresh = unsolved_not j.n (member a.solved) (all-at s) refl u t in
    let m = get_or a.measured.now u 0 in
    plain_tried j.n j.graph.now (context_of j.context) u m (p.plain_measured u x)
    (plain_none j.n j.graph.now j.context (record { pivots = b.pivots; free = b.free }) b.kernel.now b.reduced.now b.preimage.now j.transposed.now j.ready u m (p.plain_rows u small fresh x) (p.plain_measured u x) y (p.covered u small fresh))

-- the node at hand
abbrev left-at : In-Some → ℕ → Bool
left-at c = listed (members capacity (left_of c.loop-u.u-iterator.set c.loop-u.u-iterator.at c.loop-u.u-iterator.left))

here-left : (c : In-Some) → T (left-at c c.in-Some.u)
here-left c =
    let t = taken capacity (left_of c.loop-u.u-iterator.set c.loop-u.u-iterator.at c.loop-u.u-iterator.left) _ _ c.in-Some.u refl c.in-Some.ensures.steps in
    subst (λ (x : ℕ). T (left-at c x)) (sym t.least) (lowest_member capacity (left-at c) t.some)

here-unsolved : (c : In-Some) → T (unsolved c.args.self.now.n (member c.args.solved) c.in-Some.u)
here-unsolved c =
    let j = c.args.self.now in
    and_l (unsolved j.n (member c.args.solved) c.in-Some.u) (not (member c.args.plain c.in-Some.u && not (member j.basis.now.pivots c.in-Some.u))) (c.loop-u.invariant.within c.in-Some.u (here-left c))

here-node : (c : In-Some) → c.in-Some.u < c.args.self.now.n
here-node c = unsolved_inside c.args.self.now.n (member c.args.solved) (unsolved c.args.self.now.n (member c.args.solved)) refl c.in-Some.u (here-unsolved c)

pub loop-u-init : goal.loop-u-init
loop-u-init c =
    let s = (goal.at.loop-u-init c).Start in
    let it = c.into_iter-u-iterator.result in
    let e : left_of it.set it.at it.left ≡ member c.difference-left.result = search rules in
    let whole : member c.difference-all.result ≡ all-at s = c.difference-all.ensures ∙ ap {B = ℕ → Bool} (λ (f : ℕ → Bool) (u : ℕ). f u && not (member c.args.solved u)) c.below.ensures in
    let is : member c.difference-left.result ≡ part-at s =
    c.difference-left.ensures ∙ ap {B = ℕ → Bool} (λ (f : ℕ → Bool) (u : ℕ). f u && not (member c.difference.result u)) whole
    ∙ ap {B = ℕ → Bool} (λ (f : ℕ → Bool) (u : ℕ). all-at s u && not (f u)) c.difference.ensures in
    let all : listed (members capacity (left_of it.set it.at it.left)) ≡ part-at s = all_members c.difference-left.result _ e ∙ is in
    record {
      can = tt;
      ends = tt;
      layers_len = c.requires.2;
      sets_len = c.requires.3;
      within = λ v t. subst (λ (f : ℕ → Bool). T (f v)) all t;
      progress = subst (λ (f : ℕ → Bool). begun s ≡ visited (λ u. part-at s u && not (f u)) (try-at s) c.args.r (begun s)) (sym all) (visited_start (try-at s) c.args.r (begun s) (part-at s));
    }

pub bounds-measured-u : goal.bounds-measured-u
bounds-measured-u c = lt_of_lt_of_le (here-node (goal.at.bounds-measured-u c).In-Some) c.requires.1

pub try_for-t-requires : goal.try_for-t-requires
try_for-t-requires c =
    let d = (goal.at.try_for-t-requires c).In-Some in
    let j = c.args.self.now in
    let fresh = unsolved_not j.n (member c.args.solved) (unsolved j.n (member c.args.solved)) refl c.in-Some.u (here-unsolved d) in
    record { node = here-node d; covered = c.requires.0.covered c.in-Some.u (here-node d) fresh }

pub place-q-requires : goal.place-q-requires
place-q-requires c =
    let l = c.loop-u in
    let t = taken capacity (left_of l.u-iterator.set l.u-iterator.at l.u-iterator.left) _ _ c.in-Some.u refl c.in-Some.ensures.steps in
    (t.small, l.invariant.layers_len, l.invariant.sets_len)

pub loop-u-preserved : goal.loop-u-preserved
loop-u-preserved c =
    let d = (goal.at.loop-u-preserved c).In-Some in
    let s = (goal.at.loop-u-preserved c).Start in
    let l = c.loop-u in
    let w = c.place-q in
    let left = left-at d in
    let next = listed (members capacity (left_of c.next.new.self.set c.next.new.self.at c.next.new.self.left)) in
    let t = taken capacity (left_of l.u-iterator.set l.u-iterator.at l.u-iterator.left) _ _ c.in-Some.u refl c.in-Some.ensures.steps in
    record {
      can = tt;
      ends = tt;
      layers_len = w.ensures.layers_len.0;
      sets_len = w.ensures.layers_len.1;
      within = λ v x. l.invariant.within v (and_l (left v) (not (eqb v (lowest capacity left))) (subst (λ (f : ℕ → Bool). T (f v)) t.rest x));
      progress = visited_more (try-at s) c.args.r (begun s) (part-at s) left next c.in-Some.u (solution_of c.try_for-t.result)
          (progress_in l.q l.layers l.sets) _ l.invariant.progress w.ensures.sets_after c.try_for-t.ensures (l.invariant.within c.in-Some.u (here-left d)) (here-left d) (t.rest ∙ ap (removed left) (sym t.least));
    }

pub shape_of-layers : goal.shape_of-layers
shape_of-layers c = c.loop-u.invariant.layers_len ∙ sym c.requires.2

pub shape_of-sets : goal.shape_of-sets
shape_of-sets c = c.loop-u.invariant.sets_len ∙ sym c.requires.3

pub returns : goal.returns
unfolding has
returns c =
    let s = (goal.at.returns c).Start in
    let a = c.args in
    let l = c.loop-u in
    let left = listed (members capacity (left_of l.u-iterator.set l.u-iterator.at l.u-iterator.left)) in
    record {
      sets_after = l.invariant.progress
          ∙ visited_end (try-at s) a.r (begun s) (part-at s) left (λ v t. from_false (left v) (ap (λ (x : List ℕ). listed x v) c.in-None.ensures.steps.0) t)
          ∙ visited_fewer (try-at s) a.r (begun s) (all-at s) (part-at s) (λ v t. and_l (all-at s v) (not (member a.plain v && not (member a.self.now.basis.now.pivots v))) t)
          (λ u t f. passed_plain (all-at s) (member a.plain) (member a.self.now.basis.now.pivots) (part-at s) refl u t f (plain-passed s u t));
      layers_len = (l.invariant.layers_len, l.invariant.sets_len);
    }
