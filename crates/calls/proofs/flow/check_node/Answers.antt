use Rattle.std.proofs.lemmas.Result.{err_from_is_err_and}
use mathlib.Core.Path.{◌≡◌, refl, sym, ap, ◌∙◌, subst, fun_ext}
use mathlib.Core.Bool.{Bool, ◌&&◌, not}
use Prim.Native.Nat.{ℕ, ◌<◌}
use borrow.Author.Rules.{rules}
use lib.Dec.{T, eqb, leb, ltb, ltb→lt}
use Rattle.nodes.specs.Row.{lowest, members}
use Rattle.nodes.specs.NodeSet.{member, highest, capacity, left_of}
use Rattle.nodes.specs.SetTable.{set_at}
use Rattle.nodes.proofs.Row.{ltb_no}
use Rattle.nodes.proofs.SetTable.{set_past}
use Rattle.nodes.proofs.Left.{IsTaken, all_members, has-members, listed, none_listed, taken}
use Rattle.nodes.proofs.Logic.{and_l, and_r}
use Rattle.flows.specs.Job.{Job}
use Rattle.records.specs.JobFile.{mode_causal}
use Rattle.records.specs.FlowFile.{Flow}
use Rattle.verdicts.specs.Verdict.{each, causal_ask, definition_ask}
use Rattle.answers.specs.Refusals.{asked_of}
use Rattle.calls.specs.Loaded.{job_loaded, flow_loaded, within}
use Rattle.calls.proofs.AskingDefinition.{node_output, only, only_start, only-none, only_at, only_next, causal_node}
use Rattle.calls.proofs.flow.check_node.Invariants.{asks}
use Rattle.calls.proofs.flow.check_node.Goals as goal
use Rattle.calls.proofs.flow.check_node.Goals.{At-loop-k, In-Some, Start}

-- what is asked of each member of node i's set

below : (n : ℕ) (s : ℕ → Bool) (k : ℕ) → T (s k && within n k) → k < n
below n s k t = ltb→lt k n (and_l (ltb k n) (leb k highest) (and_r (s k) (within n k) t))

-- ---- the function's entry, and the job and the flow that it is given

abbrev G : Start → Job
G s = job_loaded s.args.job.now

abbrev F : Start → Flow
F s = flow_loaded s.args.flow.now

-- what is asked of node i is what is asked of the members that are left

abbrev G-at-At-loop-k : At-loop-k → Job
G-at-At-loop-k s = job_loaded s.args.job.now

abbrev F-at-At-loop-k : At-loop-k → Flow
F-at-At-loop-k s = flow_loaded s.args.flow.now

abbrev left : At-loop-k → ℕ → Bool
left c = listed (members capacity (left_of c.loop-k.k-iterator.set c.loop-k.k-iterator.at c.loop-k.k-iterator.left))

still : (c : At-loop-k) → let a = c.args in definition_ask (G-at-At-loop-k c) (F-at-At-loop-k c) mode_causal a.i ≡ each a.job.now.n (only (left c) (asks a.job.now a.flow.now a.i))
unfolding causal_ask
still c =
    causal_node (G-at-At-loop-k c) (F-at-At-loop-k c) c.args.i (sym c.has.ensures ∙ c.if-has.false) ∙ c.loop-k.invariant.same

-- within the loop k is the first member that is left

first : (c : In-Some) → let n = c.next.new.self in let l = c.loop-k.k-iterator in IsTaken capacity (members capacity (left_of l.set l.at l.left)) (members capacity (left_of n.set n.at n.left)) c.in-Some.k
first c = let l = c.loop-k.k-iterator in taken capacity (left_of l.set l.at l.left) _ _ c.in-Some.k refl c.in-Some.ensures.steps

pub returns-then-has : goal.returns-then-has
returns-then-has c = node_output (G (goal.at.returns-then-has c).Start) (F (goal.at.returns-then-has c).Start) mode_causal c.args.i (sym c.has.ensures ∙ c.if-has.true)

pub loop-k-init : goal.loop-k-init
loop-k-init c =
    let a = c.args in
    let set = set_at a.flow.now.sets.now a.i in
    let it = c.into_iter-k-iterator.result in
    let s : member c.intersection-s.result ≡ (λ k. set k && within a.job.now.n k) = c.intersection-s.ensures ∙ fun_ext (λ k. rw (c.set_of.ensures, c.below.ensures)) in
    let e : left_of it.set it.at it.left ≡ member c.intersection-s.result = search rules in
    let all = all_members c.intersection-s.result _ e ∙ s in
    record {
      can = tt;
      ends = tt;
      small = λ k t. below a.job.now.n set k (subst (λ (f : ℕ → Bool). T (f k)) all t);
      same = only_start a.job.now.n set (asks a.job.now a.flow.now a.i) (λ k l. set_past a.flow.now.sets.now a.i k l) ∙ ap (λ (f : ℕ → Bool). each a.job.now.n (only f (asks a.job.now a.flow.now a.i))) (sym all);
    }

pub check_pair-requires : goal.check_pair-requires
check_pair-requires c = (c.requires, (first (goal.at.check_pair-requires c).In-Some).small)

pub returns-in_err-check_pair : goal.returns-in_err-check_pair
returns-in_err-check_pair c =
    let a = c.args in
    let here = (goal.at.returns-in_err-check_pair c).At-loop-k in
    let f = first (goal.at.returns-in_err-check_pair c).In-Some in
    let t = ap asked_of c.in_err-check_pair.was in
    let p = err_from_is_err_and c.from_residual.result c.from_residual.ensures.1 in
    rw (p.1, p.2) (sym (still here ∙ only_at a.job.now.n (left here) (asks a.job.now a.flow.now a.i) f.some c.in-Some.k f.least c.loop-k.invariant.small _ (sym c.check_pair.ensures ∙ t)))

pub loop-k-preserved : goal.loop-k-preserved
loop-k-preserved c =
    let a = c.args in
    let s = left (goal.at.loop-k-preserved c).At-loop-k in
    let f = first (goal.at.loop-k-preserved c).In-Some in
    let asked = asks a.job.now a.flow.now a.i in
    let t = ap asked_of c.in_ok-check_pair.was in
    record {
      can = tt;
      ends = tt;
      small = λ k m. c.loop-k.invariant.small k (and_l (s k) (not (eqb k (lowest capacity s))) (subst (λ (g : ℕ → Bool). T (g k)) f.rest m));
      same = c.loop-k.invariant.same ∙ only_next a.job.now.n s asked f.some c.in-Some.k f.least (sym c.check_pair.ensures ∙ t) ∙ ap (λ (g : ℕ → Bool). each a.job.now.n (only g asked)) (sym f.rest);
    }

pub returns : goal.returns
returns c =
    let a = c.args in
    let here = (goal.at.returns c).At-loop-k in
    let l = c.loop-k.k-iterator in
    sym (still here ∙ only-none a.job.now.n (left here) (asks a.job.now a.flow.now a.i)
    (λ k h. has-members capacity (left_of l.set l.at l.left) k ∙ ap (λ (b : Bool). b && left_of l.set l.at l.left k) (ltb_no k capacity h)) (none_listed capacity _ c.in-None.ensures.steps.0))
