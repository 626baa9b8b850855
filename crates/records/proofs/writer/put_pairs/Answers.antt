use Prim.Native.Nat.{ℕ, ◌+◌, ◌*◌}
use mathlib.Core.Path.{◌≡◌, refl, sym, ap, ◌∙◌}
use mathlib.Core.Bool.{Bool}
use mathlib.Core.List.{List}
use native.Mathlib.Omega.{arith}
use borrow.Author.Rules.{rules}
use lib.ListN.{length}
use Rattle.nodes.specs.Row.{members}
use Rattle.nodes.specs.NodeSet.{capacity, member, left_of}
use Rattle.nodes.proofs.Members.{members-length}
use Rattle.nodes.proofs.Left.{taken}
use Rattle.records.specs.JobLists.{pairs_with}
use Rattle.records.specs.Splice.{splice}
use Rattle.records.proofs.Splice.{splice_none}
use Rattle.records.proofs.WritingJobs.{pairs_none, pairs_step}
use Rattle.records.proofs.writer.put_pairs.Goals as goal

pub loop-b-init : goal.loop-b-init
loop-b-init c =
    let a = c.args in
    let it = c.into_iter-b-iterator.result in
    let e : left_of it.set it.at it.left ≡ member a.s = search rules in
    record {
      can = tt;
      ends = tt;
      size = refl;
      place = ap (λ (f : ℕ → Bool). a.at + 2 * length (members capacity f)) e ∙ ap (λ (k : ℕ). a.at + 2 * k) (members-length capacity (member a.s));
      bytes = ap (λ (f : ℕ → Bool). splice a.at (pairs_with a.a (members capacity f)) a.out.now) e;
    }

pub overflow_cast-b : goal.overflow_cast-b
overflow_cast-b c =
    let l = c.loop-b in
    let t = taken capacity (left_of l.b-iterator.set l.b-iterator.at l.b-iterator.left) _ _ c.in-Some.b refl c.in-Some.ensures.steps in
    omega (arith, t.small)

pub put_byte-requires : goal.put_byte-requires
put_byte-requires c = let l = c.loop-b in omega (arith, ap length c.in-Some.ensures.steps, l.invariant.size, l.invariant.place)

pub overflow_add-p : goal.overflow_add-p
overflow_add-p c = let l = c.loop-b in omega (arith, ap length c.in-Some.ensures.steps, l.invariant.size, l.invariant.place)

pub put_byte-requires-in-loop-b : goal.put_byte-requires-in-loop-b
put_byte-requires-in-loop-b c = let l = c.loop-b in omega (arith, ap length c.in-Some.ensures.steps, l.invariant.size, l.invariant.place)

pub overflow_add-p-in-loop-b : goal.overflow_add-p-in-loop-b
overflow_add-p-in-loop-b c = let l = c.loop-b in omega (arith, ap length c.in-Some.ensures.steps, l.invariant.size, l.invariant.place)

pub loop-b-preserved : goal.loop-b-preserved
loop-b-preserved c =
    let l = c.loop-b in
    let others = members capacity (left_of c.next.new.self.set c.next.new.self.at c.next.new.self.left) in
    let first = c.put_byte in
    let second = c.put_byte-in-loop-b in
    record {
      can = tt;
      ends = tt;
      size = search rules;
      place = omega (arith, ap length c.in-Some.ensures.steps, l.invariant.place);
      bytes = pairs_step c.in-Some.b _ others c.in-Some.ensures.steps c.args.a l.p l.out first.new.out second.new.out (omega (arith, l.invariant.size, l.invariant.place)) (search rules) first.ensures second.ensures ∙ l.invariant.bytes;
    }

pub returns : goal.returns
returns c =
    let l = c.loop-b in
    let e = c.in-None.ensures.steps.0 in record {
      out_after = sym (splice_none l.p l.out) ∙ ap (λ (b : List ℕ). splice l.p b l.out) (sym (pairs_none c.args.a _ e)) ∙ l.invariant.bytes;
      value = omega (arith, ap length e, l.invariant.place);
    }
