use Prim.Native.Nat.{ℕ, ◌+◌}
use mathlib.Core.Path.{◌≡◌, refl, sym, ap, ◌∙◌}
use mathlib.Core.Bool.{Bool}
use mathlib.Core.List.{List}
use native.Mathlib.Omega.{arith}
use borrow.Author.Rules.{rules}
use lib.ListN.{length}
use Rattle.nodes.specs.Row.{members}
use Rattle.nodes.specs.NodeSet.{capacity, member, left_of}
use Rattle.nodes.proofs.Members.{members-length}
use Rattle.nodes.proofs.Left.{taken}
use Rattle.records.specs.Splice.{splice}
use Rattle.records.proofs.Splice.{splice_none}
use Rattle.records.proofs.WritingLoops.{members_next}
use Rattle.records.proofs.writer.put_members.Goals as goal

pub loop-k-init : goal.loop-k-init
loop-k-init c =
    let a = c.args in
    let it = c.into_iter-k-iterator.result in
    let e : left_of it.set it.at it.left ≡ member a.s = search rules in
    record {
      can = tt;
      ends = tt;
      size = refl;
      place = ap (λ (f : ℕ → Bool). a.at + length (members capacity f)) e ∙ ap (λ (k : ℕ). a.at + k) (members-length capacity (member a.s));
      bytes = ap (λ (f : ℕ → Bool). splice a.at (members capacity f) a.out.now) e;
    }

pub overflow_cast-k : goal.overflow_cast-k
overflow_cast-k c =
    let l = c.loop-k in
    let t = taken capacity (left_of l.k-iterator.set l.k-iterator.at l.k-iterator.left) _ _ c.in-Some.k refl c.in-Some.ensures.steps in
    omega (arith, t.small)

pub put_byte-requires : goal.put_byte-requires
put_byte-requires c = let l = c.loop-k in omega (arith, ap length c.in-Some.ensures.steps, l.invariant.size, l.invariant.place)

pub overflow_add-p : goal.overflow_add-p
overflow_add-p c = let l = c.loop-k in omega (arith, ap length c.in-Some.ensures.steps, l.invariant.size, l.invariant.place)

pub loop-k-preserved : goal.loop-k-preserved
loop-k-preserved c =
    let l = c.loop-k in
    let others = members capacity (left_of c.next.new.self.set c.next.new.self.at c.next.new.self.left) in
    record {
      can = tt;
      ends = tt;
      size = search rules;
      place = omega (arith, ap length c.in-Some.ensures.steps, l.invariant.place);
      bytes = members_next l.p c.in-Some.k _ others l.out c.put_byte.new.out c.in-Some.ensures.steps (omega (arith, l.invariant.size, l.invariant.place)) c.put_byte.ensures ∙ l.invariant.bytes;
    }

pub returns : goal.returns
returns c =
    let l = c.loop-k in
    let e = c.in-None.ensures.steps.0 in record {
      out_after = sym (splice_none l.p l.out) ∙ ap (λ (b : List ℕ). splice l.p b l.out) (sym e) ∙ l.invariant.bytes;
      value = omega (arith, ap length e, l.invariant.place);
    }
