use Prim.Native.Nat.{ℕ, ◌+◌}
use mathlib.Core.Path.{◌≡◌, refl, sym, ap, ◌∙◌}
use mathlib.Core.Bool.{Bool}
use mathlib.Core.List.{List, ◌∷◌}
use native.Mathlib.Omega.{arith}
use borrow.Author.Rules.{rules}
use lib.ListN.{length}
use Rattle.nodes.specs.Row.{count, members}
use Rattle.nodes.specs.NodeSet.{capacity, member, left_of}
use Rattle.nodes.specs.SetTable.{set_at}
use Rattle.nodes.proofs.Left.{taken}
use Rattle.records.specs.Splice.{splice}
use Rattle.records.specs.Writing.{set_bytes}
use Rattle.records.proofs.Splice.{splice_none}
use Rattle.records.proofs.WritingLoops.{entry_length, entries_step, no_entries}
use Rattle.records.proofs.writer.put_entries.Goals as goal

pub loop-u-init : goal.loop-u-init
loop-u-init c =
    let a = c.args in
    let it = c.into_iter-u-iterator.result in
    let e : left_of it.set it.at it.left ≡ member a.nodes = search rules in
    record {
      can = tt;
      ends = tt;
      size = refl;
      place = ap (λ (f : ℕ → Bool). a.at + length (set_bytes capacity (set_at a.sets.now) (members capacity f))) e;
      bytes = ap (λ (f : ℕ → Bool). splice a.at (set_bytes capacity (set_at a.sets.now) (members capacity f)) a.out.now) e;
    }

pub put_entry-p-requires : goal.put_entry-p-requires
put_entry-p-requires c =
    let l = c.loop-u in
    let left = left_of l.u-iterator.set l.u-iterator.at l.u-iterator.left in
    let t = taken capacity left _ _ c.in-Some.u refl c.in-Some.ensures.steps in
    let size = entry_length (set_at c.args.sets.now) c.in-Some.u _ _ c.in-Some.ensures.steps in
    (t.small, omega (arith, size, ap (count capacity) c.set_at.ensures, l.invariant.size, l.invariant.place))

pub loop-u-preserved : goal.loop-u-preserved
loop-u-preserved c =
    let l = c.loop-u in
    let g = c.args.sets.now in
    let put = c.put_entry-p in
    let size = entry_length (set_at g) c.in-Some.u _ _ c.in-Some.ensures.steps in
    let same = ap (count capacity) c.set_at.ensures in
    record {
      can = tt;
      ends = tt;
      size = search rules;
      place = omega (arith, size, same, put.ensures.value, l.invariant.place);
      bytes =
          entries_step (set_at g) c.in-Some.u _ _ c.in-Some.ensures.steps l.p put.result l.out put.new.out (omega (arith, same, put.ensures.value)) (omega (arith, l.invariant.size, l.invariant.place))
          (put.ensures.out_after ∙ ap (λ (f : ℕ → Bool). splice l.p (c.in-Some.u ∷ count capacity f ∷ members capacity f) l.out) c.set_at.ensures) ∙ l.invariant.bytes;
    }

pub returns-clause-value : goal.returns-clause-value
returns-clause-value c = omega (arith, ap length (no_entries (set_at c.args.sets.now) _ c.in-None.ensures.steps.0), c.loop-u.invariant.place)

pub returns-clause-out_after : goal.returns-clause-out_after
returns-clause-out_after c =
    let l = c.loop-u in
    sym (splice_none l.p l.out) ∙ ap (λ (b : List ℕ). splice l.p b l.out) (sym (no_entries (set_at c.args.sets.now) _ c.in-None.ensures.steps.0)) ∙ l.invariant.bytes
