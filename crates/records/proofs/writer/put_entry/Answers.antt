use Prim.Native.Nat.{ℕ, ◌+◌}
use mathlib.Core.Path.{ap, ◌∙◌}
use mathlib.Core.List.{[], ◌∷◌}
use native.Mathlib.Omega.{arith}
use Rattle.nodes.specs.Row.{count, members}
use Rattle.nodes.specs.NodeSet.{capacity, member}
use Rattle.nodes.proofs.Count.{count-le}
use Rattle.nodes.proofs.Members.{members-length}
use Rattle.records.specs.Splice.{splice}
use Rattle.records.proofs.Splice.{splice_more, splice-splice}
use Rattle.records.proofs.writer.put_entry.Goals as goal

pub overflow_cast-count : goal.overflow_cast-count
overflow_cast-count c = let a = c.args in omega (arith, count-le capacity (member a.s))

pub returns : goal.returns
returns c = let a = c.args in
    let k = count capacity (member a.s) in
    let first = c.put_byte in
    let second = c.put_byte-2 in
    let rest = c.put_members in
    let head = second.ensures ∙ ap (λ (x : ℕ). splice (a.at + 1) (x ∷ []) first.new.out) c.count.ensures ∙ splice_more a.at (a.at + 1) (a.u ∷ []) k a.out.now first.new.out (omega arith) (omega arith) first.ensures in record {
      out_after = rest.ensures.out_after ∙ ap (splice (a.at + 2) (members capacity (member a.s))) head
          ∙ splice-splice a.at (a.u ∷ k ∷ []) (members capacity (member a.s)) a.out.now (omega (arith, members-length capacity (member a.s)));
      value = rest.ensures.value;
    }
