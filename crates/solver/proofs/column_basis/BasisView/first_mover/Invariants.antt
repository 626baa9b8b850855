use Rattle.std.proofs.Common.{ℕ, Bool, T}
use Rattle.nodes.specs.Row.{members, dot}
use Rattle.nodes.specs.NodeSet.{capacity, member, left_of}
use Rattle.nodes.specs.SetTable.{set_at}
use Rattle.nodes.proofs.Left.{listed}
use Rattle.solver.proofs.column_basis.BasisView.first_mover.Given as goal

abbrev pub invariant-loop-c : goal.invariant-loop-c
invariant-loop-c l =
    let left : ℕ → Bool = listed (members capacity (left_of l.c-iterator.set l.c-iterator.at l.c-iterator.left)) in record {
      can : goal.iterator-loop-c.can_next l.c-iterator;
      ends : goal.iterator-loop-c.is_finite l.c-iterator;
      within : (k : ℕ) → T (left k) → T (member l.self.free k);
      rest : (k : ℕ) → T (member l.self.free k) → T (dot capacity (set_at l.self.kernel.now k) (member l.asked)) → T (left k);
    }
