use Rattle.std.proofs.Common.{◌≡◌, ℕ, Bool}
use lib.Dec.{T}
use Rattle.nodes.specs.Row.{members}
use Rattle.nodes.specs.NodeSet.{capacity, member, left_of}
use Rattle.nodes.proofs.Left.{listed}
use Rattle.solver.specs.BasisCalls.{form_with, IsSized, IsAcross}
use Rattle.solver.proofs.BasisForms.{IsLeft, unbound}
use Rattle.solver.proofs.column_basis.Basis.reduce_columns.Given as goal

abbrev pub invariant-loop-c : goal.invariant-loop-c
invariant-loop-c l =
    let r : ℕ → Bool = member l.fn.columns in
    let left : ℕ → Bool = listed (members capacity (left_of l.c-iterator.set l.c-iterator.at l.c-iterator.left)) in record {
      can : goal.iterator-loop-c.can_next l.c-iterator;
      ends : goal.iterator-loop-c.is_finite l.c-iterator;
      same : (l.self.kernel.ghost_name ≡ l.fn.self.kernel.ghost_name) × (l.self.reduced.ghost_name ≡ l.fn.self.reduced.ghost_name) × (l.self.preimage.ghost_name ≡ l.fn.self.preimage.ghost_name);
      sized : IsSized l.self.kernel.now l.self.reduced.now l.self.preimage.now l.across;
      across : IsAcross (member l.self.pivots) l.self.reduced.now l.across;
      done : (k : ℕ) → T (member l.bound k) → T (left k) → ⊥;
      left : IsLeft r l.fn.self.reduced.now l.fn.self.preimage.now l.fn.self.kernel.now left
          (form_with (member l.self.pivots) (unbound r left (member l.bound)) l.self.reduced.now l.self.preimage.now l.self.kernel.now);
    }
