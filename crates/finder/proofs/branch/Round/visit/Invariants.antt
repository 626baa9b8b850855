use mathlib.Core.Path.{◌≡◌}
use mathlib.Core.Bool.{Bool, not, ◌&&◌}
use Prim.Native.Nat.{ℕ}
use lib.Dec.{T}
use lib.ListN.{get_or, length}
use Rattle.nodes.specs.Row.{members}
use Rattle.nodes.specs.NodeSet.{capacity, member, left_of}
use Rattle.nodes.specs.SetTable.{table_words}
use Rattle.nodes.proofs.Left.{listed}
use Rattle.finder.specs.WorkMatrix.{context_of}
use Rattle.finder.specs.Tries.{try_for}
use Rattle.finder.specs.Visits.{progress_in, visited}
use Rattle.finder.proofs.Visits.{picked}
use Rattle.finder.proofs.branch.Round.visit.Given as goal

abbrev pub invariant-loop-u : goal.invariant-loop-u
invariant-loop-u l =
    let left : ℕ → Bool = listed (members capacity (left_of l.u-iterator.set l.u-iterator.at l.u-iterator.left)) in
    let part : ℕ → Bool = picked l.fn.self.n (member l.fn.solved) (member l.fn.plain) (member l.fn.self.basis.now.pivots) in record {
      can : goal.iterator-loop-u.can_next l.u-iterator;
      ends : goal.iterator-loop-u.is_finite l.u-iterator;
      layers_len : length l.layers ≡ capacity;
      sets_len : length l.sets ≡ table_words;
      within : (v : ℕ) → T (left v) → T (part v);
      progress : progress_in l.q l.layers l.sets
          ≡ visited (λ u. part u && not (left u)) (λ u. try_for l.fn.self.n l.fn.self.graph.now (context_of l.fn.self.context) u (get_or l.fn.measured u 0)) l.fn.r (progress_in l.fn.solved l.fn.layers l.fn.sets);
    }
