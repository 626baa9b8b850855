use lib.ListN.{length}
use native.Mathlib.Omega.{arith}
use mathlib.Core.Path.{refl, ap, ◌∙◌}
use mathlib.Core.Bool.{true, false}
use Prim.Native.Nat.{ℕ, ◌*◌, ◌≤◌}
use Rattle.nodes.specs.NodeSet.{member}
use Rattle.nodes.proofs.NodeSet.{member-lt}
use Rattle.solver.specs.Solver.{row_bytes}
use Rattle.finder.specs.WorkMatrix.{row_bit}
use Rattle.finder.proofs.WorkMatrix.{both_size, both_upper, both_lower}
use Rattle.finder.proofs.matrix.fill.Goals as goal

pub returns : goal.returns
returns c =
    let call-count = c.count-start in
    let a = c.args in let u = member a.s.now.upper in let l = member a.s.now.lower in let f = row_bit a.transposed.now (member a.s.now.columns) false in let g = row_bit a.transposed.now (member a.s.now.columns) true in
    let e = ap (λ (x : ℕ). x * row_bytes) call-count.ensures in let p = c.put_rows in let q = c.put_rows-2 in
    let room : call-count.result * row_bytes ≤ length p.new.work = omega (arith, p.ensures.1, call-count.ensures, c.requires) in record {
      laid_out = both_upper u l f g _ p.new.work q.new.work _ e room (member-lt a.s.now.upper) refl p.ensures.0;
      laid_out_2 = (both_lower u l f g _ p.new.work q.new.work _ e room (member-lt a.s.now.upper) refl q.ensures.0, both_size u l f g _ p.new.work q.new.work _ e room (member-lt a.s.now.upper) refl q.ensures.1 ∙ p.ensures.1);
    }
