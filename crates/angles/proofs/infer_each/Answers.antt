use Rattle.std.proofs.Common.{◌≡◌, ◌∙◌, ◌++◌, ℕ, List, refl, ap, arith, length, drop}
use lib.ListN.{set}
use Rattle.nodes.specs.Lists.{list_of}
use Rattle.angles.specs.AngleRecord.{inferred_bytes}
use Rattle.angles.proofs.AngleRecord.{inferred_at, put_next}
use Rattle.angles.proofs.infer_each.Goals as goal

pub loop-u-init : goal.loop-u-init
unfolding list_of
loop-u-init c = refl

pub loop-u-preserved : goal.loop-u-preserved
loop-u-preserved c =
    let l = c.loop-u in
    let a = c.args in
    ap (λ (t : List ℕ). set t l.u c.infer_bits.result) l.invariant ∙ put_next l.u (inferred_at a.planes.now a.angles.now) a.out.now c.infer_bits.result (omega arith) (cc)

pub returns : goal.returns
unfolding inferred_bytes
returns c =
    let l = c.loop-u in
    let a = c.args in
    let e : l.u ≡ length a.planes.now = omega arith in
    l.invariant ∙ ap (λ (k : ℕ). list_of k (inferred_at a.planes.now a.angles.now) ++ drop k a.out.now) e
