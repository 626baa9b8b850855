use mathlib.Core.Path.{refl, sym, ap, ◌∙◌, fun_ext}
use mathlib.Core.Bool.{Bool, ◌&&◌, ◌||◌}
use lib.Dec.{eqb, leb}
use Prim.Native.Nat.{ℕ, ◌+◌}
use native.Mathlib.Omega.{arith}
use lib.ListN.{drop}
use Rattle.nodes.specs.NodeSet.{member, highest}
use Rattle.records.proofs.ReadingLoops.{lists, lists_end, lists_more}
use Rattle.records.proofs.common.set_of.Goals as goal

pub loop-v-init : goal.loop-v-init
loop-v-init c u = rw c.empty-s.ensures refl

pub loop-v-preserved : goal.loop-v-preserved
loop-v-preserved c u =
    let l = c.loop-v in
    let a = c.args in
    let x = c.from in
    let put = c.with-s.ensures ∙ ap {B = ℕ → Bool} (λ (v : ℕ) (u : ℕ). member l.s u || (eqb u v && leb v highest)) x.ensures in
    l.invariant u ∙ lists_more a.nodes.now l.v-index u (omega arith) (member l.s u)
    ∙ ap (λ (m : ℕ → Bool). m u || lists (drop (l.v-index + 1) a.nodes.now) u) (sym put)

pub returns : goal.returns
returns c =
    let l = c.loop-v in
    let a = c.args in
    fun_ext (λ u. sym (l.invariant u ∙ lists_end a.nodes.now l.v-index u (omega arith) (member l.s u)))
