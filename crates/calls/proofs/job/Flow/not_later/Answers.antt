use mathlib.Core.Path.{ap, ◌∙◌, fun_ext}
use mathlib.Core.Bool.{Bool, not, ◌&&◌}
use Prim.Native.Nat.{ℕ}
use lib.Dec.{eqb, leb}
use lib.ListN.{get_or}
use Rattle.calls.specs.Loaded.{within}
use Rattle.calls.proofs.job.Flow.not_later.Goals as goal

pub returns : goal.returns
returns c = let n = c.layers_from in
    let b = c.layer_of in
    let a = c.args in
    c.without.ensures ∙ fun_ext (λ v. ap (λ (f : ℕ → Bool). f v && not (eqb v a.i)) n.ensures ∙ ap (λ (x : ℕ). (within a.job.now.n v && leb x (get_or a.self.now.layers.now v 0)) && not (eqb v a.i)) b.ensures)
