use lib.ListN.{length, length-set}
use mathlib.Core.Bool.{Bool, ◌||◌}
use Prim.Native.Nat.{ℕ}
use Rattle.nodes.proofs.SetTable.{put_length}
use Rattle.std.specs.Prelude.{Option}
use Rattle.nodes.specs.NodeSet.{member}
use mathlib.Core.Path.{refl, sym, ap, ◌∙◌}
use Rattle.solver.specs.BasisCalls.{solution_of}
use Rattle.finder.specs.Visits.{placed, progress_in}
use Rattle.solver.proofs.BasisTables.{with_in}
use mathlib.Core.List.{List}
use Rattle.finder.proofs.Visits.{place_none, place_some}
use Rattle.finder.proofs.round.place.Goals as goal

pub returns-in-Some : goal.returns-in-Some
returns-in-Some c =
    let call-put-set = c.put_set in
    let a = c.args in let p = c.requires in record {
      sets_after = place_some a.solved a.layers.now a.sets.now a.u a.r p.0 p.1 p.2 c.in-Some.s c.with.result _ (with_in (member a.solved) (member c.with.result) a.u p.0 c.with.ensures) call-put-set.ensures
          ∙ ap (λ (t : Option (List ℕ)). placed a.u a.r (solution_of t) (progress_in a.solved a.layers.now a.sets.now)) (sym c.in-Some.is);
      layers_len = (length-set a.layers.now a.u a.r ∙ p.1, ap length call-put-set.ensures ∙ put_length a.sets.now a.u _ refl ∙ p.2);
    }

pub returns-in-None : goal.returns-in-None
returns-in-None c = let a = c.args in let p = c.requires in record {
  sets_after = place_none a.solved a.layers.now a.sets.now a.u a.r
      ∙ ap (λ (t : Option (List ℕ)). placed a.u a.r (solution_of t) (progress_in a.solved a.layers.now a.sets.now)) (sym c.in-None.is);
  layers_len = (p.1, p.2);
}
