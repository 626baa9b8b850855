use Rattle.std.proofs.Common.{sym, refl, arith, ℕ}
use Rattle.std.proofs.lemmas.List.{length-take-le}
use Rattle.std.proofs.Math.ListN.{length-replicate}
use Rattle.texts.specs.Shown.{text_room}
use Rattle.texts.proofs.Made.{shown_few}
use Rattle.job_show.proofs.show.Goals as goal

pub slice_bounds-text-end : goal.slice_bounds-text-end
slice_bounds-text-end c = let few = shown_few _ _ _ _ c.in-Ok.ensures refl in omega (arith, few, length-replicate {A = ℕ} text_room 0)

pub slice_bounds-write_output-end : goal.slice_bounds-write_output-end
slice_bounds-write_output-end c = let few = shown_few _ _ _ _ c.in-Ok.ensures refl in sym (length-take-le c.in-Ok.k c.show_text.new.out (omega (arith, few, length-replicate {A = ℕ} text_room 0)))
