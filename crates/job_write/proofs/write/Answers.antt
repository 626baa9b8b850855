use Rattle.std.proofs.Common.{sym, refl, arith, ℕ}
use Rattle.std.proofs.lemmas.List.{length-take-le}
use Rattle.std.proofs.Math.ListN.{length-replicate}
use Rattle.records.specs.Writing.{most_job}
use Rattle.texts.proofs.Made.{made_few}
use Rattle.job_write.proofs.write.Goals as goal

pub slice_bounds-file-end : goal.slice_bounds-file-end
slice_bounds-file-end c = let few = made_few _ _ _ _ c.in-Ok.ensures refl in omega (arith, few, length-replicate {A = ℕ} most_job 0)

pub slice_bounds-write_output-end : goal.slice_bounds-write_output-end
slice_bounds-write_output-end c = let few = made_few _ _ _ _ c.in-Ok.ensures refl in sym (length-take-le c.in-Ok.k c.write_text.new.out (omega (arith, few, length-replicate {A = ℕ} most_job 0)))
