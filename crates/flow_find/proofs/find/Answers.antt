use Rattle.std.proofs.Common.{sym, arith}
use Rattle.std.proofs.lemmas.List.{length-take-le}
use Rattle.programs.proofs.Streams.{streams_few}
use Rattle.flow_find.proofs.find.Goals as goal

pub slice_bounds-output-end : goal.slice_bounds-output-end
slice_bounds-output-end c = let few = streams_few _ _ _ _ _ c.find_program-counts.ensures in omega arith

pub slice_bounds-write_output-end : goal.slice_bounds-write_output-end
slice_bounds-write_output-end c = let r = c.find_program-counts in let few = streams_few _ _ _ _ _ r.ensures in sym (length-take-le r.result.output r.new.output (omega arith))

pub slice_bounds-line-end : goal.slice_bounds-line-end
slice_bounds-line-end c = let few = streams_few _ _ _ _ _ c.find_program-counts.ensures in omega arith

pub slice_bounds-write_error-end : goal.slice_bounds-write_error-end
slice_bounds-write_error-end c = let r = c.find_program-counts in let few = streams_few _ _ _ _ _ r.ensures in sym (length-take-le r.result.error r.new.error (omega arith))
