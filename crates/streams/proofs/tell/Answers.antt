use Rattle.std.proofs.Common.{sym, arith}
use Rattle.std.proofs.lemmas.List.{length-take-le}
use Rattle.answers.proofs.Lines.{written_few}
use Rattle.streams.proofs.tell.Goals as goal

pub slice_bounds-line-end : goal.slice_bounds-line-end
slice_bounds-line-end c = let few = written_few _ _ _ c.message-k.ensures in omega arith

pub slice_bounds-write_error-end : goal.slice_bounds-write_error-end
slice_bounds-write_error-end c = let few = written_few _ _ _ c.message-k.ensures in sym (length-take-le c.message-k.result c.message-k.new.out (omega arith))
