use mathlib.Core.Path.{◌≡◌}
use Prim.Native.Nat.{◌+◌, ◌%◌}
use lib.ListN.{length}
use Rattle.std.specs.Slice.Iter.{chunks_exact_rest, chunks_exact_size}
use Rattle.records.specs.JobFile.{pairs_rise}
use Rattle.records.proofs.questions.pairs_rising.Given as goal

abbrev pub invariant-loop-edge : goal.invariant-loop-edge
invariant-loop-edge l = (chunks_exact_size l.edge-iterator ≡ 2) × (length (chunks_exact_rest l.edge-iterator) % 2 ≡ 0) × (pairs_rise 0 l.edges ≡ pairs_rise (l.last + 1) (chunks_exact_rest l.edge-iterator))
