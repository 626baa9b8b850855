use Rattle.std.proofs.Common.{◌≡◌, ℕ, ◌<◌, ◌≤◌, length, slice_index, bit_or}
use Rattle.nodes.proofs.utils.NodeSet.union.Given as goal

abbrev pub invariant-loop-i : goal.invariant-loop-i
invariant-loop-i g l = record {
  len : length l.self-inside.words ≡ g.row.WORDS;
  done : (k : ℕ) → k < l.i → slice_index l.self-inside.words k ≡ bit_or (slice_index l.initial.self-inside.words k) (slice_index l.o-inside.words k);
  rest : (k : ℕ) → l.i ≤ k → slice_index l.self-inside.words k ≡ slice_index l.initial.self-inside.words k;
}
