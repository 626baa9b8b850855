use Rattle.std.proofs.Common.{◌≡◌, ℕ, ◌<◌, ◌≤◌, length, slice_index}
use Rattle.nodes.proofs.NodeSet.{front_word}
use Rattle.nodes.proofs.utils.NodeSet+SET_WORDS.below.Given as goal

abbrev pub invariant-loop-i : goal.invariant-loop-i
invariant-loop-i l = record {
  len : length l.words ≡ 2;
  done : (q : ℕ) → q < l.i → slice_index l.words q ≡ front_word l.n l.front q;
  rest : (q : ℕ) → l.i ≤ q → slice_index l.words q ≡ 0;
}
