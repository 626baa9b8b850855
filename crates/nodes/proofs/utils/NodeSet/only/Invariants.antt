use Rattle.std.proofs.Common.{◌≡◌, ℕ, ◌<◌, ◌≤◌, length, slice_index}
use Rattle.nodes.proofs.NodeSet.{only_word}
use Rattle.nodes.proofs.utils.NodeSet.only.Given as goal

abbrev pub invariant-loop-i : goal.invariant-loop-i
invariant-loop-i g l = record {
  len : length l.words ≡ g.row.WORDS;
  done : (q : ℕ) → q < l.i → slice_index l.words q ≡ only_word l.v l.digit q;
  rest : (q : ℕ) → l.i ≤ q → slice_index l.words q ≡ 0;
}
