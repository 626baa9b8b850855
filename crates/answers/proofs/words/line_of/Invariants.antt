use Rattle.std.proofs.Common.{◌≡◌, ◌++◌}
use Rattle.answers.specs.Refusals.{refusal_of}
use Rattle.answers.specs.Message.{line}
use Rattle.answers.proofs.Pieces.{told_left}
use Rattle.answers.proofs.words.line_of.Given as goal

abbrev pub invariant-loop-piece : goal.invariant-loop-piece
invariant-loop-piece l = l.line.bytes ++ told_left (refusal_of l.q) l.piece-items l.piece-index ≡ line (refusal_of l.q)
