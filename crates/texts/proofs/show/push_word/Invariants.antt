use Rattle.std.proofs.Common.{drop}
use Rattle.texts.proofs.Placed.{Leads}
use Rattle.texts.proofs.show.push_word.Given as goal

abbrev pub invariant-loop-byte : goal.invariant-loop-byte
invariant-loop-byte l = Leads l.text.items (drop l.byte-index l.byte-items) l.initial.text.items l.word
