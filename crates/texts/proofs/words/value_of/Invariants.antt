use Rattle.std.proofs.Common.{◌≡◌, drop}
use Rattle.std.proofs.Math.Option.{some}
use Rattle.texts.specs.Words.{with_digits, value_of}
use Rattle.texts.proofs.words.value_of.Given as goal

abbrev pub invariant-loop-c : goal.invariant-loop-c
invariant-loop-c l = with_digits (some l.v) (drop l.c-index l.digits) ≡ value_of l.digits
