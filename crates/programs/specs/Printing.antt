-- What the code of the programs answers, as the definitions have it.
use Rattle.std.specs.Prelude.{ℕ, List, Option as Lent, Some, None}
use Rattle.std.proofs.Math.Option.{Option, none, some}
use Rattle.answers.specs.Answer.{Refusal}
use Rattle.answers.specs.Refusals.{refusal_of}
use Rattle.answers.specs.declared.RefusalRecord.{RefusalRecord}
use Rattle.demands.specs.Programs.{Printed}
use Rattle.programs.specs.declared.output.Output.{Output}

abbrev pub refused_of : Lent RefusalRecord → Option Refusal
refused_of None = none
refused_of (Some q) = some (refusal_of q)

-- with the buffer as it is then
abbrev pub output_of : Output → (out : List ℕ) → Printed
output_of r out = record { refused = refused_of r.refused; count = r.count; out = out }
