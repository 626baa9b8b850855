-- Refusals of the code as the definitions have them, and the one view of every answer.
use Rattle.std.specs.Prelude.{Bool, true, Result, Ok, Err}
use Rattle.std.proofs.Math.Option.{Option, none, some}
use Rattle.answers.specs.Answer.{Refusal, refusal, Answer, gives, refuses}
use Rattle.answers.specs.declared.Refusal as Code
use Rattle.answers.specs.declared.RefusalRecord.{RefusalRecord}
use Rattle.answers.specs.declared.Refusal.TheVariants.{NoRecord, CutPayload, WrongLength, WrongOpening, NodeTooLarge, NotAscending, WrongMeasurement, BytesLeft, NotOneMember, ModeNotSearched, WrongShape, NoSuchEquation, InvalidFlowCodomain, InvalidFlowDomain, ExcessiveNonZeroLayer, ExcessiveZeroLayer, InvalidMeasurementSpec, InconsistentFlowOrder, InconsistentFlowPlane, ResultTooLong, GivenTwice, WrongSignals, WrongAngle, NotTheOwner}

-- the three numbers of a record 001F
abbrev pub refusal_of : RefusalRecord → Refusal
refusal_of r = record { number = r.number; a = r.a; b = r.b }

-- document 01's number, a and b of each question
abbrev pub question_of : Code.Refusal → Refusal
question_of NoRecord = refusal 1
question_of CutPayload = refusal 2
question_of WrongLength = refusal 3
question_of WrongOpening = refusal 4
question_of NodeTooLarge = refusal 5
question_of NotAscending = refusal 6
question_of WrongMeasurement = refusal 7
question_of BytesLeft = refusal 8
question_of NotOneMember = refusal 9
question_of ModeNotSearched = refusal 10
question_of WrongShape = refusal 11
question_of NoSuchEquation = refusal 12
question_of (InvalidFlowCodomain node) = record { number = 13; a = node; b = 0 }
question_of (InvalidFlowDomain node) = record { number = 14; a = node; b = 0 }
question_of (ExcessiveNonZeroLayer node layer) = record { number = 15; a = node; b = layer }
question_of (ExcessiveZeroLayer node) = record { number = 16; a = node; b = 0 }
question_of (InvalidMeasurementSpec node) = record { number = 17; a = node; b = 0 }
question_of (InconsistentFlowOrder node other) = record { number = 18; a = node; b = other }
question_of (InconsistentFlowPlane node) = record { number = 19; a = node; b = 0 }
question_of ResultTooLong = refusal 20
question_of GivenTwice = refusal 21
question_of WrongSignals = refusal 22
question_of WrongAngle = refusal 23
question_of NotTheOwner = refusal 24

-- what a function answers, its value seen by `view`
abbrev pub given : {X Y : Type 0} → (X → Y) → Result X Code.Refusal → Answer Y
given view (Ok x) = gives (view x)
given view (Err q) = refuses (question_of q)

-- the same of a check, which gives nothing but 'yes'
abbrev pub passed : Result Unit Code.Refusal → Answer Bool
passed (Ok u) = gives true
passed (Err q) = refuses (question_of q)

-- and as the question that was answered no, if one was
abbrev pub asked_of : Result Unit Code.Refusal → Option Refusal
asked_of (Ok u) = none
asked_of (Err q) = some (question_of q)
