-- Options: whether there is a value, and the first of two that has one.
use Rattle.std.specs.Prelude.{Bool, true, false}
use Rattle.std.proofs.Math.Option.{Option, none, some}

abbrev pub is_some : {A : Type 0} → Option A → Bool
is_some none = false
is_some (some x) = true

abbrev pub option_or : {A : Type 0} → Option A → Option A → Option A
option_or (some x) o = some x
option_or none o = o
