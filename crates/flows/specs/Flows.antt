-- Both searches as one: mode 3 goes by Paulis, mode 2 by planes.
use Rattle.std.specs.Prelude.{Bool, true, false}
use Rattle.std.proofs.Math.Option.{Option}
use Rattle.flows.specs.Job.{Job}
use Rattle.flows.specs.Search.{Progress}
use Rattle.flows.specs.Planes as Planes
use Rattle.flows.specs.Paulis as Paulis

abbrev pub find_at : Job → Bool → Option Progress
find_at j true = Paulis.find j
find_at j false = Planes.find j
