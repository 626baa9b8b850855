use mathlib.Core.Path.{◌≡◌}
use lib.ListN.{length}
use Rattle.records.specs.Views.{flow_held}
use Rattle.calls.proofs.Loaded.{IsFirstIn}
use Rattle.calls.proofs.load.load_layers.Given as goal

abbrev pub invariant-loop-u : goal.invariant-loop-u
invariant-loop-u l = (length l.to ≡ length l.initial.to) × IsFirstIn (flow_held l.flow).layers l.to l.u
