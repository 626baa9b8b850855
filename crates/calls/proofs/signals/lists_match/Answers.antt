use Prim.Native.Nat.{ℕ, ◌*◌, ◌≤◌}
use mathlib.Core.Path.{◌≡◌, ap, ◌∙◌}
use native.Mathlib.Omega.{arith}
use Rattle.nodes.specs.Lists.{zeros}
use Rattle.records.specs.BitRows.{row_width}
use Rattle.calls.specs.Loaded.{most_list}
use Rattle.calls.proofs.BuildingSignals.{list_fits, zeros_front}
use Rattle.calls.proofs.signals.lists_match.Goals as goal

pub add_entries-requires-clause-rows_value : goal.add_entries-requires-clause-rows_value
add_entries-requires-clause-rows_value c =
    let size : c.row_width.result * c.args.job.now.n ≡ row_width c.args.job.now.n * c.args.job.now.n = ap (λ (w : ℕ). w * c.args.job.now.n) c.row_width.ensures in
    let fits : c.row_width.result * c.args.job.now.n ≤ 2048 = omega (arith, size, list_fits c.args.job.now.n c.args.job.now.few) in
    let empty = zeros_front _ most_list fits ∙ ap zeros size in (empty, empty)
