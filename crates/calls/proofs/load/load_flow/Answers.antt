use Prim.Native.Nat.{ℕ}
use mathlib.Core.Path.{◌≡◌, sym, ap, ◌∙◌}
use native.Mathlib.Omega.{arith}
use lib.ListN.{length, length-replicate}
use Rattle.nodes.specs.NodeSet.{capacity}
use Rattle.nodes.specs.Lists.{zeros}
use Rattle.records.specs.Views.{flow_held}
use Rattle.calls.proofs.Loaded.{flow_is_loaded}
use Rattle.calls.proofs.load.load_flow.Goals as goal

pub load_layers-requires : goal.load_layers-requires
load_layers-requires c = let zero = c.requires.layers_value.0 in
    let size : length c.args.layers.now ≡ capacity = ap length zero ∙ length-replicate {A = ℕ} capacity 0 in
    (omega (arith, c.requires.flow_len_bound.0, size), zero ∙ ap zeros (sym size))

pub load_sets-requires : goal.load_sets-requires
load_sets-requires c = (c.requires.layers_value.1, c.requires.flow_len_bound.1)

pub returns : goal.returns
returns c = let layers = c.load_layers in
    let sets = c.load_sets in
    flow_is_loaded (flow_held c.args.flow.now) layers.new.to sets.new.table sets.result
    layers.ensures
    sets.ensures.by_index_2 sets.ensures.by_index
