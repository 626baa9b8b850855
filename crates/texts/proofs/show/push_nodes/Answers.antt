use Rattle.std.proofs.Common.{◌≡◌, ◌+◌, ◌++◌, drop, get_or}
use Rattle.texts.specs.Shown.{shown_number, shown_nodes}
use Rattle.texts.proofs.Placed.{leads_start, room_here, leads_on, leads_done}
use Rattle.texts.proofs.Showing.{nodes_step, nodes_end}
use Rattle.texts.proofs.show.push_nodes.Goals.{In-loop-v}
use Rattle.texts.proofs.show.push_nodes.Goals as goal

pub loop-v-init : goal.loop-v-init
loop-v-init c = leads_start c.args.text.now.items (shown_nodes c.args.nodes.now)

step : (c : In-loop-v) → shown_nodes (drop c.loop-v.v-index c.args.nodes.now) ≡ shown_number (get_or c.args.nodes.now c.loop-v.v-index 0) ++ shown_nodes (drop (c.loop-v.v-index + 1) c.args.nodes.now)
step c = nodes_step c.args.nodes.now c.loop-v.v-index c.loop-v-test.true

pub push_number-requires : goal.push_number-requires
push_number-requires c = room_here c.loop-v.invariant (shown_number (get_or c.args.nodes.now c.loop-v.v-index 0)) (shown_nodes (drop (c.loop-v.v-index + 1) c.args.nodes.now)) (step (goal.at.push_number-requires c).In-loop-v) c.requires

pub loop-v-preserved : goal.loop-v-preserved
loop-v-preserved c = leads_on c.loop-v.invariant _ _ _ (step (goal.at.loop-v-preserved c).In-loop-v) c.push_number.ensures

pub returns : goal.returns
returns c = leads_done c.loop-v.invariant (nodes_end c.args.nodes.now c.loop-v.v-index c.loop-v-test.false)
