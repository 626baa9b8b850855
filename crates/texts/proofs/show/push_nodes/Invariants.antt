use Rattle.std.proofs.Common.{drop}
use Rattle.texts.specs.Shown.{shown_nodes}
use Rattle.texts.proofs.Placed.{Leads}
use Rattle.texts.proofs.show.push_nodes.Given as goal

abbrev pub invariant-loop-v : goal.invariant-loop-v
invariant-loop-v l = Leads l.text.items (shown_nodes (drop l.v-index l.nodes)) l.initial.text.items (shown_nodes l.nodes)
