use mathlib.Core.Path.{◌≡◌}
use mathlib.Core.Bool.{◌&&◌}
use lib.Dec.{ltb}
use lib.ListN.{drop}
use Rattle.nodes.specs.Lists.{all}
use Rattle.records.proofs.questions.below.Given as goal

abbrev pub invariant-loop-v : goal.invariant-loop-v
invariant-loop-v l = all (λ v. ltb v l.n) l.nodes ≡ ltb l.top l.n && all (λ v. ltb v l.n) (drop l.v-index l.nodes)
