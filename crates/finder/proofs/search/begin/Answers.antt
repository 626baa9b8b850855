use mathlib.Core.Path.{ap, ◌∙◌}
use mathlib.Core.Bool.{Bool, ◌&&◌}
use Prim.Native.Nat.{ℕ}
use lib.ListN.{length}
use Rattle.nodes.specs.NodeSet.{member}
use Rattle.finder.proofs.Searches.{start_cut}
use borrow.Author.Rules.{rules}
use Rattle.finder.proofs.search.begin.Goals as goal

pub returns : goal.returns
returns c =
    let a = c.args in record {
      sets_after = start_cut a.n c.requires.0 a.outputs c.intersection-solved.result _ _ (length a.layers.now) (length a.sets.now)
          (c.intersection-solved.ensures ∙ ap {B = ℕ → Bool} (λ (f : ℕ → Bool) (u : ℕ). member a.outputs u && f u) c.below.ensures) (search rules) c.clear_table.ensures;
      columns_value = (c.empty-none.ensures, search rules, search rules);
    }
