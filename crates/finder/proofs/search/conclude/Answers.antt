use mathlib.Core.Bool.{◌&&◌, Bool, not}
use Rattle.nodes.specs.Row.{any_below}
use Prim.Native.Nat.{ℕ}
use Rattle.nodes.specs.NodeSet.{member, capacity}
use Rattle.answers.specs.Answer.{gives}
use mathlib.Core.Path.{sym, ap, ◌∙◌}
use Rattle.finder.proofs.Searches.{all_solved}
use borrow.Author.Rules.{rules}
use Rattle.finder.proofs.search.conclude.Goals as goal

pub returns-then-is_empty : goal.returns-then-is_empty
returns-then-is_empty c = let a = c.args in
    let whole = c.is_empty.ensures ∙ ap (λ (f : ℕ → Bool). not (any_below capacity f)) (c.difference.ensures ∙ ap {B = ℕ → Bool} (λ (f : ℕ → Bool) (u : ℕ). f u && not (member a.solved u)) c.below.ensures) ∙ all_solved a.n (member a.solved) (search rules) in record {
      result_value = ap gives (sym c.if-is_empty.true ∙ whole);
      work_after = search rules;
    }

pub returns : goal.returns
returns c = let a = c.args in
    let whole = c.is_empty.ensures ∙ ap (λ (f : ℕ → Bool). not (any_below capacity f)) (c.difference.ensures ∙ ap {B = ℕ → Bool} (λ (f : ℕ → Bool) (u : ℕ). f u && not (member a.solved u)) c.below.ensures) ∙ all_solved a.n (member a.solved) (search rules) in record {
      result_value = ap gives (sym c.if-is_empty.false ∙ whole);
      work_after = search rules;
    }
