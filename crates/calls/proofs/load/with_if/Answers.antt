use mathlib.Core.Path.{refl, sym, ◌∙◌, fun_ext}
use Rattle.nodes.specs.NodeSet.{member}
use Rattle.nodes.proofs.Logic.{or_false}
use Rattle.calls.proofs.load.with_if.Goals as goal

pub returns-then-put : goal.returns-then-put
returns-then-put c = c.with.ensures ∙ fun_ext (λ u. rw c.if-put.true refl)

pub returns : goal.returns
returns c = fun_ext (λ u. rw c.if-put.false (sym (or_false (member c.args.s u))))
