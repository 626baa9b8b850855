use mathlib.Core.Path.{◌≡◌, sym, ap, ◌∙◌, fun_ext}
use mathlib.Core.Option.{some}
use Prim.Native.Nat.{ℕ}
use native.Mathlib.Omega.{arith}
use lib.ListN.{get_or}
use borrow.Author.Tests.{not-true, not-false}
use Rattle.nodes.specs.Row.{any_below}
use Rattle.nodes.specs.NodeSet.{member, capacity, words_of}
use Rattle.nodes.proofs.Logic.{from_true}
use Rattle.nodes.proofs.Members.{lowest_some}
use Rattle.nodes.proofs.NodeSet.{member_past}
use Rattle.verdicts.specs.Verdict.{each, measured_ask}
use Rattle.calls.specs.Loaded.{job_loaded, flow_loaded, first_in}
use Rattle.calls.proofs.Asking.{first_none, first_some}
use Rattle.calls.proofs.AskingNodes.{measured_first}
use Rattle.calls.proofs.validate.check_measured.Goals as goal
use Rattle.calls.proofs.validate.check_measured.Goals.{After-is_empty}

bare : (c : After-is_empty) → let a = c.args in each a.job.now.n (measured_ask (job_loaded a.job.now) (flow_loaded a.flow.now)) ≡ first_in (member c.difference-bare.result) (λ u. record { number = 17; a = u; b = 0 })
bare c =
    let a = c.args in
    measured_first a.job.now.n (member a.flow.now.entries) (member c.difference-bare.result) (λ u. get_or a.job.now.measured.now u 0) (λ k l. member_past (words_of a.flow.now.entries) k l)
    (c.difference-bare.ensures ∙ fun_ext (λ k. rw (c.intersection.ensures, c.measured_from-some.ensures, c.below-all.ensures)))

pub returns-then-is_empty : goal.returns-then-is_empty
returns-then-is_empty c = let a = c.args in
    first_none (member c.difference-bare.result) (λ u. record { number = 17; a = u; b = 0 }) (not-true _ (sym c.is_empty.ensures ∙ c.if-is_empty.true))
    ∙ sym (bare (goal.at.returns-then-is_empty c).After-is_empty)

pub overflow_cast-result : goal.overflow_cast-result
overflow_cast-result c = omega (arith, c.lowest.ensures, lowest_some capacity (member c.difference-bare.result) (from_true (any_below capacity (member c.difference-bare.result)) (not-false _ (sym c.is_empty.ensures ∙ c.if-is_empty.false))))

pub returns : goal.returns
returns c = ap (λ (u : ℕ). some (record { number = 17; a = u; b = 0 })) c.lowest.ensures
    ∙ first_some (member c.difference-bare.result) (λ u. record { number = 17; a = u; b = 0 }) (not-false _ (sym c.is_empty.ensures ∙ c.if-is_empty.false))
    ∙ sym (bare (goal.at.returns c).After-is_empty)
