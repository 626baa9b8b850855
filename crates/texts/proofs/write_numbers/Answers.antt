use Rattle.std.proofs.Common.{◌≡◌, List, ℕ, take, get_or, arith, ap, ap₂, ◌∙◌}
use Rattle.std.proofs.lemmas.Result.{err_from_is_err_and}
use Rattle.nodes.specs.Lists.{zeros}
use Rattle.answers.specs.Answer.{Answer}
use Rattle.texts.specs.JobText.{node_count, measured, made_of}
use Rattle.texts.specs.Views.{bytes_of}
use Rattle.texts.proofs.Numbers.{fewer_zeros}
use Rattle.texts.proofs.write_numbers.Goals.{After-measure}
use Rattle.texts.proofs.write_numbers.Goals as goal

-- the table of n zeros
table : (c : After-measure) → let ns = bytes_of c.args.numbers.now.items in measured (bytes_of c.as_slice-2.result.now) (take c.from-n.result (zeros 256)) ≡ measured ns (zeros (node_count ns))
table c =
    let count = c.from-n.ensures ∙ c.number_at.ensures ∙ ap (λ (l : List ℕ). get_or l 1 0) (ap bytes_of c.as_slice.ensures.value) in
    ap₂ measured (ap bytes_of c.as_slice-2.ensures.value) (fewer_zeros 256 c.from-n.result (omega (arith, c.from-n.ensures, c.number_at.type_inv)) ∙ ap zeros count)

pub returns-in_err-measure : goal.returns-in_err-measure
returns-in_err-measure c =
    let p = err_from_is_err_and c.from_residual.result c.from_residual.ensures.1 in
    rw (p.1, p.2) (ap (λ (t : Answer (List ℕ)). made_of (bytes_of c.args.numbers.now.items) t c.args.out.now) (c.in_err-measure.ensures.table_after ∙ table (goal.at.returns-in_err-measure c).After-measure))

pub returns : goal.returns
returns c =
    c.write_lists.ensures
    ∙ ap (λ (t : Answer (List ℕ)). made_of (bytes_of c.args.numbers.now.items) t c.args.out.now) (c.in_ok-measure.ensures.table_after ∙ table (goal.at.returns c).After-measure)
