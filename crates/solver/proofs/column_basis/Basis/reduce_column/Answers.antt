use Rattle.std.proofs.Common.{◌≡◌, ℕ, Bool, ◌&&◌, ◌||◌, ◌<◌, List, ap, ◌∙◌, subst, arith, eqb}
use Rattle.nodes.specs.Row.{any_below, lowest}
use Rattle.nodes.specs.NodeSet.{capacity, member}
use Rattle.nodes.specs.SetTable.{set_at}
use Rattle.nodes.proofs.Members.{lowest_member, lowest_some}
use mathlib.Core.Path.{fun_ext}
use Rattle.nodes.proofs.Logic.{or_false}
use Rattle.solver.specs.BasisCalls.{Pivoted, form_with}
use Rattle.solver.proofs.BasisTables.{with_in, plus_as, plus_sets, across_step}
use Rattle.solver.proofs.BasisForms.{reduced-free, left_fresh, reduced_pivot, empty_now, some_now}
use Rattle.solver.proofs.column_basis.Basis.reduce_column.Goals as goal

-- the row of the pivot, by what it was found as
by_row : (across : List ℕ) (having : ℕ → Bool) (p q : ℕ) (x : ℕ → Bool) (a b : List ℕ) → having ≡ set_at across p → p ≡ q → Pivoted having p x a b → Pivoted (set_at across q) q x a b
by_row across having p q x a b e f v = subst (λ (n : ℕ). Pivoted (set_at across n) n x a b) f (subst (λ (h : ℕ → Bool). Pivoted h p x a b) e v)

pub returns-then-is_empty-clause-form : goal.returns-then-is_empty-clause-form
returns-then-is_empty-clause-form c free =
    let b = c.args.self.now in
    let r = c.clear_pivots-rest in
    reduced-free b.pivots free b.reduced.now b.preimage.now b.kernel.now c.args.c c.requires.column r.result.left r.result.taken r.ensures.left_is r.ensures.taken_is
    (empty_now c.is_empty.result (any_below capacity (member r.result.left)) c.is_empty.ensures c.if-is_empty.true) _ c.requires.sized.kernel_size c.put_set.ensures

pub put_pivot-requires : goal.put_pivot-requires
put_pivot-requires c =
    let s = lowest_some capacity (member c.clear_pivots-rest.result.left) (some_now c.is_empty.result _ c.is_empty.ensures c.if-is_empty.false) in
    (c.requires.sized.reduced_size, omega (arith, s, c.lowest-q.ensures))

pub put_pivot-requires-2 : goal.put_pivot-requires-2
put_pivot-requires-2 c =
    let s = lowest_some capacity (member c.clear_pivots-rest.result.left) (some_now c.is_empty.result _ c.is_empty.ensures c.if-is_empty.false) in
    (c.requires.sized.preimage_size, omega (arith, s, c.lowest-q.ensures))

pub returns-clause-form : goal.returns-clause-form
returns-clause-form c free =
    let b = c.args.self.now in
    let r = c.clear_pivots-rest in
    let some = some_now c.is_empty.result (any_below capacity (member r.result.left)) c.is_empty.ensures c.if-is_empty.false in
    let low = lowest_some capacity (member r.result.left) some in
    ap (λ (f : ℕ → Bool). form_with (member c.with-self.result) f c.put_pivot.new.table c.put_pivot-2.new.table b.kernel.now) (fun_ext (λ k. or_false (free k)))
    ∙ reduced_pivot b.pivots free b.reduced.now b.preimage.now b.kernel.now c.args.c c.requires.column r.result.left r.result.taken r.ensures.left_is r.ensures.taken_is some c.args.across.now c.requires.across _ _ c.with-self.result
    (by_row c.args.across.now _ c.lowest-q.result _ (member r.result.left) _ _ c.set_at-having.ensures c.lowest-q.ensures c.put_pivot.ensures)
    (by_row c.args.across.now _ c.lowest-q.result _ (member r.result.taken) _ _ c.set_at-having.ensures c.lowest-q.ensures c.put_pivot-2.ensures)
    (with_in (member b.pivots) (member c.with-self.result) c.lowest-q.result (omega (arith, low, c.lowest-q.ensures)) c.with-self.ensures ∙ ap {B = ℕ → Bool} (λ (x u : ℕ). member b.pivots u || eqb u x) c.lowest-q.ensures)

pub returns-clause-across : goal.returns-clause-across
returns-clause-across c =
    let b = c.args.self.now in
    let r = c.clear_pivots-rest in
    let l = member r.result.left in
    let some = some_now c.is_empty.result (any_below capacity l) c.is_empty.ensures c.if-is_empty.false in
    let low = lowest_some capacity l some in
    let small : c.lowest-q.result < capacity = omega (arith, low, c.lowest-q.ensures) in
    let fresh = left_fresh b.pivots (member b.free) b.reduced.now b.preimage.now b.kernel.now c.args.c c.requires.column r.result.left r.result.taken r.ensures.left_is r.ensures.taken_is c.requires.units (lowest capacity l) (lowest_member capacity l some) in
    across_step (member b.pivots) (lowest capacity l) l (member c.with-self.result) b.reduced.now _ c.args.across.now _ fresh c.requires.across
    (by_row c.args.across.now _ c.lowest-q.result _ l _ _ c.set_at-having.ensures c.lowest-q.ensures c.put_pivot.ensures)
    (plus_as (λ i u. l i && member c.with.result u) (λ i u. l i && (set_at c.args.across.now (lowest capacity l) u || eqb u (lowest capacity l))) c.args.across.now c.add_to.new.table
    (plus_sets c.args.across.now c.add_to.new.table r.result.left c.with.result c.requires.sized.across_size c.add_to.ensures)
    (λ i u. ap (λ (f : ℕ → Bool). l i && f u) (with_in (member c.set_at-having.result) (member c.with.result) c.lowest-q.result small c.with.ensures ∙ ap {B = ℕ → Bool} (λ (f : ℕ → Bool) (v : ℕ). f v || eqb v c.lowest-q.result) c.set_at-having.ensures
    ∙ ap {B = ℕ → Bool} (λ (x v : ℕ). set_at c.args.across.now x v || eqb v x) c.lowest-q.ensures)))
    (with_in (member b.pivots) (member c.with-self.result) c.lowest-q.result small c.with-self.ensures ∙ ap {B = ℕ → Bool} (λ (x u : ℕ). member b.pivots u || eqb u x) c.lowest-q.ensures)
