use mathlib.Core.Path.{◌≡◌, sym, ap, ◌∙◌}
use mathlib.Core.Bool.{Bool, ◌&&◌, ◌||◌}
use mathlib.Core.List.{List, ◌∷◌}
use Prim.Native.Nat.{ℕ, ◌+◌, ◌*◌, ◌≤◌}
use native.Mathlib.Omega.{arith}
use lib.Dec.{eqb, leb}
use lib.ListN.{length, length-replicate}
use borrow.Author.Tests.{le-leb}
use Rattle.nodes.specs.NodeSet.{member, highest, capacity}
use Rattle.nodes.specs.SetTable.{set_words, set_at}
use Rattle.nodes.proofs.Logic.{and_all}
use Rattle.nodes.specs.Lists.{has}
use Rattle.records.specs.FlowFile.{SetEntry, entries_of, listed, all_entries, entry_below, set_in, entry_in}
use Rattle.records.specs.Views.{entry_held}
use Rattle.records.proofs.JobFile.{has_small}
use Rattle.records.specs.declared.entries.Entries.{Entries}
use Rattle.calls.proofs.LoadingEdges.{cleared}
use Rattle.calls.proofs.LoadingTables.{set_more, entry_more, below_out, set_end, entry_end}
use borrow.Author.Rules.{rules}
use Rattle.calls.proofs.load.load_sets.Goals as goal

pub loop-e-init : goal.loop-e-init
loop-e-init c =
    let s : listed (entries_of c.into_iter-e-iterator.result.rest.now) ≡ listed (entries_of c.args.sets.now) = ap (λ (it : Entries). listed (entries_of it.rest.now)) c.into_iter-e-iterator.ensures.into_iter_gives ∙ c.of-e-items.ensures in (
      ap length c.clear_table.ensures ∙ length-replicate _ 0 ∙ c.requires.0,
      ap (all_entries (entry_below capacity)) s ∙ c.requires.1,
      (λ u v. ap (λ (es : List SetEntry). set_in es u v) (sym s) ∙ ap (λ (b : Bool). b || set_in (listed (entries_of c.into_iter-e-iterator.result.rest.now)) u v) (sym (cleared _ (length c.args.table.now) c.clear_table.ensures u v))),
      λ u. ap (λ (es : List SetEntry). entry_in es u) (sym s) ∙ ap (λ (f : ℕ → Bool). f u || entry_in (listed (entries_of c.into_iter-e-iterator.result.rest.now)) u) (sym c.empty-entries.ensures),
    )

pub loop-e-preserved : goal.loop-e-preserved
loop-e-preserved c =
    let l = c.loop-e in
    let e = entry_held c.in-Some.e in
    let rest = listed (entries_of c.next.new.self.rest.now) in
    let h : listed (entries_of l.e-iterator.rest.now) ≡ e ∷ rest = c.in-Some.ensures.steps in
    let (a, b, d) = below_out _ rest e h capacity l.invariant.1 in
    let at : c.from-u.result ≡ e.node = c.from-u.ensures in
    let fit : set_words * e.node + set_words ≤ length l.table = omega arith in
    let room = le-leb (set_words * e.node + set_words) (length l.table) fit in
    let put : (k : ℕ) → member c.with-entries.result k ≡ member l.entries k || eqb k e.node = λ k. ap (λ (f : ℕ → Bool). f k) c.with-entries.ensures ∙ ap (λ (n : ℕ). member l.entries k || (eqb k n && leb n highest)) at ∙ ap (λ (t : Bool). member l.entries k || (eqb k e.node && t)) (le-leb e.node highest (omega arith)) ∙ ap (λ (t : Bool). member l.entries k || t) (and_all (eqb k e.node)) in
    let few : (k : ℕ) → member c.set_of.result k ≡ has e.set k = λ k. ap (λ (f : ℕ → Bool). f k) c.set_of.ensures ∙ has_small capacity e.set (omega arith) b k in (
      search rules,
      d,
      (λ u v. l.invariant.2 u v ∙ set_more _ rest e h u v (set_at l.table u v)
          ∙ ap (λ (t : Bool). t || set_in rest u v)
          (sym (c.add_set.ensures u v ∙ ap (λ (n : ℕ). set_at l.table u v || ((eqb u n && member c.set_of.result v) && leb (set_words * n + set_words) (length l.table))) at ∙ ap (λ (t : Bool). set_at l.table u v || ((eqb u e.node && member c.set_of.result v) && t)) room
          ∙ ap (λ (t : Bool). set_at l.table u v || t) (and_all (eqb u e.node && member c.set_of.result v)) ∙ ap (λ (t : Bool). set_at l.table u v || (eqb u e.node && t)) (few v)))),
      λ u. l.invariant.3 u ∙ entry_more _ rest e h u (member l.entries u) ∙ ap (λ (t : Bool). t || entry_in rest u) (sym (put u)),
    )

pub returns : goal.returns
returns c =
    let l = c.loop-e in
    let none = c.in-None.ensures.steps.0 in record {
      by_index = λ u v. sym (l.invariant.2 u v ∙ set_end _ none u v (set_at l.table u v));
      by_index_2 = λ u. sym (l.invariant.3 u ∙ entry_end _ none u (member l.entries u));
    }
