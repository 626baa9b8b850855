use Prim.Native.Nat.{ℕ, ◌*◌}
use mathlib.Core.Path.{◌≡◌, sym, ap, ◌∙◌, subst}
use mathlib.Core.Bool.{Bool, true, false}
use mathlib.Core.List.{List, ◌∷◌}
use native.Mathlib.Omega.{arith}
use lib.ListN.{length, length-replicate}
use Rattle.nodes.specs.SetTable.{set_at}
use Rattle.nodes.specs.Lists.{has, zeros}
use Rattle.records.specs.FlowFile.{SetEntry, entries_of, listed}
use Rattle.records.specs.BitRows.{row_width, with_column}
use Rattle.records.specs.SignalLists.{edited_list}
use Rattle.records.specs.Views.{entry_held}
use Rattle.records.proofs.BitRows.{bit_rows-length}
use Rattle.records.specs.declared.entries.Entries.{Entries}
use Rattle.calls.specs.Loaded.{flipped_by}
use Rattle.calls.proofs.BuildingSignals.{IsEntered, entered_start, entered_next, entry_below_lem, entry_rises, list_up_to, up_to_none, up_to_clear, up_to_next, up_to_all}
use Rattle.calls.proofs.signals.add_entries.Goals as goal

pub loop-e-init : goal.loop-e-init
loop-e-init c =
    let a = c.args in
    let whole = listed (entries_of a.sets.now) in
    let s : whole ≡ listed (entries_of c.into_iter-e-iterator.result.rest.now) = sym (ap (λ (it : Entries). listed (entries_of it.rest.now)) c.into_iter-e-iterator.ensures.into_iter_gives ∙ c.of-e-items.ensures) in
    (subst (IsEntered a.n whole) s (entered_start a.n a.sets.now c.requires.n_le_capacity.1), c.requires.rows_value.0 ∙ up_to_none a.n (set_at a.graph.now) false whole ∙ ap (list_up_to a.n (set_at a.graph.now) false whole) s, c.requires.rows_value.1 ∙ up_to_none a.n (set_at a.graph.now) true whole ∙ ap (list_up_to a.n (set_at a.graph.now) true whole) s)

-- its column is clear in a list of the entries before it

clear : (n i : ℕ) (whole before rest : List SetEntry) (e : SetEntry) (list : List ℕ) (edge : ℕ → ℕ → Bool) (odd : Bool) → before ≡ e ∷ rest → IsEntered n whole before → i ≡ e.node → list ≡ list_up_to n edge odd whole before → with_column n i (λ v. false) list ≡ list
clear n i whole before rest e list edge odd h s q r = ap (with_column n i (λ v. false)) r ∙ ap (λ (i : ℕ). with_column n i (λ v. false) (list_up_to n edge odd whole before)) q ∙ up_to_clear n whole before rest e h s edge odd ∙ sym r

pub add_entry-requires : goal.add_entry-requires
add_entry-requires c =
    let l = c.loop-e in
    let a = c.args in
    let e = entry_held c.in-Some.e in
    let h = c.in-Some.ensures.steps in
    let edge = set_at a.graph.now in
    let node = c.from.ensures in
    let (below, within) = entry_below_lem a.n _ _ _ e h l.invariant.0 in record {
      n_le_capacity = (c.requires.n_le_capacity.0, omega (arith, node, below), within, entry_rises a.n _ _ _ e h l.invariant.0);
      rows_value = (clear a.n _ _ _ _ e l.rows edge false h l.invariant.0 node l.invariant.1, clear a.n _ _ _ _ e l.odds edge true h l.invariant.0 node l.invariant.2);
    }

pub loop-e-preserved : goal.loop-e-preserved
loop-e-preserved c =
    let l = c.loop-e in
    let a = c.args in
    let e = entry_held c.in-Some.e in
    let h = c.in-Some.ensures.steps in
    let edge = set_at a.graph.now in
    let whole = listed (entries_of a.sets.now) in
    let rest = listed (entries_of c.next.new.self.rest.now) in
    let before = listed (entries_of l.e-iterator.rest.now) in
    let next : (odd : Bool) (list : List ℕ) → list ≡ list_up_to a.n edge odd whole before → edited_list a.n c.from.result (flipped_by a.n edge odd (has e.set)) list ≡ list_up_to a.n edge odd whole rest =
    λ odd list r. ap (λ (i : ℕ). edited_list a.n i (flipped_by a.n edge odd (has e.set)) list) c.from.ensures ∙ ap (edited_list a.n e.node (flipped_by a.n edge odd (has e.set))) r ∙ up_to_next a.n whole before rest e h l.invariant.0 edge odd in
    (entered_next a.n whole before rest e h l.invariant.0, c.add_entry.ensures.rows_after ∙ next false l.rows l.invariant.1, c.add_entry.ensures.odds_after ∙ next true l.odds l.invariant.2)

-- a list that is built is as long as the zeros were

as_long : (n : ℕ) (edge : ℕ → ℕ → Bool) (odd : Bool) (whole rest : List SetEntry) (old list : List ℕ) → old ≡ zeros (row_width n * n) → list ≡ list_up_to n edge odd whole rest → length list ≡ length old
as_long n edge odd whole rest old list e f = ap (λ (l : List ℕ). length l) f ∙ bit_rows-length n _ ∙ sym (ap (λ (l : List ℕ). length l) e ∙ length-replicate (row_width n * n) 0)

pub shape_of-rows : goal.shape_of-rows
shape_of-rows c = let l = c.loop-e in let a = c.args in as_long a.n (set_at a.graph.now) false _ _ a.rows.now l.rows c.requires.rows_value.0 l.invariant.1

pub shape_of-odds : goal.shape_of-odds
shape_of-odds c = let l = c.loop-e in let a = c.args in as_long a.n (set_at a.graph.now) true _ _ a.odds.now l.odds c.requires.rows_value.1 l.invariant.2

pub returns : goal.returns
returns c =
    let l = c.loop-e in
    let a = c.args in
    let whole = listed (entries_of a.sets.now) in
    let none = c.in-None.ensures.steps.0 in record {
      rows_after = l.invariant.1 ∙ ap (list_up_to a.n (set_at a.graph.now) false whole) none ∙ up_to_all a.n (set_at a.graph.now) false whole;
      odds_after = l.invariant.2 ∙ ap (list_up_to a.n (set_at a.graph.now) true whole) none ∙ up_to_all a.n (set_at a.graph.now) true whole;
    }
