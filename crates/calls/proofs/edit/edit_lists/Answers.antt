use Prim.Native.Nat.{ℕ, ◌+◌, ◌-◌, ◌<◌}
use mathlib.Core.Path.{◌≡◌, ap, ap₂, ◌∙◌}
use mathlib.Core.Bool.{true, false}
use mathlib.Core.List.{List}
use native.Mathlib.Omega.{arith}
use lib.ListN.{length, get_or, take, drop, length-drop}
use lib.Seq.{take_all}
use Rattle.nodes.specs.SetTable.{set_at}
use Rattle.nodes.specs.Lists.{has}
use Rattle.records.specs.JobFile.{nodes_below, rises}
use Rattle.records.specs.FlowFile.{SetEntry, entry_of}
use Rattle.records.specs.SignalLists.{edited_list, flips}
use Rattle.records.proofs.FlowFile.{entry_out, below_out}
use Rattle.records.proofs.BitRows.{column_twice}
use Rattle.calls.specs.Loaded.{flipped_by}
use Rattle.calls.proofs.edit.edit_lists.Goals as goal
use Rattle.calls.proofs.edit.edit_lists.Goals.{Start, After-from-i}

abbrev E : Start → SetEntry
E s = entry_of s.args.entry.now

asked : (s : Start) → ((E s).node < s.args.n) × (nodes_below s.args.n (E s).set ≡ true) × (rises 0 (E s).set ≡ true)
asked s = let (size, below, rise) = entry_out s.args.n s.args.entry.now true s.requires.n_le_capacity.1 in let (node, set) = below_out s.args.n (E s) below in (node, set, rise)

long : (s : Start) → length s.args.entry.now ≡ 2 + get_or s.args.entry.now 1 0
long s = (entry_out s.args.n s.args.entry.now true s.requires.n_le_capacity.1).0

node : (c : After-from-i) → c.from-i.result ≡ get_or c.args.entry.now 0 0
node c = c.from-i.ensures ∙ c.byte_at.ensures

pub load_cleared-requires : goal.load_cleared-requires
load_cleared-requires c = (c.requires.n_le_capacity.0, omega (arith, node (goal.at.load_cleared-requires c).After-from-i, (asked (goal.at.load_cleared-requires c).Start).0), c.requires.n_le_capacity.2.0, c.requires.rows_value.0)

pub load_cleared-requires-2 : goal.load_cleared-requires-2
load_cleared-requires-2 c = (c.requires.n_le_capacity.0, omega (arith, node (goal.at.load_cleared-requires-2 c).After-from-i, (asked (goal.at.load_cleared-requires-2 c).Start).0), c.requires.n_le_capacity.2.1, c.requires.rows_value.1)

pub slice_bounds-add_entry-count : goal.slice_bounds-add_entry-count
slice_bounds-add_entry-count c = omega (arith, long (goal.at.slice_bounds-add_entry-count c).Start)

pub slice_bounds-add_entry-start : goal.slice_bounds-add_entry-start
slice_bounds-add_entry-start c = omega (arith, long (goal.at.slice_bounds-add_entry-start c).Start)

members : (s : Start) → take (length s.args.entry.now - 2) (drop 2 s.args.entry.now) ≡ (E s).set
members s = let entry = s.args.entry.now in take_all (length entry - 2) (drop 2 entry) (omega (arith, length-drop 2 entry))

pub add_entry-requires-clause-n_le_capacity : goal.add_entry-requires-clause-n_le_capacity
add_entry-requires-clause-n_le_capacity c =
    let s = (goal.at.add_entry-requires-clause-n_le_capacity c).Start in
    (c.requires.n_le_capacity.0, omega (arith, node (goal.at.add_entry-requires-clause-n_le_capacity c).After-from-i, (asked s).0), rw (members s) (asked s).1, rw (members s) (asked s).2)

pub add_entry-requires-clause-rows_value : goal.add_entry-requires-clause-rows_value
add_entry-requires-clause-rows_value c = (rw c.load_cleared.ensures (column_twice c.args.n _ (λ j. false) (λ j. false) _), rw c.load_cleared-2.ensures (column_twice c.args.n _ (λ j. false) (λ j. false) _))

pub returns-clause-rows_after : goal.returns-clause-rows_after
returns-clause-rows_after c =
    let a = c.args in
    let i = c.from-i.result in
    let m = take (length a.entry.now - 2) (drop 2 a.entry.now) in
    c.add_entry.ensures.rows_after
    ∙ ap (edited_list a.n i (has m)) c.load_cleared.ensures
    ∙ column_twice a.n i (flips (has m) i) (λ j. false) a.stored.now.rows.now
    ∙ ap₂ (λ (i : ℕ) (m : List ℕ). edited_list a.n i (has m) a.stored.now.rows.now) (node (goal.at.returns-clause-rows_after c).After-from-i) (members (goal.at.returns-clause-rows_after c).Start)

pub returns-clause-odds_after : goal.returns-clause-odds_after
returns-clause-odds_after c =
    let a = c.args in
    let i = c.from-i.result in
    let m = take (length a.entry.now - 2) (drop 2 a.entry.now) in
    let edge = set_at a.graph.now in
    c.add_entry.ensures.odds_after
    ∙ ap (edited_list a.n i (flipped_by a.n edge true (has m))) c.load_cleared-2.ensures
    ∙ column_twice a.n i (flips (flipped_by a.n edge true (has m)) i) (λ j. false) a.stored.now.odds.now
    ∙ ap₂ (λ (i : ℕ) (m : List ℕ). edited_list a.n i (flipped_by a.n edge true (has m)) a.stored.now.odds.now) (node (goal.at.returns-clause-odds_after c).After-from-i) (members (goal.at.returns-clause-odds_after c).Start)
