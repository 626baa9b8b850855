use Prim.Native.Nat.{ℕ}
use mathlib.Core.Path.{◌≡◌, ap, ◌∙◌}
use mathlib.Core.Bool.{Bool, true}
use Rattle.nodes.specs.NodeSet.{member}
use Rattle.nodes.specs.SetTable.{set_at}
use Rattle.nodes.specs.Lists.{has}
use Rattle.records.specs.SignalLists.{flips}
use Rattle.records.proofs.BitRows.{column_ext}
use Rattle.calls.specs.Loaded.{flipped_by}
use Rattle.calls.proofs.BuildingSignals.{odd_members, flippable, flippable_below}
use Rattle.calls.proofs.signals.add_entry.Goals as goal

pub add_members-requires : goal.add_members-requires
add_members-requires c = record {
  n_le_capacity = (c.requires.n_le_capacity.0, c.requires.n_le_capacity.1, c.requires.n_le_capacity.2);
  list_value = c.requires.rows_value.0;
}

pub add_column-requires : goal.add_column-requires
add_column-requires c = record {
  n_le_capacity = (c.requires.n_le_capacity.0, c.requires.n_le_capacity.1, flippable_below c.args.n c.args.i (member c.odd_of_members-odd.result) (member c.below.result) (member c.without-flippable.result) (member c.intersection.result) c.below.ensures c.without-flippable.ensures c.intersection.ensures);
  list_value = c.requires.rows_value.1;
}

pub returns : goal.returns
returns c =
    let a = c.args in
    let t = member c.odd_of_members-odd.result in
    let odd : (v : ℕ) → t v ≡ flipped_by a.n (set_at a.graph.now) true (has a.members.now) v = λ v. ap (λ (f : ℕ → Bool). f v) c.odd_of_members-odd.ensures ∙ odd_members a.n 0 (λ k. set_at a.graph.now k v) a.members.now c.requires.n_le_capacity.2 c.requires.n_le_capacity.3 in record {
      rows_after = c.add_members.ensures;
      odds_after = c.add_column.ensures
          ∙ column_ext a.n a.i (member c.intersection.result) (flips (flipped_by a.n (set_at a.graph.now) true (has a.members.now)) a.i) a.odds.now
          (λ j h. flippable a.n a.i j t (member c.below.result) (member c.without-flippable.result) (member c.intersection.result) c.requires.n_le_capacity.0 h c.below.ensures c.without-flippable.ensures c.intersection.ensures ∙ ap (λ (b : Bool). flips (λ v. b) a.i j) (odd j));
    }
