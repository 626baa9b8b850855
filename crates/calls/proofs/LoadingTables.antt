-- For `load_sets`: entries as a table of sets: those put in so far, and those of the rest.
use Prim.Native.Nat.{ℕ, ◌<◌}
use mathlib.Core.Path.{◌≡◌, refl, sym, ap, ◌∙◌}
use mathlib.Core.Bool.{Bool, true, false, ◌&&◌, ◌||◌}
use mathlib.Core.List.{List, [], ◌∷◌}
use lib.Dec.{eqb, ltb}
use Rattle.nodes.proofs.Logic.{or_false, eqb_comm, and_out}
use Rattle.nodes.specs.Lists.{has, all}
use Rattle.records.specs.FlowFile.{SetEntry, all_entries, entry_below, set_in, entry_in}
use Rattle.records.proofs.FlowFile as Entry

regroup : (m x y : Bool) → m || (x || y) ≡ (m || x) || y
regroup true x y = refl
regroup false x y = refl

module _ (whole rest : List SetEntry) (e : SetEntry) (h : whole ≡ e ∷ rest) where
  pub set_more : (u v : ℕ) (m : Bool) → m || set_in whole u v ≡ (m || (eqb u e.node && has e.set v)) || set_in rest u v
  unfolding set_in
  set_more u v m =
      ap (λ (o : List SetEntry). m || set_in o u v) h
      ∙ regroup m (eqb e.node u && has e.set v) (set_in rest u v)
      ∙ ap (λ (b : Bool). (m || (b && has e.set v)) || set_in rest u v) (eqb_comm e.node u)

  pub entry_more : (u : ℕ) (m : Bool) → m || entry_in whole u ≡ (m || eqb u e.node) || entry_in rest u
  unfolding entry_in
  entry_more u m =
      ap (λ (o : List SetEntry). m || entry_in o u) h
      ∙ regroup m (eqb e.node u) (entry_in rest u)
      ∙ ap (λ (b : Bool). (m || b) || entry_in rest u) (eqb_comm e.node u)

  pub below_out : (n : ℕ) → all_entries (entry_below n) whole ≡ true → (e.node < n) × (all (λ v. ltb v n) e.set ≡ true) × (all_entries (entry_below n) rest ≡ true)
  unfolding all_entries
  below_out n t =
      let (a, b) = and_out (entry_below n e) (all_entries (entry_below n) rest) (sym (ap (all_entries (entry_below n)) h) ∙ t) in
      let (x, y) = Entry.below_out n e a in
      (x, y, b)

-- the last one has passed
module _ (rest : List SetEntry) (h : rest ≡ []) where
  pub set_end : (u v : ℕ) (m : Bool) → m || set_in rest u v ≡ m
  unfolding set_in
  set_end u v m = ap (λ (o : List SetEntry). m || set_in o u v) h ∙ or_false m

  pub entry_end : (u : ℕ) (m : Bool) → m || entry_in rest u ≡ m
  unfolding entry_in
  entry_end u m = ap (λ (o : List SetEntry). m || entry_in o u) h ∙ or_false m
