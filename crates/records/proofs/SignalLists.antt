-- Signal lists, and an entry put among others: what holds of the sets holds of them edited.
use Prim.Native.Nat.{ℕ, ◌+◌, ◌≤◌, ◌<◌}
use mathlib.Core.Path.{◌≡◌, refl, sym, ap, ap₂, ◌∙◌}
use mathlib.Core.Bool.{Bool, true, false, cond, not, ◌&&◌, ◌||◌, false≢true}
use mathlib.Core.List.{List, [], ◌∷◌}
use native.Mathlib.Omega.{arith}
use native.Mathlib.Decide.{ℕ_discrete}
use borrow.Author.Tests.{eqb-true, eq-eqb, ne_eqb, ltb-true, ltb-false, lt-ltb, le-ltb}
use lib.Dec.{eqb, ltb}
use lib.Pointwise.{pointwise}
use Rattle.nodes.specs.Lists.{has, equal}
use Rattle.nodes.proofs.Logic.{and_out, or_false, eqb_yes, eqb_comm}
use Rattle.records.specs.JobFile.{rises}
use Rattle.records.specs.FlowFile.{SetEntry, all_entries, entries_rise, set_in, entry_in}
use Rattle.records.specs.SignalLists.{flips, signal_list, put_entry, edited_list}
use Rattle.records.proofs.FlowFile.{each_none, each_cons, each_out, rise_none, rise_out, rise-cons, entries_none, no_entry_no_set}
use Rattle.records.proofs.BitRows.{bit_rows_ext, column_rows}

-- ---- equal lists
pub equal_self : (l : List ℕ) → equal l l ≡ true
unfolding equal
equal_self [] = refl
equal_self (x ∷ l) = rw (eqb_yes x) (equal_self l)

pub equal_same : (l m : List ℕ) → equal l m ≡ true → l ≡ m
unfolding equal
equal_same [] [] e = refl
equal_same [] (y ∷ m) e = absurd (false≢true e)
equal_same (x ∷ l) [] e = absurd (false≢true e)
equal_same (x ∷ l) (y ∷ m) e = let (a, b) = and_out (eqb x y) (equal l m) e in ap₂ ◌∷◌ (eqb-true x y a) (equal_same l m b)

-- as std compares them
pub equal_each : (l m : List ℕ) → pointwise eqb l m ≡ equal l m
unfolding equal
equal_each [] [] = refl
equal_each [] (y ∷ m) = refl
equal_each (x ∷ l) [] = refl
equal_each (x ∷ l) (y ∷ m) = ap (λ (b : Bool). eqb x y && b) (equal_each l m)

-- ---- lists
pub list_ext : (n : ℕ) (s t : ℕ → ℕ → Bool) → ((i j : ℕ) → i < n → j < n → s i j ≡ t i j) → signal_list n s ≡ signal_list n t
list_ext n s t h = bit_rows_ext n _ _ (λ j i a b. ap (λ (c : Bool). not (eqb i j) && c) (h i j b a))

-- a list that is edited where it was right is the one built afresh
pub edited_afresh : (n i : ℕ) (s : ℕ → Bool) (t : ℕ → ℕ → Bool) → i < n → edited_list n i s (signal_list n t) ≡ signal_list n (λ v. cond (eqb v i) s (t v))
edited_afresh n i s t h = column_rows n i (flips s i) _ h ∙ bit_rows_ext n _ _ (λ j v a b. by j v (ℕ_discrete v i))
  where
    by : (j v : ℕ) → Dec (v ≡ i) → cond (eqb v i) (flips s i j) (flips (t v) v j) ≡ flips (cond (eqb v i) s (t v)) v j
    by j v (yes e) = rw (eq-eqb v i e, e) refl
    by j v (no f) = rw (ne_eqb v i f) refl

-- ---- an entry put among others
module _ (e : SetEntry) where
  pub put_first : (x : SetEntry) (es : List SetEntry) → x.node < e.node → put_entry e (x ∷ es) ≡ x ∷ put_entry e es
  unfolding put_entry
  put_first x es h = rw (lt-ltb x.node e.node h)

  pub put_same : (x : SetEntry) (es : List SetEntry) → x.node ≡ e.node → put_entry e (x ∷ es) ≡ e ∷ es
  unfolding put_entry
  put_same x es h = rw (le-ltb x.node e.node (omega arith), eq-eqb x.node e.node h)

  pub put_before : (x : SetEntry) (es : List SetEntry) → e.node < x.node → put_entry e (x ∷ es) ≡ e ∷ x ∷ es
  unfolding put_entry
  put_before x es h = rw (le-ltb x.node e.node (omega arith), ne_eqb x.node e.node (λ q. omega arith))

  pub put_none : put_entry e [] ≡ e ∷ []
  unfolding put_entry
  put_none = refl

  -- whichever of the three it is
  compared : (a b : ℕ) → (C : Type 0) → (a < b → C) → (a ≡ b → C) → (b < a → C) → C
  compared a b C less same more = by (ltb a b) refl (ℕ_discrete a b)
    where
      by : (c : Bool) → ltb a b ≡ c → Dec (a ≡ b) → C
      by true h d = less (ltb-true a b h)
      by false h (yes q) = same q
      by false h (no f) = more (let l : b ≤ a = ltb-false a b h in omega arith)

  pub put_each : (f : SetEntry → Bool) (es : List SetEntry) → f e ≡ true → all_entries f es ≡ true → all_entries f (put_entry e es) ≡ true
  put_each f [] h a = ap (all_entries f) put_none ∙ each_cons f e [] ∙ rw (h, each_none f)
  put_each f (x ∷ es) h a =
      let (p, q) = each_out f x es a in
      compared x.node e.node _
      (λ l. ap (all_entries f) (put_first x es l) ∙ each_cons f x (put_entry e es) ∙ rw (p, put_each f es h q))
      (λ l. ap (all_entries f) (put_same x es l) ∙ each_cons f e es ∙ rw (h, q))
      (λ l. ap (all_entries f) (put_before x es l) ∙ each_cons f e (x ∷ es) ∙ rw (h, a))

  pub put_rise : (low : ℕ) (es : List SetEntry) → low ≤ e.node → rises 0 e.set ≡ true → entries_rise low es ≡ true → entries_rise low (put_entry e es) ≡ true
  put_rise low [] h r a = ap (entries_rise low) put_none ∙ rise-cons low e [] h r ∙ rise_none (e.node + 1)
  put_rise low (x ∷ es) h r a =
      let (b, p, q) = rise_out low x es a in
      compared x.node e.node _
      (λ l. ap (entries_rise low) (put_first x es l) ∙ rise-cons low x (put_entry e es) b p ∙ put_rise (x.node + 1) es (omega arith) r q)
      (λ l. ap (entries_rise low) (put_same x es l) ∙ rise-cons low e es h r ∙ ap (λ (k : ℕ). entries_rise (k + 1) es) (sym l) ∙ q)
      (λ l. ap (entries_rise low) (put_before x es l) ∙ rise-cons low e (x ∷ es) h r ∙ rise-cons (e.node + 1) x es (omega arith) p ∙ q)

  -- the node's set is the entry's, all others are as they were
  pub put_set : (low : ℕ) (es : List SetEntry) (u k : ℕ) → entries_rise low es ≡ true → set_in (put_entry e es) u k ≡ cond (eqb u e.node) (has e.set k) (set_in es u k)
  unfolding set_in
  put_set low [] u k a = ap (λ (l : List SetEntry). set_in l u k) put_none ∙ by (eqb u e.node) (eqb_comm e.node u)
    where
      by : (c : Bool) → eqb e.node u ≡ c → eqb e.node u && has e.set k || false ≡ cond c (has e.set k) false
      by true h = rw h (or_false (has e.set k))
      by false h = rw h refl
  put_set low (x ∷ es) u k a =
      let (b, p, q) = rise_out low x es a in
      compared x.node e.node _
      (λ l. ap (λ (l : List SetEntry). set_in l u k) (put_first x es l) ∙ ap (λ (c : Bool). eqb x.node u && has x.set k || c) (put_set (x.node + 1) es u k q) ∙ later l (ℕ_discrete u e.node))
      (λ l. ap (λ (l : List SetEntry). set_in l u k) (put_same x es l) ∙ here l (entries_none (x.node + 1) es u q) (ℕ_discrete u e.node))
      (λ l. ap (λ (l : List SetEntry). set_in l u k) (put_before x es l) ∙ sooner l (ℕ_discrete u e.node) (entries_none (e.node + 1) (x ∷ es) u (rise-cons (e.node + 1) x es (omega arith) p ∙ q)))
    where
      later : x.node < e.node → Dec (u ≡ e.node)
          → eqb x.node u && has x.set k || cond (eqb u e.node) (has e.set k) (set_in es u k) ≡ cond (eqb u e.node) (has e.set k) (eqb x.node u && has x.set k || set_in es u k)
      later l (yes h) = rw (eq-eqb u e.node h, ne_eqb x.node u (λ q. omega arith)) refl
      later l (no f) = rw (ne_eqb u e.node f) refl

      here : x.node ≡ e.node → (u < x.node + 1 → entry_in es u ≡ false) → Dec (u ≡ e.node)
          → eqb e.node u && has e.set k || set_in es u k ≡ cond (eqb u e.node) (has e.set k) (eqb x.node u && has x.set k || set_in es u k)
      here l g (yes h) = rw (eq-eqb u e.node h, eq-eqb e.node u (sym h), no_entry_no_set es u k (g (omega arith))) (or_false (has e.set k))
      here l g (no f) = rw (ne_eqb u e.node f, ne_eqb e.node u (λ q. f (sym q)), ne_eqb x.node u (λ q. f (omega arith))) refl

      sooner : e.node < x.node → Dec (u ≡ e.node) → (u < e.node + 1 → entry_in (x ∷ es) u ≡ false)
          → eqb e.node u && has e.set k || set_in (x ∷ es) u k ≡ cond (eqb u e.node) (has e.set k) (set_in (x ∷ es) u k)
      sooner l (yes h) g = rw (eq-eqb u e.node h, eq-eqb e.node u (sym h)) (ap (λ (c : Bool). has e.set k || c) (no_entry_no_set (x ∷ es) u k (g (omega arith))) ∙ or_false (has e.set k))
      sooner l (no f) g = rw (ne_eqb u e.node f, ne_eqb e.node u (λ q. f (sym q))) refl
