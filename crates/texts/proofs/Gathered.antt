-- Of specs/JobText: the lists and the measurements in numbers that stand list by list.
use Prim.Native.Nat.{ℕ, zero, suc, ◌+◌, ◌-◌, ◌≤◌, ◌<◌}
use mathlib.Core.Path.{◌≡◌, refl, sym, ap, ap₂, ◌∙◌}
use mathlib.Core.Bool.{Bool, true, false, cond}
use mathlib.Core.List.{List, [], ◌∷◌, ◌++◌, append_assoc}
use mathlib.Core.Logic.{◌⊎◌, inl, inr}
use native.Mathlib.Omega.{arith}
use borrow.Author.Tests.{eqb-true, eqb-false, ltb-true, leb-true, leb-false, le-leb, lt-leb, eq-eqb, ne_eqb}
use lib.Dec.{eqb, leb, ltb}
use lib.ListN.{length, length-append}
use lib.Seq.{get_or-append_seam, set-append_seam}
use Rattle.nodes.specs.Lists.{all, zeros}
use Rattle.nodes.proofs.Logic.{and_out}
use Rattle.answers.specs.Answer.{Answer, gives, ◌>>=◌}
use Rattle.texts.specs.Words.{outputs_name, first_measurement}
use Rattle.texts.specs.JobText.{behind, measured_one, measured}
use Rattle.texts.proofs.Numbers.{measured_not, measured_node}
use Rattle.texts.proofs.ShownLists.{pairs, nodes_with}

pub pairs-length : (name : ℕ) (xs : List ℕ) → length (pairs name xs) ≡ length xs + length xs
unfolding pairs
pairs-length name [] = refl
pairs-length name (x ∷ xs) = let ih = pairs-length name xs in omega arith

-- ---- the numbers behind a name
pub behind_same : (name : ℕ) (xs ns : List ℕ) → behind name (pairs name xs ++ ns) ≡ xs ++ behind name ns
unfolding behind pairs
behind_same name [] ns = refl
behind_same name (x ∷ xs) ns = rw (eq-eqb name name refl) (ap (λ (l : List ℕ). x ∷ l) (behind_same name xs ns))

pub behind_others : (name k : ℕ) (xs ns : List ℕ) → (k ≡ name → ⊥) → behind name (pairs k xs ++ ns) ≡ behind name ns
unfolding behind pairs
behind_others name k [] ns h = refl
behind_others name k (x ∷ xs) ns h = rw (ne_eqb k name h) (behind_others name k xs ns h)

-- ---- the measurements
pub measured_none : (k : ℕ) (xs ns table : List ℕ) → k < first_measurement → measured (pairs k xs ++ ns) table ≡ measured ns table
unfolding measured pairs
measured_none k [] ns table h = refl
measured_none k (x ∷ xs) ns table h =
    ap (λ (m : Answer (List ℕ)). m >>= measured (pairs k xs ++ ns)) (sym (measured_not k x table h)) ∙ measured_none k xs ns table h

-- the measurements up to m alone
abbrev up_to_one : (m x : ℕ) → ℕ
up_to_one m x = cond (leb x m) x 0

unfoldable pub up_to : (m : ℕ) → List ℕ → List ℕ
up_to m [] = []
up_to m (x ∷ ms) = up_to_one m x ∷ up_to m ms

-- how many are above m
unfoldable pub above : (m : ℕ) → List ℕ → ℕ
above m [] = 0
above m (x ∷ ms) = cond (leb x m) (above m ms) (suc (above m ms))

-- a measurement is the next one, or whether it is up to m is whether it is up to the next
abbrev IsNext : (m x : ℕ) → Type 0
IsNext m x =
    ((x ≡ suc m) × (eqb x (suc m) ≡ true) × (leb x m ≡ false) × (leb x (suc m) ≡ true))
    ⊎ ((eqb x (suc m) ≡ false) × (leb x (suc m) ≡ leb x m))

next : (m x : ℕ) → IsNext m x
next m x = by (eqb x (suc m)) refl (leb x m) refl
  where
    by : (s : Bool) → eqb x (suc m) ≡ s → (t : Bool) → leb x m ≡ t → IsNext m x
    by true e t f = let same = eqb-true x (suc m) e in inl (same, e, lt-leb x m (omega arith), le-leb x (suc m) (omega arith))
    by false e true f = let low = leb-true x m f in inr (e, le-leb x (suc m) (omega arith) ∙ sym f)
    by false e false f = let high = leb-false x m f in let other = eqb-false x (suc m) e in inr (e, lt-leb x (suc m) (omega arith) ∙ sym f)

above_next : (m v : ℕ) (ms : List ℕ) → length (nodes_with (suc m) v ms) + above (suc m) ms ≡ above m ms
unfolding nodes_with above
above_next m v [] = refl
above_next m v (x ∷ ms) = by (next m x) (above_next m (suc v) ms)
  where
    others : List ℕ
    others = nodes_with (suc m) (suc v) ms

    by : IsNext m x → length others + above (suc m) ms ≡ above m ms
        → length (cond (eqb x (suc m)) (v ∷ others) others) + cond (leb x (suc m)) (above (suc m) ms) (suc (above (suc m) ms))
        ≡ cond (leb x m) (above m ms) (suc (above m ms))
    by (inl (same, e, f, g)) ih = rw (e, f, g) (omega arith)
    by (inr (e, f)) ih = rw (e, f) (both (leb x m))
      where
        both : (t : Bool) → length others + cond t (above (suc m) ms) (suc (above (suc m) ms)) ≡ cond t (above m ms) (suc (above m ms))
        both true = ih
        both false = omega arith

pub above_few : (m : ℕ) (ms : List ℕ) → above m ms ≤ length ms
unfolding above
above_few m [] = omega arith
above_few m (x ∷ ms) = by (leb x m) (above_few m ms)
  where
    by : (t : Bool) → above m ms ≤ length ms → cond t (above m ms) (suc (above m ms)) ≤ suc (length ms)
    by true h = omega arith
    by false h = omega arith

pub up_to_none : (ms : List ℕ) → up_to 0 ms ≡ zeros (length ms)
unfolding up_to
up_to_none [] = refl
up_to_none (x ∷ ms) = ap₂ (λ (y : ℕ) (l : List ℕ). y ∷ l) (by (leb x 0) refl) (up_to_none ms)
  where
    by : (t : Bool) → leb x 0 ≡ t → cond t x 0 ≡ 0
    by true e = let low = leb-true x 0 e in omega arith
    by false e = refl

pub up_to-all : (m k : ℕ) (ms : List ℕ) → k ≤ suc m → all (λ x. ltb x k) ms ≡ true → up_to m ms ≡ ms
unfolding all up_to
up_to-all m k [] l h = refl
up_to-all m k (x ∷ ms) l h =
    let (this, others) = and_out (ltb x k) (all (λ x. ltb x k) ms) h in
    rw (le-leb x m (omega (arith, ltb-true x k this))) (ap (λ (l : List ℕ). x ∷ l) (up_to-all m k ms l others))

-- the nodes measured by m + 1, put into the table of those up to m; `done` is the table of the nodes before
abbrev Puts : (m v : ℕ) (ms ns before after : List ℕ) → Type 0
Puts m v ms ns before after = measured (pairs (outputs_name + suc m) (nodes_with (suc m) v ms) ++ ns) before ≡ measured ns after

-- one node more is done
one_done : (m : ℕ) (done ms ns : List ℕ) (y : ℕ)
    → Puts m (length (done ++ y ∷ [])) ms ns ((done ++ y ∷ []) ++ up_to m ms) ((done ++ y ∷ []) ++ up_to (suc m) ms)
    → Puts m (suc (length done)) ms ns (done ++ y ∷ up_to m ms) (done ++ y ∷ up_to (suc m) ms)
one_done m done ms ns y p =
    let size : length (done ++ y ∷ []) ≡ suc (length done) = omega (arith, length-append done (y ∷ [])) in
    rw (size, append_assoc done (y ∷ []) (up_to m ms), append_assoc done (y ∷ []) (up_to (suc m) ms)) at p

-- a node that is measured so
this_node : (m : ℕ) (done table : List ℕ) → measured_one (outputs_name + suc m) (length done) (done ++ 0 ∷ table) ≡ gives (done ++ suc m ∷ table)
this_node m done table =
    let size : length (done ++ 0 ∷ table) ≡ length done + suc (length table) = length-append done (0 ∷ table) in
    sym (measured_node (outputs_name + suc m) (length done) (done ++ 0 ∷ table) (omega arith) (omega arith) (get_or-append_seam done 0 table 0))
    ∙ ap gives (set-append_seam done 0 table (outputs_name + suc m - outputs_name) ∙ ap (λ (y : ℕ). done ++ y ∷ table) (omega arith))

measured_next : (m : ℕ) (done ms ns : List ℕ) → Puts m (length done) ms ns (done ++ up_to m ms) (done ++ up_to (suc m) ms)
unfolding pairs nodes_with up_to measured
measured_next m done [] ns = refl
measured_next m done (x ∷ ms) ns = by (next m x) (λ y. one_done m done ms ns y (measured_next m (done ++ y ∷ []) ms ns))
  where
    others : List ℕ
    others = nodes_with (suc m) (suc (length done)) ms

    by : IsNext m x → ((y : ℕ) → Puts m (suc (length done)) ms ns (done ++ y ∷ up_to m ms) (done ++ y ∷ up_to (suc m) ms))
        → measured (pairs (outputs_name + suc m) (cond (eqb x (suc m)) (length done ∷ others) others) ++ ns) (done ++ up_to_one m x ∷ up_to m ms)
        ≡ measured ns (done ++ up_to_one (suc m) x ∷ up_to (suc m) ms)
    by (inl (same, e, f, g)) ih =
        rw (e, f, g, same)
        (ap (λ (a : Answer (List ℕ)). a >>= measured (pairs (outputs_name + suc m) others ++ ns)) (this_node m done (up_to m ms)) ∙ ih (suc m))
    by (inr (e, f)) ih = rw (e, f) (ih (up_to_one m x))

-- ---- k measurements from m on, one after the other
unfoldable pub measured_from : (m k : ℕ) → List ℕ → List ℕ
measured_from m zero ms = []
measured_from m (suc k) ms = pairs (outputs_name + m) (nodes_with m 0 ms) ++ measured_from (suc m) k ms

pub measured_all : (m k : ℕ) (ms : List ℕ) → measured (measured_from (suc m) k ms) (up_to m ms) ≡ gives (up_to (m + k) ms)
unfolding measured measured_from
measured_all m zero ms = ap (λ (j : ℕ). gives (up_to j ms)) (omega arith)
measured_all m (suc k) ms =
    measured_next m [] ms (measured_from (suc (suc m)) k ms) ∙ measured_all (suc m) k ms ∙ ap (λ (j : ℕ). gives (up_to j ms)) (omega arith)

pub behind_measured : (name m k : ℕ) (ms : List ℕ) → name < first_measurement → behind name (measured_from (suc m) k ms) ≡ []
unfolding behind measured_from
behind_measured name m zero ms h = refl
behind_measured name m (suc k) ms h =
    behind_others name (outputs_name + suc m) (nodes_with (suc m) 0 ms) (measured_from (suc (suc m)) k ms) (λ e. omega arith)
    ∙ behind_measured name (suc m) k ms h

-- no node is measured twice
pub measured_few : (m k : ℕ) (ms : List ℕ) → length (measured_from (suc m) k ms) ≤ above m ms + above m ms
unfolding measured_from
measured_few m zero ms = omega arith
measured_few m (suc k) ms =
    simp (length-append, pairs-length) (omega (arith, above_next m 0 ms, measured_few (suc m) k ms))
