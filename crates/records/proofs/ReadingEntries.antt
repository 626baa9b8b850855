-- The entry at the front of some bytes, from what the code tests; and what is asked of each entry, in std's word.
use mathlib.Core.Path.{◌≡◌, refl, ap}
use mathlib.Core.Bool.{Bool, false, cond, ◌&&◌}
use mathlib.Core.Option.{Option, none, some}
use mathlib.Core.List.{List, [], ◌∷◌}
use Prim.Native.Nat.{ℕ, zero, suc, ◌+◌, ◌-◌, ◌<◌, ◌≤◌}
use native.Mathlib.Nat.{not-suc-le-zero}
use native.Mathlib.Omega.{arith}
use borrow.Author.Tests.{le-leb, lt-leb, ne_eqb}
use lib.Dec.{eqb}
use lib.ListN.{length, get_or, take, drop, length-drop}
use lib.Seq.{take_all}
use Rattle.std.specs.List.{list_all}
use Rattle.std.specs.Iterator.{YieldsFirstBy}
use Rattle.std.proofs.lemmas.Iterator.{YieldsList}
use Rattle.std.proofs.lemmas.Iterator.Consumers.{YieldsList-from_first}
use Rattle.records.specs.FlowFile.{SetEntry, add_entry, entries_in, entries_of, listed, all_entries}
use Rattle.records.specs.Views.{entry_held}
use Rattle.records.specs.declared.entries.Entries.{Entries}

-- fuel that suffices
fuel : (k m : ℕ) (s : List ℕ) → length s < k → length s < m → entries_in k s ≡ entries_in m s
unfolding entries_in
fuel zero m s h g = absurd (not-suc-le-zero h)
fuel (suc k) zero s h g = absurd (not-suc-le-zero g)
fuel (suc k) (suc m) [] h g = refl
fuel (suc k) (suc m) (u ∷ []) h g = refl
fuel (suc k) (suc m) (u ∷ c ∷ s) h g =
    let l : length (drop c s) ≤ length s = simp length-drop (omega arith) in
    rw (fuel k m (drop c s) (omega arith) (omega arith)) refl

-- where no entry is at the front
abbrev pub no_entry : List ℕ → Option (List SetEntry)
no_entry p = cond (eqb (length p) 0) (some []) none

pub entries_short : (p : List ℕ) → length p < 2 → entries_of p ≡ no_entry p
unfolding entries_in
entries_short [] h = refl
entries_short (u ∷ []) h = refl
entries_short (u ∷ c ∷ s) h = absurd (omega arith)

pub entries_cut : (p : List ℕ) → 2 ≤ length p → length p < 2 + get_or p 1 0 → entries_of p ≡ no_entry p
unfolding entries_in
entries_cut [] h g = absurd (omega arith)
entries_cut (u ∷ []) h g = absurd (omega arith)
entries_cut (u ∷ c ∷ s) h g =
    let some_bytes : eqb (length (u ∷ c ∷ s)) 0 ≡ false = ne_eqb (length (u ∷ c ∷ s)) 0 (λ e. omega arith) in
    rw (lt-leb c (length s) (omega arith), some_bytes) refl

-- the entry, and the entries behind it
pub entries_more : (p : List ℕ) (k : ℕ) → k ≡ get_or p 1 0 → 2 + k ≤ length p
    → entries_of p ≡ add_entry (record { node = get_or p 0 0; set = take (2 + k - 2) (drop 2 p) }) (entries_of (take (length p - (2 + k)) (drop (2 + k) p)))
unfolding entries_in
entries_more [] k e g = absurd (omega arith)
entries_more (u ∷ []) k e g = absurd (omega arith)
entries_more (u ∷ c ∷ s) k e g =
    let l : length (drop c s) ≤ length s = simp length-drop (omega arith) in
    let d : 2 + c ≡ suc (suc c) = omega arith in
    let b : suc (suc c) - 2 ≡ c = omega arith in
    let all : take (length (u ∷ c ∷ s) - suc (suc c)) (drop c s) ≡ drop c s = take_all _ (drop c s) (simp length-drop (omega arith)) in
    rw (e, d, b, all, le-leb c (length s) (omega arith)) (ap (add_entry (record { node = u; set = take c s })) (fuel (suc (suc (length s))) (suc (length (drop c s))) (drop c s) (omega arith) (omega arith)))

-- what is asked of each, in std's word
pub each_all : (f : SetEntry → Bool) (es : List SetEntry) → list_all f es ≡ all_entries f es
unfolding all_entries
each_all f [] = refl
each_all f (e ∷ es) = ap (λ (b : Bool). f e && b) (each_all f es)

-- the entries that are left, as a chain of calls of `next` gives them
pub entries_listed : (es : Entries) → YieldsList (YieldsFirstBy entry_held (λ (it : Entries). listed (entries_of it.rest.now))) entry_held es (listed (entries_of es.rest.now))
entries_listed es = YieldsList-from_first entry_held (λ (it : Entries). listed (entries_of it.rest.now)) _ refl
