-- The questions of each record refuse with one of the numbers 1 to 7 or with 23, and no a and b.
use Prim.Native.Nat.{ℕ, ◌*◌}
use mathlib.Core.Path.{◌≡◌, refl, sym, subst}
use mathlib.Core.Bool.{Bool, true, false, ◌&&◌, ◌||◌}
use mathlib.Core.List.{List}
use lib.Dec.{eqb, leb}
use lib.ListN.{length, get_or}
use Rattle.nodes.specs.Options.{is_some}
use Rattle.angles.specs.AngleRecord.{angle_bytes, angles_allowed}
use Rattle.answers.specs.Answer.{Refusal, Answer, refuses, refusal, asks, ◌>>◌}
use Rattle.answers.proofs.Answer.{never}
use Rattle.records.specs.Records.{each_asks}
use Rattle.records.specs.JobFile.{whole_pairs, nodes_below, rises, pairs_rise, all_allowed, opening_allowed, opening_asks, edges_asks, nodes_asks, measurements_asks, angles_asks}
use Rattle.records.specs.FlowFile.{entries_of, listed, all_entries, entry_below, entries_rise, sets_asks}

abbrev pub is_reading : ℕ → Bool
is_reading q = leb 1 q && leb q 7 || eqb q 23

pub record IsReadingRefusal (r : Refusal) : Type 0 where
  pub number : ℕ
  pub same : r ≡ refusal number
  pub reading : is_reading number ≡ true

pub numbered : (q : ℕ) → is_reading q ≡ true → IsReadingRefusal (refusal q)
numbered q h = record { number = q; same = refl; reading = h }

-- questions with such numbers
abbrev pub IsNumbered : Answer Bool → Type 0
IsNumbered m = (r : Refusal) → m ≡ refuses r → IsReadingRefusal r

-- one, and those behind it
asked : (q : ℕ) (c : Bool) (k : Answer Bool) → is_reading q ≡ true → IsNumbered k → IsNumbered (asks q c >> k)
asked q true k h m r e = m r e
asked q false k h m r e = let same : refusal q ≡ r = cc in subst IsReadingRefusal same (numbered q h)

last_asked : (q : ℕ) (c : Bool) → is_reading q ≡ true → IsNumbered (asks q c)
last_asked q true h r e = absurd (never (sym e))
last_asked q false h r e = let same : refusal q ≡ r = cc in subst IsReadingRefusal same (numbered q h)

pub opening_numbered : (l : List ℕ) → IsNumbered (opening_asks l)
unfolding opening_asks
opening_numbered l = asked 3 (eqb (length l) 2) _ refl (last_asked 4 (opening_allowed (get_or l 0 0) (get_or l 1 0)) refl)

pub edges_numbered : (n : ℕ) (l : List ℕ) → IsNumbered (edges_asks n l)
unfolding edges_asks
edges_numbered n l = asked 3 (whole_pairs l) _ refl (asked 5 (nodes_below n l) _ refl (last_asked 6 (pairs_rise 0 l) refl))

pub nodes_numbered : (n : ℕ) (l : List ℕ) → IsNumbered (nodes_asks n l)
unfolding nodes_asks
nodes_numbered n l = asked 5 (nodes_below n l) _ refl (last_asked 6 (rises 0 l) refl)

pub measurements_numbered : (n mode : ℕ) (output : ℕ → Bool) (l : List ℕ) → IsNumbered (measurements_asks n mode output l)
unfolding measurements_asks
measurements_numbered n mode output l = asked 3 (eqb (length l) n) _ refl (last_asked 7 (all_allowed mode output 0 l) refl)

pub angles_numbered : (n : ℕ) (output : ℕ → Bool) (l : List ℕ) → IsNumbered (angles_asks n output l)
unfolding angles_asks each_asks
angles_numbered n output l = asked 3 (eqb (length l) (angle_bytes * n)) _ refl (last_asked 23 (angles_allowed n output l) refl)

pub each_numbered : (width n : ℕ) (l : List ℕ) → IsNumbered (each_asks width n l)
unfolding each_asks
each_numbered width n l = last_asked 3 (eqb (length l) (width * n)) refl

pub sets_numbered : (n : ℕ) (l : List ℕ) → IsNumbered (sets_asks n l)
unfolding sets_asks
sets_numbered n l =
    let es = listed (entries_of l) in
    asked 3 (is_some (entries_of l)) _ refl (asked 5 (all_entries (entry_below n) es) _ refl (last_asked 6 (entries_rise 0 es) refl))
