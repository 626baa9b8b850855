-- Of specs/JobText: what one word, one line and one text more do.
use Prim.Native.Nat.{ℕ, suc, ◌+◌, ◌*◌, ◌≤◌, ◌<◌}
use mathlib.Core.Path.{◌≡◌, refl, sym, ap, ◌∙◌}
use mathlib.Core.Bool.{Bool, true, false, false≢true}
use mathlib.Core.List.{List, [], ◌∷◌}
use native.Mathlib.Nat.{not-suc-le-zero}
use native.Mathlib.Omega.{arith}
use borrow.Author.Tests.{le-leb, lt-leb, lt-ltb, le-ltb}
use lib.ListN.{length}
use Rattle.std.specs.Prelude.{Option, Some, None, Result, Ok, Err}
use Rattle.texts.specs.Words.{word_of, name_count, Number, Edge}
use Rattle.texts.specs.Views.{place_of, bytes_of, last_place, is_named, kind_of, told, IsMore}
use Rattle.texts.specs.declared.names.Name.{Name}
use Rattle.texts.specs.declared.faults.Fault.{Fault}
use Rattle.texts.specs.JobText.{number_bytes, most_numbers, Reading, read, fault, numbers, faulty, out_of_order, wrong_shape, in_order, in_shape, added, said, after_word, after_words, after_line, unless_fault, after_lines}

-- ---- numbers added
module _ (room name : ℕ) (ns : List ℕ) (edge : Bool) (more : List ℕ) where
  pub add_order : in_order name (length ns) ≡ false → fault out_of_order ≡ added room name ns edge more
  add_order o = sym (rw o refl)

  pub add_shape : in_order name (length ns) ≡ true → in_shape name edge ≡ false → fault wrong_shape ≡ added room name ns edge more
  add_shape o s = sym (rw (o, s) refl)

-- before the first name there are no numbers, and none can be added
pub unnamed : (last : Option Name) (ps : List (Name × ℕ)) → is_named last ps ≡ true → last ≡ None
    → (room : ℕ) (edge : Bool) (more : List ℕ) → fault out_of_order ≡ added room (last_place last) (bytes_of ps) edge more
unfolding bytes_of
unnamed last ps n e room edge more = rw e (by ps (rw e at n))
  where
    by : (ps : List (Name × ℕ)) → is_named None ps ≡ true → fault out_of_order ≡ added room name_count (bytes_of ps) edge more
    by [] n = refl
    by (p ∷ ps) n = absurd (false≢true n)

-- what adding tells, where name and shape are right
pub added_told : (name : ℕ) (ns : List ℕ) (edge : Bool) (more after : List ℕ) (r : Result Unit Fault) → IsMore r ns more after
    → in_order name (length ns) ≡ true → in_shape name edge ≡ true → told r (read name after) ≡ added (number_bytes * most_numbers) name ns edge more
added_told name ns edge more after (Ok u) (few, e) o s =
    ap (read name) e ∙ sym (rw (o, s, le-leb (length ns + length more) (number_bytes * most_numbers) few) refl)
added_told name ns edge more after (Err f) (e, many) o s =
    ap (λ (f : Fault). fault (kind_of f)) e ∙ sym (rw (o, s, lt-leb (length ns + length more) (number_bytes * most_numbers) many) refl)

module _ (last : Option Name) (name : Name) (e : last ≡ Some name) (ns after : List ℕ) (r : Result Unit Fault) (o : in_order (place_of name) (length ns) ≡ true) where
  pub one_told : (x : ℕ) → IsMore r ns (place_of name ∷ x ∷ []) after → in_shape (place_of name) false ≡ true
      → told r (read (last_place last) after) ≡ said (number_bytes * most_numbers) (last_place last) ns (Number x)
  one_told x m s = rw e (added_told (place_of name) ns false (place_of name ∷ x ∷ []) after r m o s)

  pub two_told : (a b : ℕ) → IsMore r ns (place_of name ∷ a ∷ place_of name ∷ b ∷ []) after → in_shape (place_of name) true ≡ true
      → told r (read (last_place last) after) ≡ said (number_bytes * most_numbers) (last_place last) ns (Edge a b)
  two_told a b m s = rw e (added_told (place_of name) ns true (place_of name ∷ a ∷ place_of name ∷ b ∷ []) after r m o s)

-- ---- words
module _ (room name : ℕ) (ns w : List ℕ) where
  pub no_word : length w ≡ 0 → read name ns ≡ after_word room (read name ns) w
  no_word h = by w h
    where
      by : (w : List ℕ) → length w ≡ 0 → read name ns ≡ after_word room (read name ns) w
      by [] h = refl
      by (c ∷ w) h = absurd (some (length w) h)
        where
          some : (n : ℕ) → suc n ≡ 0 → ⊥
          some n h = omega arith

  pub some_word : 0 < length w → said room name ns (word_of w) ≡ after_word room (read name ns) w
  some_word h = by w h
    where
      by : (w : List ℕ) → 0 < length w → said room name ns (word_of w) ≡ after_word room (read name ns) w
      by [] h = absurd (not-suc-le-zero h)
      by (c ∷ w) h = refl

-- a fault stays
pub fault_stays : (room k : ℕ) (ws : List (List ℕ)) → after_words room (fault k) ws ≡ fault k
unfolding after_words
fault_stays room k [] = refl
fault_stays room k (w ∷ ws) = fault_stays room k ws

module _ (room : ℕ) (r : Reading) (w : List ℕ) (l m : List (List ℕ)) (e : l ≡ w ∷ m) where
  pub words_next : (next : Reading) → next ≡ after_word room r w → after_words room next m ≡ after_words room r l
  unfolding after_words
  words_next next f = ap (λ (x : Reading). after_words room x m) f ∙ sym (ap (after_words room r) e)

  pub words-fault : (k : ℕ) → fault k ≡ after_word room r w → fault k ≡ after_words room r l
  words-fault k f = sym (fault_stays room k m) ∙ words_next (fault k) f

pub words_end : (room : ℕ) (r : Reading) (l : List (List ℕ)) → l ≡ [] → r ≡ after_words room r l
unfolding after_words
words_end room r l e = sym (ap (after_words room r) e)

-- ---- lines
module _ (room before : ℕ) (r : Reading) (w : List ℕ) (l m : List (List ℕ)) (e : l ≡ w ∷ m) where
  pub lines_next : (name : ℕ) (ns : List ℕ) → read name ns ≡ after_line room r w → after_lines room (before + 1) (read name ns) m ≡ after_lines room before r l
  unfolding after_lines
  lines_next name ns f =
      ap (λ (k : ℕ). after_lines room k (read name ns) m) (next before)
      ∙ ap (λ (x : Reading). unless_fault before x (λ n. after_lines room (suc before) n m)) f
      ∙ sym (ap (after_lines room before r) e)
    where
      next : (n : ℕ) → n + 1 ≡ suc n
      next n = omega arith

  pub lines-fault : (k : ℕ) → fault k ≡ after_line room r w → faulty before k ≡ after_lines room before r l
  unfolding after_lines
  lines-fault k f = ap (λ (x : Reading). unless_fault before x (λ n. after_lines room (suc before) n m)) f ∙ sym (ap (after_lines room before r) e)

module _ (room before name : ℕ) (ns : List ℕ) (l : List (List ℕ)) (e : l ≡ []) where
  pub lines_short : length ns < 4 → faulty before out_of_order ≡ after_lines room before (read name ns) l
  unfolding after_lines
  lines_short h = sym (ap (after_lines room before (read name ns)) e ∙ rw (lt-ltb (length ns) 4 h) refl)

  pub lines_end : 4 ≤ length ns → numbers ns ≡ after_lines room before (read name ns) l
  unfolding after_lines
  lines_end h = sym (ap (after_lines room before (read name ns)) e ∙ rw (le-ltb (length ns) 4 h) refl)
