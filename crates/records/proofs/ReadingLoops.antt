-- For the questions of a payload: a loop over it, where what is asked of the whole is what is asked of the rest.
use mathlib.Core.Path.{◌≡◌, refl, sym, ap, ◌∙◌}
use mathlib.Core.Bool.{Bool, true, false, ◌&&◌, ◌||◌}
use mathlib.Core.List.{List, [], ◌∷◌, ◌++◌}
use Prim.Native.Nat.{ℕ, ◌+◌, ◌*◌, ◌/◌, ◌%◌, ◌<◌, ◌≤◌, zero-le}
use native.Mathlib.Nat.{div-add-mod, mul-mod_right, mul-div_cancel_left}
use native.Mathlib.Numerals.{add-one}
use native.Mathlib.Omega.{arith}
use native.Mathlib.Decide.{ℕ_discrete}
use mathlib.Core.Logic.{◌⊎◌, inl, inr}
use borrow.Author.Tests.{le-leb, lt-leb, lt-ltb, le-ltb, eq-eqb, ne_eqb}
use lib.Dec.{eqb, leb, ltb}
use lib.ListN.{length, get_or, drop, drop_of_length-le}
use lib.Seq.{drop-cons}
use Rattle.nodes.specs.NodeSet.{highest}
use Rattle.nodes.specs.Lists.{has, all}
use Rattle.nodes.proofs.Logic.{lt_or_ge}
use Rattle.records.specs.JobFile.{rises, pairs_rise}

pub rest_none : (l : List ℕ) (i : ℕ) → length l ≤ i → drop i l ≡ []
rest_none l i h = drop_of_length-le l h

pub rest_cons : (l : List ℕ) (i : ℕ) → i < length l → drop i l ≡ get_or l i 0 ∷ drop (i + 1) l
rest_cons l i h = rw add-one (drop-cons l i 0 h)

-- ---- a length of so many bytes for each node, by division
pub width_none : (len n : ℕ) → eqb len 0 ≡ eqb len (0 * n)
width_none len n = let e : 0 * n ≡ 0 = omega arith in rw e

module _ (len width n : ℕ) where
  pub width_not : (len % width ≡ 0 → ⊥) → false ≡ eqb len (width * n)
  width_not h = sym (ne_eqb len (width * n) (λ e. h (rw e (mul-mod_right width n))))

  pub width_divides : 0 < width → len % width ≡ 0 → eqb (len / width) n ≡ eqb len (width * n)
  width_divides w h = by (ℕ_discrete (len / width) n)
    where
      whole : width * (len / width) ≡ len
      whole = let e = div-add-mod len width in omega arith

      by : Dec (len / width ≡ n) → eqb (len / width) n ≡ eqb len (width * n)
      by (yes e) = eq-eqb (len / width) n e ∙ sym (eq-eqb len (width * n) (sym (ap (λ (k : ℕ). width * k) (sym e) ∙ whole)))
      by (no d) = ne_eqb (len / width) n d ∙ sym (ne_eqb len (width * n) (λ e. d (ap (λ (k : ℕ). k / width) e ∙ mul-div_cancel_left n w)))

-- ---- each byte
module _ (f : ℕ → Bool) (l : List ℕ) (i : ℕ) where
  pub all_end : length l ≤ i → all f (drop i l) ≡ true
  unfolding all
  all_end h = ap (all f) (rest_none l i h)

  pub all_next : i < length l → all f (drop i l) ≡ f (get_or l i 0) && all f (drop (i + 1) l)
  unfolding all
  all_next h = ap (all f) (rest_cons l i h)

-- where the greater of two is below n, the other is
pub covers : (a b n : ℕ) (x : Bool) → a ≤ b → ltb b n && (ltb a n && x) ≡ ltb b n && x
covers a b n x h = by (lt_or_ge b n)
  where
    by : (b < n) ⊎ (n ≤ b) → ltb b n && (ltb a n && x) ≡ ltb b n && x
    by (inl g) = rw (lt-ltb a n (omega arith))
    by (inr g) = rw (le-ltb b n g)

pub none_below : (l : List ℕ) → all (λ v. ltb v 0) l ≡ eqb (length l) 0
unfolding all
none_below [] = refl
none_below (x ∷ l) = rw (le-ltb x 0 zero-le, ne_eqb (length (x ∷ l)) 0 (λ e. omega arith))

pub rises_start : (l : List ℕ) → rises 0 l ≡ rises (get_or l 0 0 + 1) (drop 1 l)
unfolding rises
rises_start [] = refl
rises_start (x ∷ l) = rw (le-leb 0 x zero-le)

module _ (low : ℕ) (l : List ℕ) (i : ℕ) where
  pub rises_end : length l ≤ i → rises low (drop i l) ≡ true
  unfolding rises
  rises_end h = ap (rises low) (rest_none l i h)

  pub rises_no : i < length l → get_or l i 0 < low → rises low (drop i l) ≡ false
  unfolding rises
  rises_no h e = ap (rises low) (rest_cons l i h) ∙ rw (lt-leb low (get_or l i 0) e)

  pub rises_yes : i < length l → low ≤ get_or l i 0 → rises low (drop i l) ≡ rises (get_or l i 0 + 1) (drop (i + 1) l)
  unfolding rises
  rises_yes h e = ap (rises low) (rest_cons l i h) ∙ rw (le-leb low (get_or l i 0) e)

-- the number of a pair a, b with a < b is not 0
pub pairs_start : (l : List ℕ) → pairs_rise 0 l ≡ pairs_rise 1 l
unfolding pairs_rise
pairs_start [] = refl
pairs_start (a ∷ []) = refl
pairs_start (a ∷ b ∷ l) = by (lt_or_ge a b)
  where
    by : (a < b) ⊎ (b ≤ a) → pairs_rise 0 (a ∷ b ∷ l) ≡ pairs_rise 1 (a ∷ b ∷ l)
    by (inl h) = rw (le-leb 0 (256 * a + b) zero-le, le-leb 1 (256 * a + b) (omega arith))
    by (inr h) = rw (le-ltb a b h)

-- two at a time
pub pair_of : (e : List ℕ) → length e ≡ 2 → e ≡ get_or e 0 0 ∷ get_or e 1 0 ∷ []
pair_of [] h = absurd (omega arith)
pair_of (a ∷ []) h = absurd (omega arith)
pair_of (a ∷ b ∷ []) h = refl
pair_of (a ∷ b ∷ c ∷ e) h = absurd (omega arith)

pub pairs_end : (low : ℕ) (s : List ℕ) → length s < 2 → length s % 2 ≡ 0 → pairs_rise low s ≡ true
unfolding pairs_rise
pairs_end low [] h g = refl
pairs_end low (a ∷ []) h g = absurd (omega arith)
pairs_end low (a ∷ b ∷ s) h g = absurd (omega arith)

module _ (low : ℕ) (s e r : List ℕ) (q : s ≡ e ++ r) (two : length e ≡ 2) where
  opened : pairs_rise low s ≡ pairs_rise low (get_or e 0 0 ∷ get_or e 1 0 ∷ r)
  opened = ap (pairs_rise low) (q ∙ ap (λ (x : List ℕ). x ++ r) (pair_of e two))

  pub pairs_no : get_or e 1 0 ≤ get_or e 0 0 → pairs_rise low s ≡ false
  unfolding pairs_rise
  pairs_no h = opened ∙ rw (le-ltb (get_or e 0 0) (get_or e 1 0) h)

  module _ (h : get_or e 0 0 < get_or e 1 0) where
    pub pairs_low : 256 * get_or e 0 0 + get_or e 1 0 < low → pairs_rise low s ≡ false
    unfolding pairs_rise
    pairs_low g = opened ∙ rw (lt-ltb (get_or e 0 0) (get_or e 1 0) h, lt-leb low (256 * get_or e 0 0 + get_or e 1 0) g)

    pub pairs_yes : low ≤ 256 * get_or e 0 0 + get_or e 1 0 → pairs_rise low s ≡ pairs_rise (256 * get_or e 0 0 + get_or e 1 0 + 1) r
    unfolding pairs_rise
    pairs_yes g = opened ∙ rw (lt-ltb (get_or e 0 0) (get_or e 1 0) h, le-leb low (256 * get_or e 0 0 + get_or e 1 0) g)

-- the members of a list, below a bound: of those put in so far, and of the rest
abbrev pub lists : List ℕ → ℕ → Bool
lists l u = has l u && leb u highest

module _ (l : List ℕ) (i : ℕ) (u : ℕ) where
  pub lists_end : length l ≤ i → (m : Bool) → m || lists (drop i l) u ≡ m
  unfolding has
  lists_end h m = ap (λ (t : List ℕ). m || lists t u) (rest_none l i h) ∙ or_false m
    where
      or_false : (m : Bool) → m || false ≡ m
      or_false true = refl
      or_false false = refl

  pub lists_more : i < length l → (m : Bool) → m || lists (drop i l) u ≡ m || (eqb u (get_or l i 0) && leb (get_or l i 0) highest) || lists (drop (i + 1) l) u
  unfolding has
  lists_more h m = ap (λ (t : List ℕ). m || lists t u) (rest_cons l i h) ∙ by (ℕ_discrete u (get_or l i 0))
    where
      same : (m b c : Bool) → m || b ≡ m || b || (c && b)
      same true b c = refl
      same false true c = refl
      same false false true = refl
      same false false false = refl

      by : Dec (u ≡ get_or l i 0) → m || ((eqb (get_or l i 0) u || has (drop (i + 1) l) u) && leb u highest) ≡ m || (eqb u (get_or l i 0) && leb (get_or l i 0) highest) || lists (drop (i + 1) l) u
      by (yes e) = rw (← e, eq-eqb u u refl) (same m (leb u highest) (has (drop (i + 1) l) u))
      by (no n) = rw (ne_eqb u (get_or l i 0) n, ne_eqb (get_or l i 0) u (λ e. n (sym e))) (plain m)
        where
          plain : (m : Bool) → m || lists (drop (i + 1) l) u ≡ m || false || lists (drop (i + 1) l) u
          plain true = refl
          plain false = refl
