-- Lists of pairs as lists of numbers: a pair is one number, whichever end is first. A graph has one rising list of pairs.
use Prim.Native.Nat.{ℕ, suc, ◌+◌, ◌*◌, ◌/◌, ◌%◌, ◌≤◌, ◌<◌, min, max}
use mathlib.Core.Path.{◌≡◌, refl, sym, ap, ◌∙◌}
use mathlib.Core.Bool.{Bool, true, false, cond, not, ◌&&◌, ◌||◌}
use mathlib.Core.Logic.{◌⊎◌, inl, inr, ◌≢◌}
use mathlib.Core.List.{List, [], ◌∷◌}
use native.Mathlib.Omega.{arith}
use native.Mathlib.Decide.{ℕ_discrete}
use borrow.Author.Tests.{ltb-true, lt-ltb, eq-eqb, ne_eqb}
use lib.Dec.{T, eqb, ltb, ltb→lt, eqb→eq, eqb-suc-suc}
use lib.ListN.{length}
use Rattle.nodes.specs.Row.{count}
use Rattle.nodes.specs.Lists.{has, all}
use Rattle.nodes.proofs.Logic.{and_out, from_true, and_l, and_r, not_out, lt_or_ge, eqb_yes, beq_eq, and_none, and_all, and_turn, or_false}
use Rattle.records.specs.JobFile.{nodes_below, rises, pairs_rise, has_edge}
use Rattle.records.specs.JobLists.{once, edges_once}
use Rattle.records.proofs.Records.{all_more}
use Rattle.records.proofs.JobFile.{rises_none, rises_in, pairs_out, edge_sym, edge_out}
use Rattle.records.proofs.NodeLists.{rising_same, has-count, count_most, once-count}

pair_below : (n x y : ℕ) (l : List ℕ) → nodes_below n (x ∷ y ∷ l) ≡ true → (x < n) × (y < n) × (nodes_below n l ≡ true)
unfolding all
pair_below n x y l b =
    let (p, c) = and_out (ltb x n) (nodes_below n (y ∷ l)) b in
    let (q, d) = and_out (ltb y n) (nodes_below n l) c in
    (ltb-true x n p, ltb-true y n q, d)

-- ---- a pair as one number, whichever end is first
abbrev key : ℕ → ℕ → ℕ
key a b = 256 * min a b + max a b

-- those of a list of pairs, without its loops
unfoldable pub keys : List ℕ → List ℕ
keys [] = []
keys (a ∷ []) = []
keys (a ∷ b ∷ l) = cond (eqb a b) (keys l) (key a b ∷ keys l)

-- a number is the key of a, b, which is no loop, just where a, b joins the two parts of the number, the lesser first
key_is : (a b k : ℕ) → a < 256 → b < 256 → not (eqb a b) && eqb (key a b) k ≡ ltb (k / 256) (k % 256) && has_edge (a ∷ b ∷ []) (k / 256) (k % 256)
unfolding has_edge
key_is a b k g h =
    beq_eq (not (eqb a b) && eqb (key a b) k) (ltb (k / 256) (k % 256) && has_edge (a ∷ b ∷ []) (k / 256) (k % 256))
    (λ t. there (apart (and_l (not (eqb a b)) _ t)) (eqb→eq (key a b) k (and_r (not (eqb a b)) _ t)) (lt_or_ge a b))
    (λ t. back (ltb→lt (k / 256) (k % 256) (and_l (ltb (k / 256) (k % 256)) _ t)) (edge_out a b [] (k / 256) (k % 256) (and_r (ltb (k / 256) (k % 256)) _ t)))
  where
    apart : T (not (eqb a b)) → a ≢ b
    apart t e = not_out (eqb a b) t (from_true (eqb a b) (eq-eqb a b e))

    there : a ≢ b → key a b ≡ k → (a < b) ⊎ (b ≤ a) → T (ltb (k / 256) (k % 256) && has_edge (a ∷ b ∷ []) (k / 256) (k % 256))
    there d e (inl l) = let p : a ≡ k / 256 = omega arith in let q : b ≡ k % 256 = omega arith in rw (← p, ← q, lt-ltb a b l, eqb_yes a, eqb_yes b) tt
    there d e (inr l) = let p : a ≡ k % 256 = omega arith in let q : b ≡ k / 256 = omega arith in rw (← p, ← q, lt-ltb b a (omega arith), ne_eqb a b d, eqb_yes a, eqb_yes b) tt

    -- in either case the ends differ, and have the key
    so : a ≢ b → key a b ≡ k → T (not (eqb a b) && eqb (key a b) k)
    so d e = rw (ne_eqb a b d, eq-eqb (key a b) k e) tt

    back : k / 256 < k % 256 → ((a ≡ k / 256) × (b ≡ k % 256)) ⊎ (((a ≡ k % 256) × (b ≡ k / 256)) ⊎ T (has_edge [] (k / 256) (k % 256))) → T (not (eqb a b) && eqb (key a b) k)
    back l (inl (p, q)) = so (omega arith) (omega arith)
    back l (inr (inl (p, q))) = so (omega arith) (omega arith)
    back l (inr (inr t)) = absurd t

-- the keys of a list are those of its edges
pub keys-has : (l : List ℕ) (k : ℕ) → nodes_below 256 l ≡ true → has (keys l) k ≡ ltb (k / 256) (k % 256) && has_edge l (k / 256) (k % 256)
unfolding keys has all has_edge
keys-has [] k b = sym (and_none (ltb (k / 256) (k % 256)))
keys-has (x ∷ []) k b = sym (and_none (ltb (k / 256) (k % 256)))
keys-has (x ∷ y ∷ l) k b =
    let (g, h, c) = pair_below 256 x y l b in
    more (eqb x y) ∙ rw (key_is x y k g h, keys-has l k c) (both (ltb (k / 256) (k % 256)))
  where
    more : (c : Bool) → has (cond c (keys l) (key x y ∷ keys l)) k ≡ not c && eqb (key x y) k || has (keys l) k
    more true = refl
    more false = refl

    both : (c : Bool) → c && has_edge (x ∷ y ∷ []) (k / 256) (k % 256) || c && has_edge l (k / 256) (k % 256) ≡ c && has_edge (x ∷ y ∷ l) (k / 256) (k % 256)
    both true = rw (or_false (eqb x (k / 256) && eqb y (k % 256) || eqb x (k % 256) && eqb y (k / 256)))
    both false = refl

-- the key of two nodes is there where they are joined
key_edge : (l : List ℕ) (u v : ℕ) → nodes_below 256 l ≡ true → u < 256 → v < 256 → u ≢ v → has (keys l) (key u v) ≡ has_edge l u v
key_edge l u v b g h d = keys-has l (key u v) b ∙ by (lt_or_ge u v)
  where
    by : (u < v) ⊎ (v ≤ u) → ltb (key u v / 256) (key u v % 256) && has_edge l (key u v / 256) (key u v % 256) ≡ has_edge l u v
    by (inl c) = let p : key u v / 256 ≡ u = omega arith in let q : key u v % 256 ≡ v = omega arith in rw (p, q, lt-ltb u v c)
    by (inr c) = let p : key u v / 256 ≡ v = omega arith in let q : key u v % 256 ≡ u = omega arith in rw (p, q, lt-ltb v u (omega arith)) (edge_sym l v u)

keys_below : (l : List ℕ) → nodes_below 256 l ≡ true → nodes_below 65536 (keys l) ≡ true
unfolding keys all
keys_below [] b = refl
keys_below (x ∷ []) b = refl
keys_below (x ∷ y ∷ l) b = let (g, h, c) = pair_below 256 x y l b in by (eqb x y) g h (keys_below l c)
  where
    by : (c : Bool) → x < 256 → y < 256 → nodes_below 65536 (keys l) ≡ true → nodes_below 65536 (cond c (keys l) (key x y ∷ keys l)) ≡ true
    by true g h e = e
    by false g h e = rw (lt-ltb (key x y) 65536 (omega arith)) e

-- ---- no loop and no edge twice: as many keys as pairs, and none of them twice
keys_few : (l : List ℕ) → 2 * length (keys l) ≤ length l
unfolding keys
keys_few [] = omega arith
keys_few (x ∷ []) = omega arith
keys_few (x ∷ y ∷ l) = by (eqb x y) (keys_few l)
  where
    by : (c : Bool) → 2 * length (keys l) ≤ length l → 2 * length (cond c (keys l) (key x y ∷ keys l)) ≤ suc (suc (length l))
    by true h = omega arith
    by false h = omega arith

edges_keys : (l : List ℕ) → length l % 2 ≡ 0 → nodes_below 256 l ≡ true → edges_once l ≡ eqb (2 * length (keys l)) (length l) && once (keys l)
unfolding keys has all edges_once once
edges_keys [] w b = refl
edges_keys (x ∷ []) w b = absurd (omega arith)
edges_keys (x ∷ y ∷ l) w b = let (g, h, c) = pair_below 256 x y l b in by (ℕ_discrete x y) g h c (edges_keys l (omega arith) c)
  where
    two : eqb (2 * suc (length (keys l))) (suc (suc (length l))) ≡ eqb (2 * length (keys l)) (length l)
    two =
        let e : 2 * suc (length (keys l)) ≡ suc (suc (2 * length (keys l))) = omega arith in
        rw e (eqb-suc-suc (suc (2 * length (keys l))) (suc (length l)) ∙ eqb-suc-suc (2 * length (keys l)) (length l))

    by : Dec (x ≡ y) → x < 256 → y < 256 → nodes_below 256 l ≡ true → edges_once l ≡ eqb (2 * length (keys l)) (length l) && once (keys l)
        → not (eqb x y) && not (has_edge l x y) && edges_once l
        ≡ eqb (2 * length (cond (eqb x y) (keys l) (key x y ∷ keys l))) (suc (suc (length l))) && once (cond (eqb x y) (keys l) (key x y ∷ keys l))
    by (yes e) g h b ih = rw (eq-eqb x y e, ne_eqb (2 * length (keys l)) (suc (suc (length l))) (λ z. omega (arith, keys_few l)))
    by (no d) g h b ih = rw (ne_eqb x y d, key_edge l x y b g h d, two, ih) (and_turn (not (has_edge l x y)) (eqb (2 * length (keys l)) (length l)) (once (keys l)))

-- ---- pairs that rise: their keys rise, and are those of no other list
keys_up : (a b : ℕ) (l : List ℕ) → a < b → keys (a ∷ b ∷ l) ≡ (256 * a + b) ∷ keys l
unfolding keys
keys_up a b l h = let e : key a b ≡ 256 * a + b = omega arith in rw (ne_eqb a b (omega arith), e)

keys_rise : (low : ℕ) (l : List ℕ) → pairs_rise low l ≡ true → rises low (keys l) ≡ true
unfolding keys
keys_rise low [] r = rises_none low
keys_rise low (a ∷ []) r = rises_none low
keys_rise low (a ∷ b ∷ l) r = let (lt, le, q) = pairs_out low a b l r in rw (keys_up a b l lt) (rises_in low (256 * a + b) (keys l) le ∙ keys_rise (256 * a + b + 1) l q)

-- the pairs of keys
unfoldable pairs_of : List ℕ → List ℕ
pairs_of [] = []
pairs_of (k ∷ ks) = k / 256 ∷ k % 256 ∷ pairs_of ks

pairs_back : (low : ℕ) (l : List ℕ) → length l % 2 ≡ 0 → nodes_below 256 l ≡ true → pairs_rise low l ≡ true → pairs_of (keys l) ≡ l
unfolding keys pairs_of all
pairs_back low [] w b r = refl
pairs_back low (x ∷ []) w b r = absurd (omega arith)
pairs_back low (x ∷ y ∷ l) w b r =
    let (g, h, c) = pair_below 256 x y l b in
    let (lt, le, t) = pairs_out low x y l r in
    let e : (256 * x + y) / 256 ≡ x = omega arith in
    let f : (256 * x + y) % 256 ≡ y = omega arith in
    rw (keys_up x y l lt, e, f, pairs_back (256 * x + y + 1) l (omega arith) c t)

pairs_of-length : (ks : List ℕ) → length (pairs_of ks) ≡ 2 * length ks
unfolding pairs_of
pairs_of-length [] = refl
pairs_of-length (k ∷ ks) = omega (arith, pairs_of-length ks)

-- a list of whole pairs of nodes below n that rises
pub record IsRisingPairs (n : ℕ) (l : List ℕ) : Type 0 where
  pub whole : length l % 2 ≡ 0
  pub below : nodes_below n l ≡ true
  pub rise : pairs_rise 0 l ≡ true

-- nodes have numbers of one byte
module _ (n : ℕ) (small : n ≤ 256) where
  pub bytes : (l : List ℕ) → nodes_below n l ≡ true → nodes_below 256 l ≡ true
  bytes l b = all_more (λ v. ltb v n) (λ v. ltb v 256) l (λ v t. let h = ltb-true v n t in lt-ltb v 256 (omega arith)) b

  rising_back : (l : List ℕ) → IsRisingPairs n l → pairs_of (keys l) ≡ l
  rising_back l p = pairs_back 0 l p.whole (bytes l p.below) p.rise

  -- two such lists with the same edges are the same
  pub pairs_same : (l m : List ℕ) → IsRisingPairs n l → IsRisingPairs n m → ((u v : ℕ) → has_edge l u v ≡ has_edge m u v) → l ≡ m
  pairs_same l m p q h =
      sym (rising_back l p) ∙ ap pairs_of (rising_same 0 0 (keys l) (keys m) (keys_rise 0 l p.rise) (keys_rise 0 m q.rise) same) ∙ rising_back m q
    where
      same : (k : ℕ) → has (keys l) k ≡ has (keys m) k
      same k = keys-has l k (bytes l p.below) ∙ ap (λ (e : Bool). ltb (k / 256) (k % 256) && e) (h (k / 256) (k % 256)) ∙ sym (keys-has m k (bytes m q.below))

  -- such a list has two elements for each key
  pub rising_count : (l : List ℕ) → IsRisingPairs n l → length l ≡ 2 * count 65536 (has (keys l))
  rising_count l p =
      ap length (sym (rising_back l p)) ∙ pairs_of-length (keys l)
      ∙ ap (λ (k : ℕ). 2 * k) (sym (has-count 65536 0 (keys l) (keys_below l (bytes l p.below)) (keys_rise 0 l p.rise)))

  -- and so has a list in any order, just where it has no loop and no edge twice
  pub once-keys : (l : List ℕ) → length l % 2 ≡ 0 → nodes_below n l ≡ true → edges_once l ≡ eqb (2 * count 65536 (has (keys l))) (length l)
  once-keys l w b =
      edges_keys l w (bytes l b) ∙ ap (λ (c : Bool). eqb (2 * length (keys l)) (length l) && c) (sym (once-count 65536 (keys l) below))
      ∙ sym (squeeze (count 65536 (has (keys l))) (length (keys l)) (length l) (count_most 65536 (keys l) below) (keys_few l))
    where
      below : nodes_below 65536 (keys l) ≡ true
      below = keys_below l (bytes l b)

      squeeze : (c m k : ℕ) → c ≤ m → 2 * m ≤ k → eqb (2 * c) k ≡ eqb (2 * m) k && eqb c m
      squeeze c m k g h = by (ℕ_discrete c m)
        where
          by : Dec (c ≡ m) → eqb (2 * c) k ≡ eqb (2 * m) k && eqb c m
          by (yes e) = rw (e, eqb_yes m) (sym (and_all (eqb (2 * m) k)))
          by (no d) = rw (ne_eqb c m d, ne_eqb (2 * c) k (omega arith)) (sym (and_none (eqb (2 * m) k)))
