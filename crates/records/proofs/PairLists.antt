-- The pairs among nodes, as a graph joins them: they rise, they join what the graph joins, and how many they are.
use Prim.Native.Nat.{ℕ, suc, ◌+◌, ◌*◌, ◌/◌, ◌%◌, ◌≤◌, ◌<◌}
use mathlib.Core.Path.{◌≡◌, refl, sym, ap, ◌∙◌}
use mathlib.Core.Bool.{Bool, true, false, cond, not, ◌&&◌, ◌||◌}
use mathlib.Core.Logic.{◌⊎◌, inl, inr}
use mathlib.Core.List.{List, [], ◌∷◌, ◌++◌}
use native.Mathlib.Omega.{arith}
use native.Mathlib.Decide.{ℕ_discrete}
use borrow.Author.Tests.{ltb-true, eqb-true, lt-ltb, le-ltb, le-leb, ne_eqb, not-true}
use lib.Dec.{eqb, ltb}
use lib.ListN.{length, length-append}
use Rattle.nodes.specs.Row.{members}
use Rattle.nodes.specs.Lists.{has, all}
use Rattle.nodes.proofs.Logic.{and_out, is_false, from_true, and_l, lt_or_ge, eqb_yes, eqb_comm, and_none, and_all, or_false, or_all}
use Rattle.nodes.proofs.Count.{count_ext}
use Rattle.records.specs.JobFile.{whole_pairs, nodes_below, rises, pairs_rise, has_edge}
use Rattle.records.specs.JobLists.{edges_once, keep, pairs_with, pairs_among}
use Rattle.records.proofs.Records.{all-append}
use Rattle.records.proofs.JobFile.{rises_none, rises_out, rises_in, all-has, edge_sym, edge_below, no_loop}
use Rattle.records.proofs.NodeLists.{has-all, rises_least}
use Rattle.records.proofs.Writing.{members-has, members_under, members_rise}
use Rattle.records.proofs.PairKeys.{keys, keys-has, IsRisingPairs, bytes, pairs_same, rising_count, once-keys}

-- ---- those of a list that are in s
keep-has : (s : ℕ → Bool) (l : List ℕ) (v : ℕ) → has (keep s l) v ≡ has l v && s v
unfolding has keep
keep-has s [] v = refl
keep-has s (u ∷ l) v = by (s u) refl (ℕ_discrete u v) (keep-has s l v)
  where
    by : (c : Bool) → s u ≡ c → Dec (u ≡ v) → has (keep s l) v ≡ has l v && s v → has (cond c (u ∷ keep s l) (keep s l)) v ≡ (eqb u v || has l v) && s v
    by true e (yes p) ih = rw (← p, eqb_yes u, e)
    by false e (yes p) ih = ih ∙ rw (← p, eqb_yes u, e) (and_none (has l u))
    by true e (no d) ih = rw (ne_eqb u v d) ih
    by false e (no d) ih = rw (ne_eqb u v d) ih

keep-all : (f s : ℕ → Bool) (l : List ℕ) → all f l ≡ true → all f (keep s l) ≡ true
keep-all f s l a = has-all f (keep s l) (λ u t. all-has f l u a (and_l (has l u) (s u) (rw (keep-has s l u) at t)))

keep_rise : (low from : ℕ) (s : ℕ → Bool) (l : List ℕ) → low ≤ from → rises from l ≡ true → rises low (keep s l) ≡ true
unfolding keep
keep_rise low from s [] h r = rises_none low
keep_rise low from s (u ∷ l) h r =
    let (p, q) = rises_out from u l r in
    by (s u) (omega arith) (keep_rise (u + 1) (u + 1) s l (omega arith) q) (keep_rise low (u + 1) s l (omega arith) q)
  where
    by : (c : Bool) → low ≤ u → rises (u + 1) (keep s l) ≡ true → rises low (keep s l) ≡ true → rises low (cond c (u ∷ keep s l) (keep s l)) ≡ true
    by true p a b = rises_in low u (keep s l) p ∙ a
    by false p a b = b

keep-length : (s : ℕ → Bool) (l : List ℕ) → length (keep s l) ≤ length l
unfolding keep
keep-length s [] = omega arith
keep-length s (u ∷ l) = by (s u) (keep-length s l)
  where
    by : (c : Bool) → length (keep s l) ≤ length l → length (cond c (u ∷ keep s l) (keep s l)) ≤ suc (length l)
    by true h = omega arith
    by false h = omega arith

-- ---- a with each of a list
pub with-length : (a : ℕ) (l : List ℕ) → length (pairs_with a l) ≡ 2 * length l
unfolding pairs_with
with-length a [] = refl
with-length a (b ∷ l) = omega (arith, with-length a l)

with-all : (f : ℕ → Bool) (a : ℕ) (l : List ℕ) → f a ≡ true → all f l ≡ true → all f (pairs_with a l) ≡ true
unfolding all pairs_with
with-all f a [] h e = refl
with-all f a (b ∷ l) h e = let (p, q) = and_out (f b) (all f l) e in rw (h, p) (with-all f a l h q)

with_edge : (a : ℕ) (l r : List ℕ) (u v : ℕ) → has_edge (pairs_with a l ++ r) u v ≡ (eqb a u && has l v || eqb a v && has l u) || has_edge r u v
unfolding has has_edge pairs_with
with_edge a [] r u v = rw (and_none (eqb a u), and_none (eqb a v))
with_edge a (b ∷ l) r u v = rw (with_edge a l r u v) (sort (eqb a u) (eqb a v) (eqb b v) (eqb b u))
  where
    sort : (x y p q : Bool) → (x && p || y && q) || ((x && has l v || y && has l u) || has_edge r u v) ≡ (x && (p || has l v) || y && (q || has l u)) || has_edge r u v
    sort true y true q = refl
    sort true true false true = rw (or_all (has l v))
    sort true true false false = refl
    sort true false false q = refl
    sort false true p true = refl
    sort false true p false = refl
    sort false false p q = refl

-- they rise where the list does, and are before what follows
with_rise : (low from a : ℕ) (l r : List ℕ) → a < from → low ≤ 256 * a + from → low ≤ 256 * (a + 1) → nodes_below 256 l ≡ true → rises from l ≡ true
    → ((k : ℕ) → k ≤ 256 * (a + 1) → pairs_rise k r ≡ true) → pairs_rise low (pairs_with a l ++ r) ≡ true
unfolding all pairs_rise pairs_with
with_rise low from a [] r x y z b e more = more low z
with_rise low from a (v ∷ l) r x y z b e more =
    let (p, q) = and_out (ltb v 256) (nodes_below 256 l) b in
    let (le, t) = rises_out from v l e in
    let h : v < 256 = ltb-true v 256 p in
    rw (lt-ltb a v (omega arith), le-leb low (256 * a + v) (omega arith)) (with_rise (256 * a + v + 1) (v + 1) a l r (omega arith) (omega arith) (omega arith) q t more)

-- ---- the pairs among nodes
module _ (e : ℕ → ℕ → Bool) where
  among_whole : (us : List ℕ) → length (pairs_among e us) % 2 ≡ 0
  unfolding pairs_among
  among_whole [] = refl
  among_whole (a ∷ l) = omega (arith, length-append (pairs_with a (keep (e a) l)) (pairs_among e l), with-length a (keep (e a) l), among_whole l)

  pub among-length : (us : List ℕ) → length (pairs_among e us) + length us ≤ length us * length us
  unfolding pairs_among
  among-length [] = omega arith
  among-length (a ∷ l) = omega (arith, length-append (pairs_with a (keep (e a) l)) (pairs_among e l), with-length a (keep (e a) l), keep-length (e a) l, among-length l)

  among-all : (f : ℕ → Bool) (us : List ℕ) → all f us ≡ true → all f (pairs_among e us) ≡ true
  unfolding all pairs_among
  among-all f [] h = refl
  among-all f (a ∷ l) h =
      let (p, q) = and_out (f a) (all f l) h in
      all-append f (pairs_with a (keep (e a) l)) (pairs_among e l) (with-all f a (keep (e a) l) p (keep-all f (e a) l q)) (among-all f l q)

  among_rise : (low from : ℕ) (us : List ℕ) → low ≤ 256 * from → nodes_below 256 us ≡ true → rises from us ≡ true → pairs_rise low (pairs_among e us) ≡ true
  unfolding all pairs_rise pairs_among
  among_rise low from [] h b r = refl
  among_rise low from (a ∷ l) h b r =
      let (p, q) = and_out (ltb a 256) (nodes_below 256 l) b in
      let (le, t) = rises_out from a l r in
      with_rise low (a + 1) a (keep (e a) l) (pairs_among e l) (omega arith) (omega arith) (omega arith)
      (keep-all (λ v. ltb v 256) (e a) l q) (keep_rise (a + 1) (a + 1) (e a) l (omega arith) t) (λ k g. among_rise k (a + 1) l g q t)

  -- nodes of the list are joined as e joins them, and none to itself
  among_edge : ((u v : ℕ) → e u v ≡ e v u) → (low : ℕ) (us : List ℕ) → rises low us ≡ true → (u v : ℕ)
      → has_edge (pairs_among e us) u v ≡ not (eqb u v) && (has us u && (has us v && e u v))
  unfolding has has_edge pairs_among
  among_edge s low [] r u v = sym (and_none (not (eqb u v)))
  among_edge s low (a ∷ l) r u v =
      with_edge a (keep (e a) l) (pairs_among e l) u v
      ∙ rw (keep-has (e a) l v, keep-has (e a) l u, among_edge s (a + 1) l (rises_out low a l r).1 u v) (by (ℕ_discrete a u) (ℕ_discrete a v))
    where
      fresh : has l a ≡ false
      fresh = is_false (has l a) (λ t. let h = rises_least (a + 1) l a (rises_out low a l r).1 t in omega arith)

      by : Dec (a ≡ u) → Dec (a ≡ v) → (eqb a u && (has l v && e a v) || eqb a v && (has l u && e a u)) || not (eqb u v) && (has l u && (has l v && e u v))
          ≡ not (eqb u v) && ((eqb a u || has l u) && ((eqb a v || has l v) && e u v))
      by (yes p) (yes q) = rw (← p, ← q, eqb_yes a, fresh)
      by (yes p) (no d) = rw (← p, eqb_yes a, ne_eqb a v d, fresh) (or_false (has l v && e a v || false) ∙ or_false (has l v && e a v))
      by (no c) (yes q) = rw (← q, eqb_yes a, ne_eqb a u c, ne_eqb u a (λ z. c (sym z)), fresh, s u a, and_none (has l u)) (or_false (has l u && e a u))
      by (no c) (no d) = rw (ne_eqb a u c, ne_eqb a v d)

-- ---- the pairs among all nodes below n
module _ (n : ℕ) (small : n ≤ 256) where
  abbrev nodes : List ℕ
  nodes = members n (λ u. true)

  pub graph_rises : (e : ℕ → ℕ → Bool) → IsRisingPairs n (pairs_among e nodes)
  graph_rises e = record {
    whole = among_whole e nodes;
    below = among-all e (λ v. ltb v n) nodes (members_under n (λ u. true));
    rise = among_rise e 0 0 nodes (omega arith) (bytes n small nodes (members_under n (λ u. true))) (members_rise n (λ u. true));
  }

  module _ (l : List ℕ) (b : nodes_below n l ≡ true) where
    abbrev graph : List ℕ
    graph = pairs_among (has_edge l) nodes

    -- the edges of l, without its loops
    graph_edge : (u v : ℕ) → has_edge graph u v ≡ not (eqb u v) && has_edge l u v
    graph_edge u v =
        among_edge (has_edge l) (edge_sym l) 0 nodes (members_rise n (λ u. true)) u v
        ∙ rw (members-has n (λ u. true) u, members-has n (λ u. true) v, and_all (ltb u n), and_all (ltb v n))
        (ap (λ (c : Bool). not (eqb u v) && c) (by (has_edge l u v) refl))
      where
        by : (c : Bool) → has_edge l u v ≡ c → ltb u n && (ltb v n && c) ≡ c
        by true e = let (g, h) = edge_below n l u v b (from_true (has_edge l u v) e) in rw (lt-ltb u n g, lt-ltb v n h)
        by false e = rw (and_none (ltb v n)) (and_none (ltb u n))

    -- all of them, where l has no loop
    pub graph_same : ((u : ℕ) → has_edge l u u ≡ false) → (u v : ℕ) → has_edge graph u v ≡ has_edge l u v
    graph_same z u v = graph_edge u v ∙ by (ℕ_discrete u v)
      where
        by : Dec (u ≡ v) → not (eqb u v) && has_edge l u v ≡ has_edge l u v
        by (yes p) = rw (p, z v) (and_none (not (eqb v v)))
        by (no d) = rw (ne_eqb u v d)

    -- the keys of l, since a loop has none
    graph-keys : (k : ℕ) → has (keys graph) k ≡ has (keys l) k
    graph-keys k =
        keys-has graph k (bytes n small graph (graph_rises (has_edge l)).below)
        ∙ rw (graph_edge (k / 256) (k % 256)) (by (k / 256) (k % 256) (lt_or_ge (k / 256) (k % 256)))
        ∙ sym (keys-has l k (bytes n small l b))
      where
        by : (u v : ℕ) → (u < v) ⊎ (v ≤ u) → ltb u v && (not (eqb u v) && has_edge l u v) ≡ ltb u v && has_edge l u v
        by u v (inl h) = rw (ne_eqb u v (omega arith))
        by u v (inr h) = rw (le-ltb u v h)

    -- as many pairs as l has just where l has no loop and no edge twice
    graph_count : length l % 2 ≡ 0 → eqb (length graph) (length l) ≡ edges_once l
    graph_count w =
        ap (λ (k : ℕ). eqb k (length l))
        (rising_count n small graph (graph_rises (has_edge l)) ∙ ap (λ (k : ℕ). 2 * k) (count_ext 65536 (has (keys graph)) (has (keys l)) (λ k h. graph-keys k)))
        ∙ sym (once-keys n small l w b)

  -- a list that rises is that of its edges
  pub graph_list : (l : List ℕ) → IsRisingPairs n l → pairs_among (has_edge l) nodes ≡ l
  graph_list l p = pairs_same n small (graph l p.below) l (graph_rises (has_edge l)) p (graph_same l p.below (λ u. no_loop 0 l u p.rise))

pub edges_count : (n : ℕ) (l : List ℕ) → n ≤ 256 → whole_pairs l ≡ true → nodes_below n l ≡ true
    → eqb (length (pairs_among (has_edge l) (members n (λ u. true)))) (length l) ≡ edges_once l
edges_count n l small w b = graph_count n small l b (eqb-true (length l % 2) 0 w)

-- a list with no loop and no edge twice joins no node to itself
pub once_loop : (l : List ℕ) → edges_once l ≡ true → (u : ℕ) → has_edge l u u ≡ false
unfolding has_edge edges_once
once_loop [] e u = refl
once_loop (a ∷ []) e u = refl
once_loop (a ∷ b ∷ l) e u =
    let (p, q) = and_out (not (eqb a b) && not (has_edge l a b)) (edges_once l) e in
    let d : eqb a b ≡ false = not-true (eqb a b) (and_out (not (eqb a b)) (not (has_edge l a b)) p).0 in
    rw (once_loop l q u) (by d (ℕ_discrete a u))
  where
    by : eqb a b ≡ false → Dec (a ≡ u) → (eqb a u && eqb b u || eqb a u && eqb b u) || false ≡ false
    by d (yes p) = rw (← p, eqb_comm b a, d, eqb_yes a)
    by d (no c) = rw (ne_eqb a u c)
