-- What the steps of the elimination do to the matrix that the bytes hold.
use mathlib.Core.Path.{◌≡◌, refl, sym, ap, ◌∙◌}
use mathlib.Core.Bool.{Bool, true, false, cond, not, ◌&&◌}
use mathlib.Core.List.{List}
use Prim.Native.Nat.{ℕ, zero, suc, ◌+◌, ◌-◌, ◌*◌, ◌<◌, ◌≤◌}
use native.Mathlib.Nat.{le_refl}
use native.Mathlib.Numerals.{add-one}
use native.Mathlib.Decide.{ℕ_discrete, dec_lt}
use native.Mathlib.Omega.{arith}
use lib.Dec.{eqb, ltb}
use lib.ListN.{length}
use Rattle.nodes.specs.Bit.{◌⊕◌}
use Rattle.nodes.specs.Row.{lowest_from}
use Rattle.nodes.proofs.Logic.{eqb_no, eqb_yes, and_none, ⊕_none}
use Rattle.nodes.proofs.Row.{ltb_yes, ltb_no}
use Rattle.nodes.proofs.Members.{from_ge, from_none, from_here}
use Rattle.solver.specs.WorkMatrix.{entry_of}
use Rattle.solver.specs.Steps.{turns, xor_row, add_pivot_row, clear_one, clear_column, State, pivot_to, eliminate_column, eliminate_columns}
use Rattle.solver.proofs.Bytes.{rows_apart, length_xor, entry_xor}
use Rattle.solver.proofs.Elimination.{Same, same_refl, same_trans, IsPartly, partly_start, partly_skip, pivot_same, partly_pivot, add_row, pivot_row_same, pivot_row_keeps, pivot_row_one}

-- a row is there
row_fits : (w i n : ℕ) (l : List ℕ) → n * w ≤ length l → i < n → i * w + w ≤ length l
row_fits w i n l h g = let a : i * w + w ≤ n * w = rows_apart w i n g in omega arith

-- ---- one row cleared
module _ (w n p col : ℕ) (inside : col < 8 * w) (hp : p < n) where
  length_one : (r : ℕ) (l : List ℕ) → length (clear_one w p col r l) ≡ length l
  unfolding clear_one
  length_one r l = by (eqb r p) (entry_of w l r col)
    where
      by : (a b : Bool) → length (cond a l (cond b (xor_row w l r p) l)) ≡ length l
      by true b = refl
      by false true = length_xor w l r p
      by false false = refl

  entry_one : (r : ℕ) (l : List ℕ) → n * w ≤ length l → r < n → (v k : ℕ) → k < 8 * w
      → entry_of w (clear_one w p col r l) v k ≡ entry_of w l v k ⊕ (eqb v r && (not (eqb r p) && entry_of w l r col)) && entry_of w l p k
  unfolding clear_one
  entry_one r l h hr v k g = by (ℕ_discrete r p) (ℕ_discrete v r) (entry_of w l r col)
    where
      by : Dec (r ≡ p) → Dec (v ≡ r) → (b : Bool)
          → entry_of w (cond (eqb r p) l (cond b (xor_row w l r p) l)) v k ≡ entry_of w l v k ⊕ (eqb v r && (not (eqb r p) && b)) && entry_of w l p k
      by (yes e) d b = rw (e, eqb_yes p, and_none (eqb v p)) (sym (⊕_none (entry_of w l v k)))
      by (no e) (yes d) true =
          rw (eqb_no r p e, d, eqb_yes r)
          (entry_xor w l r p (row_fits w r n l h hr) (row_fits w p n l h hp) e r k g ∙ rw (eqb_yes r))
      by (no e) (no d) true =
          rw (eqb_no r p e, eqb_no v r d)
          (entry_xor w l r p (row_fits w r n l h hr) (row_fits w p n l h hp) e v k g ∙ rw (eqb_no v r d) (sym (⊕_none (entry_of w l v k))))
      by (no e) d false = rw (eqb_no r p e, and_none (eqb v r)) (sym (⊕_none (entry_of w l v k)))

  -- ---- the rows below t cleared
  module _ (l : List ℕ) (h : n * w ≤ length l) where
    after : ℕ → List ℕ
    after t = turns (clear_one w p col) t l

    length-after : (t : ℕ) → length (after t) ≡ length l
    unfolding after turns
    length-after zero = refl
    length-after (suc t) = length_one t (after t) ∙ length-after t

    want : ℕ → ℕ → ℕ → Bool
    want t v k = entry_of w l v k ⊕ (ltb v t && (not (eqb v p) && entry_of w l v col)) && entry_of w l p k

    entry_after : (t : ℕ) → t ≤ n → (v k : ℕ) → k < 8 * w → entry_of w (after t) v k ≡ want t v k
    unfolding after turns want
    entry_after zero ht v k g = rw (ltb_no v 0 (omega arith)) (sym (⊕_none (entry_of w l v k)))
    entry_after (suc t) ht v k g =
        entry_one t (after t) (omega (arith, length-after t)) ht v k g
        ∙ step (λ v k g. entry_after t (omega arith) v k g) (ℕ_discrete v t)
      where
        at_pivot : ((v k : ℕ) → k < 8 * w → entry_of w (after t) v k ≡ want t v k) → entry_of w (after t) p k ≡ entry_of w l p k
        at_pivot ih = ih p k g ∙ rw (eqb_yes p, and_none (ltb p t)) (⊕_none (entry_of w l p k))

        still : ((v k : ℕ) → k < 8 * w → entry_of w (after t) v k ≡ want t v k) → (k : ℕ) → k < 8 * w → entry_of w (after t) t k ≡ entry_of w l t k
        still ih k g = ih t k g ∙ rw (ltb_no t t (le_refl t)) (⊕_none (entry_of w l t k))

        step : ((v k : ℕ) → k < 8 * w → entry_of w (after t) v k ≡ want t v k) → Dec (v ≡ t)
            → entry_of w (after t) v k ⊕ (eqb v t && (not (eqb t p) && entry_of w (after t) t col)) && entry_of w (after t) p k ≡ want (suc t) v k
        step ih (yes e) = rw (e, eqb_yes t, still ih k g, still ih col inside, at_pivot ih, ltb_yes t (suc t) (le_refl (suc t)))
        step ih (no d) = rw (eqb_no v t d) (⊕_none (entry_of w (after t) v k) ∙ ih v k g ∙ ap (λ (b : Bool). entry_of w l v k ⊕ (b && (not (eqb v p) && entry_of w l v col)) && entry_of w l p k) (same (dec_lt v t)))
          where
            same : Dec (v < t) → ltb v t ≡ ltb v (suc t)
            same (yes a) = ltb_yes v t a ∙ sym (ltb_yes v (suc t) (omega arith))
            same (no a) = ltb_no v t (omega arith) ∙ sym (ltb_no v (suc t) (omega (arith, d)))

    pub length_clear : length (clear_column w l n p col) ≡ length l
    unfolding clear_column after
    length_clear = length-after n

    -- all rows but the pivot's that have the column
    pub entry_clear : (v k : ℕ) → v < n → k < 8 * w → entry_of w (clear_column w l n p col) v k ≡ entry_of w l v k ⊕ (not (eqb v p) && entry_of w l v col) && entry_of w l p k
    unfolding clear_column after want
    entry_clear v k hv g = entry_after n (le_refl n) v k g ∙ rw (ltb_yes v n hv)

-- ---- one column
-- what a state is to hold after c columns of a matrix that began as m: as many bytes, the same common zeros, and the
-- columns before c done
pub record IsGood (w n c : ℕ) (l : List ℕ) (s : State) : Type 0 where
  pub size : length s.rows ≡ length l
  pub same : Same n (8 * w) (entry_of w l) (entry_of w s.rows)
  pub partly : IsPartly n c s.rank (entry_of w s.rows)

module _ (w n c rank : ℕ) (l : List ℕ) (inside : c < 8 * w) (h : n * w ≤ length l) (part : IsPartly n c rank (entry_of w l)) where
  -- the row at the rank has the column: it clears the others
  cleared : rank < n → entry_of w l rank c ≡ true → IsGood w n (c + 1) l (record { rank = rank + 1; rows = clear_column w l n rank c })
  cleared room one = record {
    size = length_clear w n rank c inside room l h;
    same = pivot_same n c rank (8 * w) (entry_of w l) (entry_of w (clear_column w l n rank c)) inside part room one (entry_clear w n rank c inside room l h);
    partly = partly_pivot n c rank (8 * w) (entry_of w l) (entry_of w (clear_column w l n rank c)) inside part room one (entry_clear w n rank c inside room l h);
  }

module _ (w n c rank : ℕ) (l : List ℕ) (inside : c < 8 * w) (h : n * w ≤ length l) (part : IsPartly n c rank (entry_of w l)) where
  -- a row further down has it: it is added first
  added : (p : ℕ) → rank < p → p < n → entry_of w l rank c ≡ false → entry_of w l p c ≡ true
      → IsGood w n (c + 1) l (record { rank = rank + 1; rows = clear_column w (xor_row w l rank p) n rank c })
  added p later room free one =
      let bits : (v k : ℕ) → v < n → k < 8 * w → entry_of w (xor_row w l rank p) v k ≡ add_row p rank (entry_of w l) v k =
      λ v k a g. entry_xor w l rank p (row_fits w rank n l h (omega arith)) (row_fits w p n l h room) (omega arith) v k g in
      let keeps = pivot_row_keeps n c rank (8 * w) p (entry_of w l) (entry_of w (xor_row w l rank p)) inside part later room free one bits in
      let has = pivot_row_one n c rank (8 * w) p (entry_of w l) (entry_of w (xor_row w l rank p)) inside part later room free one bits in
      let then = cleared w n c rank (xor_row w l rank p) inside (omega (arith, length_xor w l rank p)) keeps (omega arith) has in
      record {
        size = then.size ∙ length_xor w l rank p;
        same = same_trans (pivot_row_same n c rank (8 * w) p (entry_of w l) (entry_of w (xor_row w l rank p)) inside part later room free one bits) then.same;
        partly = then.partly;
      }

  pub good_column : IsGood w n (c + 1) l (eliminate_column w n c (record { rank = rank; rows = l }))
  unfolding eliminate_column pivot_to add_pivot_row
  good_column = by (dec_lt found n)
    where
      found : ℕ
      found = lowest_from rank (n - rank) (λ i. entry_of w l i c)

      at_least : rank ≤ found
      at_least = from_ge rank (n - rank) (λ i. entry_of w l i c)

      earlier : (i : ℕ) → rank ≤ i → i < found → entry_of w l i c ≡ false
      earlier i a b = from_none rank (n - rank) (λ i. entry_of w l i c) i a b

      to : Bool → State
      to b = cond b (record { rank = rank + 1; rows = clear_column w (cond (eqb found rank) l (xor_row w l rank found)) n rank c }) (record { rank = rank; rows = l })

      some_row : found < n → Dec (found ≡ rank) → IsGood w n (c + 1) l (to true)
      some_row a (yes e) =
          let has : entry_of w l found c ≡ true = from_here rank (n - rank) (λ i. entry_of w l i c) (omega arith) in
          rw (e, eqb_yes rank) (cleared w n c rank l inside h part (omega arith) (rw e at has))
      some_row a (no e) =
          let has : entry_of w l found c ≡ true = from_here rank (n - rank) (λ i. entry_of w l i c) (omega arith) in
          rw (eqb_no found rank e) (added found (omega (arith, e, at_least)) a (earlier rank (le_refl rank) (omega (arith, e, at_least))) has)

      by : Dec (found < n) → IsGood w n (c + 1) l (to (ltb found n))
      by (yes a) = rw (ltb_yes found n a) (some_row a (ℕ_discrete found rank))
      by (no a) =
          rw (ltb_no found n (omega arith))
          (record { size = refl; same = same_refl n (8 * w) (entry_of w l); partly = partly_skip n c rank (entry_of w l) part (λ i lo hi. earlier i lo (omega arith)) })

-- ---- all columns
pub good_eliminated : (w n : ℕ) (l : List ℕ) → n * w ≤ length l → (c : ℕ) → c ≤ 8 * w → IsGood w n c l (eliminate_columns w l n c)
unfolding eliminate_columns turns
good_eliminated w n l h zero g = record { size = refl; same = same_refl n (8 * w) (entry_of w l); partly = partly_start n (entry_of w l) }
good_eliminated w n l h (suc c) g =
    let b = good_eliminated w n l h c (omega arith) in
    let s = turns (eliminate_column w n) c (record { rank = 0; rows = l }) in
    let d = good_column w n c s.rank s.rows (omega arith) (omega (arith, b.size)) b.partly in
    record { size = d.size ∙ b.size; same = same_trans b.same d.same; partly = rw (← add-one c) d.partly }
