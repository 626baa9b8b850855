-- The graph by rows, and the work matrix that is filled from it: row by row, a row by its words, a word by its bytes.
use Prim.Native.Nat.{ℕ, ◌+◌, ◌-◌, ◌*◌, ◌/◌, ◌%◌, ◌^◌, ◌≤◌, ◌<◌}
use mathlib.Core.Path.{◌≡◌, refl, sym, ap, ap₂, ◌∙◌, subst, fun_ext}
use mathlib.Core.Bool.{Bool, true, false, not, ◌&&◌, ◌||◌}
use mathlib.Core.List.{List, [], ◌∷◌, ◌++◌, append-nil}
use mathlib.Core.Logic.{◌≢◌, ◌⊎◌, inl, inr}
use native.Mathlib.Nat.{le_of_eq, div-one}
use native.Mathlib.Decide.{ℕ_discrete}
use native.Mathlib.Omega.{arith}
use native.Mathlib.Numerals.{lt_of_le_of_ne}
use borrow.Rule.Slice.PartMut.{put_mid, mid_of}
use lib.Dec.{T, eqb}
use lib.ListN.{length, get_or, set, take, drop, length-set, length-append, length-drop, get_or-append, drop_of_length-le}
use lib.Pow.{shr-shr}
use lib.Seq.{get_or-set_same, get_or-set_other, take_all, get_or-take, drop_at, length-take-le}
use Rattle.nodes.specs.Bit.{bit, ◌⊕◌}
use Rattle.nodes.specs.Row.{any_below, count, lowest, members}
use Rattle.nodes.specs.NodeSet.{word_bits, capacity, member_of, member, words_of}
use Rattle.nodes.specs.SetTable.{set_at, table_words, add_sets}
use Rattle.nodes.proofs.Logic.{is_true, is_false, from_false, and_l, and_r, and_none, and_all, or_l, or_r, or_false, or_all, ⊕_none, eqb_no, eqb_yes, lt_or_ge, not_out}
use Rattle.nodes.proofs.Count.{rank_lt, rank_inj}
use Rattle.nodes.proofs.Members.{lowest_member}
use Rattle.nodes.proofs.Remove.{removed, removed_other, removed_same, least_one}
use Rattle.nodes.proofs.SetTable.{added_sets, sets-length}
use Rattle.nodes.proofs.NodeSet.{member_head, member_tail}
use Rattle.nodes.proofs.Digits.{bit-mod, bit_down}
use Rattle.nodes.proofs.Walk.{IsWalk, walk_start, walk_rank, walk_step}
use Rattle.solver.specs.WorkMatrix.{entry_of}
use Rattle.solver.specs.Solver.{row_bytes, most_columns}
use Rattle.finder.specs.WorkMatrix.{WordPut, RowPut, IsLaidOut, IsTransposed}
use Rattle.finder.specs.declared.matrix.Support.{Support}

-- ---- a word, byte by byte: i of them are put
pub record IsPutting (at word i left : ℕ) (before after : List ℕ) : Type 0 where
  pub rest : left ≡ word / 2 ^ (8 * i)
  pub size : length after ≡ length before
  pub digits : (k : ℕ) → k < 8 * i → bit (get_or after (at + k / 8) 0) (k % 8) ≡ bit word k
  pub others : (j : ℕ) → (j < at) ⊎ (at + i ≤ j) → get_or after j 0 ≡ get_or before j 0

pub putting_start : (at word : ℕ) (l : List ℕ) → IsPutting at word 0 word l l
putting_start at word l = record { rest = sym (div-one word); size = refl; digits = λ k h. absurd (omega arith); others = λ j d. refl }

pub putting_step : (at word i next left left' : ℕ) (before l l' : List ℕ) → next ≡ i + 1 → at + i < length l → l' ≡ set l (at + i) (left % 256) → left' ≡ left / 2 ^ 8
    → IsPutting at word i left before l → IsPutting at word next left' before l'
putting_step at word i next left left' before l l' n room e f p = subst (λ (x : ℕ). IsPutting at word x left' before l') (sym n) record {
  rest = f ∙ ap (λ (x : ℕ). x / 2 ^ 8) p.rest ∙ shr-shr word (8 * i) 8 ∙ (let z : 8 * i + 8 ≡ 8 * (i + 1) = omega arith in ap (λ (x : ℕ). word / 2 ^ x) z);
  size = ap length e ∙ length-set l (at + i) (left % 256) ∙ p.size;
  digits = λ k h. ap (λ (x : List ℕ). bit (get_or x (at + k / 8) 0) (k % 8)) e ∙ by k h (lt_or_ge k (8 * i));
  others = λ j d. ap (λ (x : List ℕ). get_or x j 0) e ∙ get_or-set_other l (at + i) j (left % 256) 0 (apart j d) ∙ p.others j (less j d);
}
  where
    by : (k : ℕ) → k < 8 * (i + 1) → (k < 8 * i) ⊎ (8 * i ≤ k) → bit (get_or (set l (at + i) (left % 256)) (at + k / 8) 0) (k % 8) ≡ bit word k
    by k h (inl g) = ap (λ (x : ℕ). bit x (k % 8)) (get_or-set_other l (at + i) (at + k / 8) (left % 256) 0 (λ z. absurd (omega arith))) ∙ p.digits k g
    by k h (inr g) =
        let z : at + k / 8 ≡ at + i = omega arith in
        let q : 8 * i + k % 8 ≡ k = omega arith in
        ap (λ (j : ℕ). bit (get_or (set l (at + i) (left % 256)) j 0) (k % 8)) z
        ∙ ap (λ (x : ℕ). bit x (k % 8)) (get_or-set_same l (at + i) (left % 256) 0 room)
        ∙ bit-mod left 8 (k % 8) (omega arith) ∙ ap (λ (x : ℕ). bit x (k % 8)) p.rest ∙ bit_down (8 * i) word (k % 8) ∙ ap (bit word) q

    apart : (j : ℕ) → (j < at) ⊎ (at + (i + 1) ≤ j) → j ≢ at + i
    apart j (inl h) z = absurd (omega arith)
    apart j (inr h) z = absurd (omega arith)

    less : (j : ℕ) → (j < at) ⊎ (at + (i + 1) ≤ j) → (j < at) ⊎ (at + i ≤ j)
    less j (inl h) = inl h
    less j (inr h) = inr (omega arith)

pub putting_end : (at word i left : ℕ) (before after : List ℕ) → i ≡ 8 → IsPutting at word i left before after → WordPut at word before after
putting_end at word i left before after e p = record {
  size = p.size;
  digits = λ k h. p.digits k (omega arith);
  others = λ j d. p.others j (at_end j d);
}
  where
    at_end : (j : ℕ) → (j < at) ⊎ (at + 8 ≤ j) → (j < at) ⊎ (at + i ≤ j)
    at_end j (inl h) = inl h
    at_end j (inr h) = inr (omega arith)

-- ---- the two words of a row
pub row_put : (row at next : ℕ) (s : List ℕ) (before middle after : List ℕ) → at ≡ row * row_bytes → next ≡ at + 8 → WordPut at (get_or s 0 0) before middle → WordPut next (get_or s 1 0) middle after
    → RowPut row (member s) before after
unfolding entry_of
row_put row at next s before middle after e f a b = record {
  size = b.size ∙ a.size;
  here = λ k h. by k h (lt_or_ge k word_bits);
  others = λ i k d h. ap (λ (x : ℕ). bit x (k % 8)) (b.others (i * row_bytes + k / 8) (beyond i k d h (lt_or_ge i row)) ∙ a.others (i * row_bytes + k / 8) (before_at i k d h (lt_or_ge i row)));
}
  where
    by : (k : ℕ) → k < most_columns → (k < word_bits) ⊎ (word_bits ≤ k) → bit (get_or after (row * row_bytes + k / 8) 0) (k % 8) ≡ member s k
    by k h (inl l) =
        let z : row * row_bytes + k / 8 ≡ at + k / 8 = omega arith in
        ap (λ (x : ℕ). bit (get_or after x 0) (k % 8)) z ∙ ap (λ (x : ℕ). bit x (k % 8)) (b.others (at + k / 8) (inl (omega arith))) ∙ a.digits k l ∙ sym (member_head (get_or s 0 0) (get_or s 1 0 ∷ []) k l)
    by k h (inr l) =
        let z : row * row_bytes + k / 8 ≡ next + (k - word_bits) / 8 = omega arith in
        let q : k % 8 ≡ (k - word_bits) % 8 = omega arith in
        let w : k ≡ word_bits + (k - word_bits) = omega arith in
        ap₂ (λ (x y : ℕ). bit (get_or after x 0) y) z q ∙ b.digits (k - word_bits) (omega arith)
        ∙ sym (ap (member_of (words_of s)) w ∙ member_tail (get_or s 0 0) (get_or s 1 0 ∷ []) (k - word_bits) ∙ member_head (get_or s 1 0) [] (k - word_bits) (omega arith))

    more : (i : ℕ) → i ≢ row → row ≤ i → row + 1 ≤ i
    more i d l = omega (arith, lt_of_le_of_ne l (λ z. d (sym z)))

    beyond : (i k : ℕ) → i ≢ row → k < most_columns → (i < row) ⊎ (row ≤ i) → (i * row_bytes + k / 8 < next) ⊎ (next + 8 ≤ i * row_bytes + k / 8)
    beyond i k d h (inl l) = inl (omega arith)
    beyond i k d h (inr l) = let m = more i d l in inr (omega arith)

    before_at : (i k : ℕ) → i ≢ row → k < most_columns → (i < row) ⊎ (row ≤ i) → (i * row_bytes + k / 8 < at) ⊎ (at + 8 ≤ i * row_bytes + k / 8)
    before_at i k d h (inl l) = inl (omega arith)
    before_at i k d h (inr l) = let m = more i d l in inr (omega arith)

-- ---- rows, those of the members that are not left
pub record IsLaying (rows left : ℕ → Bool) (f : ℕ → ℕ → Bool) (i : ℕ) (before after : List ℕ) : Type 0 where
  pub walk : IsWalk rows left i
  pub size : length after ≡ length before
  pub done : (v k : ℕ) → T (rows v) → (T (left v) → ⊥) → k < most_columns → entry_of row_bytes after (count v rows) k ≡ f v k

pub laying_start : (rows : ℕ → Bool) (f : ℕ → ℕ → Bool) (l : List ℕ) → IsLaying rows rows f 0 l l
laying_start rows f l = record { walk = walk_start rows; size = refl; done = λ v k t n h. absurd (n t) }

pub laying_step : (rows left next row : ℕ → Bool) (f : ℕ → ℕ → Bool) (i : ℕ) (before l l' : List ℕ) → T (any_below capacity left) → next ≡ removed left (lowest capacity left)
    → row ≡ f (lowest capacity left) → RowPut i row l l' → IsLaying rows left f i before l → IsLaying rows next f (i + 1) before l'
laying_step rows left next row f i before l l' t e g r p = record {
  walk = walk_step capacity rows left i p.walk t next e;
  size = r.size ∙ p.size;
  done = λ v k q n h. by v k q n h (ℕ_discrete v (lowest capacity left));
}
  where
    by : (v k : ℕ) → T (rows v) → (T (next v) → ⊥) → k < most_columns → Dec (v ≡ lowest capacity left) → entry_of row_bytes l' (count v rows) k ≡ f v k
    by v k q n h (yes z) =
        ap (λ (x : ℕ). entry_of row_bytes l' (count x rows) k) z ∙ ap (λ (x : ℕ). entry_of row_bytes l' x k) (walk_rank capacity rows left i p.walk t)
        ∙ r.here k h ∙ ap (λ (x : ℕ → Bool). x k) g ∙ ap (λ (x : ℕ). f x k) (sym z)
    by v k q n h (no d) =
        r.others (count v rows) k
        (λ z. d (rank_inj v (lowest capacity left) rows q (p.walk.within (lowest capacity left) (lowest_member capacity left t)) (z ∙ sym (walk_rank capacity rows left i p.walk t)))) h
        ∙ p.done v k q (λ u. n (subst (λ (x : ℕ → Bool). T (x v)) (sym e) (subst T (sym (removed_other left (lowest capacity left) v d)) u))) h

-- ---- a part is lent on
mid_rest : (a : ℕ) (xs : List ℕ) → mid_of a (length xs - a) xs ≡ drop a xs
mid_rest a xs = take_all (length xs - a) (drop a xs) (le_of_eq (length-drop a xs))

put_rest : (a : ℕ) (xs ys : List ℕ) → put_mid a (length xs - a) xs ys ≡ take a xs ++ ys
put_rest a xs ys =
    ap (λ (t : List ℕ). take a xs ++ (ys ++ t)) (drop_of_length-le (drop a xs) {i = length xs - a} (le_of_eq (length-drop a xs)))
    ∙ ap (λ (t : List ℕ). take a xs ++ t) (append-nil ys)

pub part_size : (a : ℕ) (xs : List ℕ) → length (mid_of a (length xs - a) xs) ≡ length xs - a
part_size a xs = ap length (mid_rest a xs) ∙ length-drop a xs

-- the upper rows stay, and the lent part holds the lower ones
module _ (upper lower : ℕ → Bool) (f g : ℕ → ℕ → Bool) (start : ℕ) (xs ys whole : List ℕ) (e : start ≡ count capacity upper * row_bytes) (room : start ≤ length xs)
    (few : (v : ℕ) → T (upper v) → v < capacity) (is : whole ≡ put_mid start (length xs - start) xs ys) where
  pub both_size : length ys ≡ length (mid_of start (length xs - start) xs) → length whole ≡ length xs
  both_size s = ap length (is ∙ put_rest start xs ys) ∙ length-append (take start xs) ys ∙ omega (arith, length-take-le start xs room, s, part_size start xs)

  pub both_upper : IsLaidOut upper f xs → IsLaidOut upper f whole
  unfolding entry_of
  both_upper a v k t h =
      let l = rank_lt v capacity upper (few v t) t in
      ap (λ (x : List ℕ). bit (get_or x (count v upper * row_bytes + k / 8) 0) (k % 8)) (is ∙ put_rest start xs ys)
      ∙ ap (λ (x : ℕ). bit x (k % 8))
      (get_or-append (take start xs) ys 0 (count v upper * row_bytes + k / 8) (omega (arith, length-take-le start xs room)) ∙ get_or-take start xs (count v upper * row_bytes + k / 8) 0 (omega arith))
      ∙ a v k t h

  pub both_lower : IsLaidOut lower g ys → IsLaidOut lower g (drop (count capacity upper * row_bytes) whole)
  both_lower b v k t h =
      ap (λ (x : List ℕ). entry_of row_bytes x (count v lower) k) (ap₂ drop (sym e) (is ∙ put_rest start xs ys) ∙ drop_at (take start xs) ys start (length-take-le start xs room)) ∙ b v k t h

-- ---- what is known by rows
pub transposed_start : (g : List ℕ) (support : Support) (transposed : List ℕ) → length transposed ≡ table_words → ((v k : ℕ) → set_at transposed v k ≡ false) → member support.columns ≡ (λ u. false) → IsTransposed g support transposed
transposed_start g support transposed e z f = record {
  size = e;
  rows = λ v k. z v k ∙ sym (ap (λ (h : ℕ → Bool). h k && set_at g k v) f);
  reach = λ v k t. absurd (from_false (set_at transposed v k) (z v k) t);
}

-- on the way: of the new nodes those that are not left are known
pub record IsGrowing (g : List ℕ) (known new left : ℕ → Bool) (reached : List ℕ) (transposed : List ℕ) : Type 0 where
  pub size : length transposed ≡ table_words
  pub rows : (v k : ℕ) → set_at transposed v k ≡ (known k || (new k && not (left k))) && set_at g k v
  pub reach : (v k : ℕ) → T (set_at transposed v k) → T (member reached v)
  pub within : (k : ℕ) → T (left k) → T (new k)
  pub fresh : (k : ℕ) → T (new k) → T (known k) → ⊥

pub growing_start : (g : List ℕ) (support : Support) (columns new : ℕ → Bool) (transposed : List ℕ) → IsTransposed g support transposed → new ≡ (λ k. columns k && not (member support.columns k))
    → IsGrowing g (member support.columns) new new support.rows transposed
growing_start g support columns new transposed t e = record {
  size = t.size;
  rows = λ v k. t.rows v k ∙ ap (λ (b : Bool). b && set_at g k v) (sym (ap (λ (b : Bool). member support.columns k || b) (none (new k)) ∙ or_false (member support.columns k)));
  reach = t.reach;
  within = λ k q. q;
  fresh = λ k q u. not_out (member support.columns k) (and_r (columns k) (not (member support.columns k)) (subst (λ (f : ℕ → Bool). T (f k)) e q)) u;
}
  where
    none : (b : Bool) → b && not b ≡ false
    none true = refl
    none false = refl

-- the neighbours of the least that is left
pub growing_step : (g : List ℕ) (known new left next : ℕ → Bool) (near one reached reached' : List ℕ) (p : ℕ) (transposed transposed' : List ℕ) → T (any_below capacity left) → p ≡ lowest capacity left
    → member near ≡ set_at g p → member one ≡ (λ u. eqb u p) → next ≡ removed left (lowest capacity left)
    → transposed' ≡ add_sets transposed (members capacity (member near)) (words_of one) → member reached' ≡ (λ u. member reached u || member near u)
    → IsGrowing g known new left reached transposed → IsGrowing g known new next reached' transposed'
growing_step g known new left next near one reached reached' p transposed transposed' t z n o e a r w = record {
  size = ap length a ∙ sets-length (members capacity (member near)) transposed (words_of one) ∙ w.size;
  rows = λ v k. added v k ∙ by v k (ℕ_discrete k p);
  reach = λ v k q. subst (λ (f : ℕ → Bool). T (f v)) (sym r) (reaches v k (ℕ_discrete k p) (subst T (added v k) q));
  within = λ k q. w.within k (and_l (left k) (not (eqb k (lowest capacity left))) (subst (λ (f : ℕ → Bool). T (f k)) e q));
  fresh = w.fresh;
}
  where
    here : T (left p)
    here = subst (λ (x : ℕ). T (left x)) (sym z) (lowest_member capacity left t)

    alone : member one ≡ (λ u. eqb u p)
    alone = o

    added : (v k : ℕ) → set_at transposed' v k ≡ set_at transposed v k ⊕ set_at g p v && eqb k p
    added v k =
        ap (λ (l : List ℕ). set_at l v k) a ∙ added_sets transposed near one w.size v k
        ∙ ap₂ (λ (f h : ℕ → Bool). set_at transposed v k ⊕ f v && h k) n alone

    absent : (v : ℕ) → set_at transposed v p ≡ false
    absent v =
        w.rows v p
        ∙ ap₂ (λ (x y : Bool). (x || (new p && not y)) && set_at g p v) (is_false (known p) (w.fresh p (w.within p here))) (is_true (left p) here)
        ∙ ap (λ (x : Bool). x && set_at g p v) (and_none (new p))

    by : (v k : ℕ) → Dec (k ≡ p) → set_at transposed v k ⊕ set_at g p v && eqb k p ≡ (known k || (new k && not (next k))) && set_at g k v
    by v k (yes q) =
        ap₂ (λ (x y : Bool). x ⊕ set_at g p v && y) (ap (set_at transposed v) q ∙ absent v) (ap (λ (x : ℕ). eqb x p) q ∙ eqb_yes p) ∙ and_all (set_at g p v)
        ∙ sym (ap (λ (x : ℕ). (known x || (new x && not (next x))) && set_at g x v) q
        ∙ ap₂ (λ (x y : Bool). (known p || (x && not y)) && set_at g p v) (is_true (new p) (w.within p here)) (ap (λ (f : ℕ → Bool). f p) e ∙ ap (removed left (lowest capacity left)) z ∙ removed_same left (lowest capacity left))
        ∙ ap (λ (x : Bool). x && set_at g p v) (or_all (known p)))
    by v k (no d) =
        ap (λ (x : Bool). set_at transposed v k ⊕ set_at g p v && x) (eqb_no k p d) ∙ ap (λ (x : Bool). set_at transposed v k ⊕ x) (and_none (set_at g p v)) ∙ ⊕_none (set_at transposed v k) ∙ w.rows v k
        ∙ ap (λ (x : Bool). (known k || (new k && not x)) && set_at g k v) (sym (ap (λ (f : ℕ → Bool). f k) e ∙ removed_other left (lowest capacity left) k (λ y. d (y ∙ sym z))))

    reaches : (v k : ℕ) → Dec (k ≡ p) → T (set_at transposed v k ⊕ set_at g p v && eqb k p) → T (member reached v || member near v)
    reaches v k (yes q) u =
        or_r (member reached v) (member near v)
        (subst T (ap₂ (λ (x y : Bool). x ⊕ set_at g p v && y) (ap (set_at transposed v) q ∙ absent v) (ap (λ (x : ℕ). eqb x p) q ∙ eqb_yes p) ∙ and_all (set_at g p v) ∙ sym (ap (λ (f : ℕ → Bool). f v) n)) u)
    reaches v k (no d) u =
        or_l (member reached v) (member near v)
        (w.reach v k (subst T (ap (λ (x : Bool). set_at transposed v k ⊕ set_at g p v && x) (eqb_no k p d) ∙ ap (λ (x : Bool). set_at transposed v k ⊕ x) (and_none (set_at g p v)) ∙ ⊕_none (set_at transposed v k)) u))

pub growing_end : (g : List ℕ) (known columns new left : ℕ → Bool) (support' : Support) (transposed : List ℕ) → ((k : ℕ) → left k ≡ false) → new ≡ (λ k. columns k && not (known k))
    → member support'.columns ≡ (λ k. known k || columns k) → IsGrowing g known new left support'.rows transposed → IsTransposed g support' transposed × ((k : ℕ) → T (columns k) → T (member support'.columns k))
growing_end g known columns new left support' transposed n e h w = (
  record {
    size = w.size;
    rows = λ v k. w.rows v k ∙ ap (λ (b : Bool). b && set_at g k v) (ap₂ (λ (x y : Bool). known k || (x && not y)) (ap (λ (f : ℕ → Bool). f k) e) (n k) ∙ both (known k) (columns k) ∙ sym (ap (λ (f : ℕ → Bool). f k) h));
    reach = w.reach;
  },
  λ k t. subst (λ (f : ℕ → Bool). T (f k)) (sym h) (or_r (known k) (columns k) t),
)
  where
    both : (a b : Bool) → (a || ((b && not a) && true)) ≡ (a || b)
    both true b = refl
    both false b = and_all (b && true) ∙ and_all b

-- ---- the row of a node
-- the row of v by the table
pub row_lower : (transposed : List ℕ) (v : ℕ) (lower : Bool) (near alone r : ℕ → Bool) → lower ≡ true → near ≡ set_at transposed v → alone ≡ (λ k. eqb k v) → r ≡ (λ k. near k ⊕ alone k)
    → r ≡ (λ k. set_at transposed v k ⊕ (lower && eqb k v))
row_lower transposed v lower near alone r t a b e =
    e ∙ ap₂ {C = ℕ → Bool} (λ (f g : ℕ → Bool) (k : ℕ). f k ⊕ g k) a b ∙ fun_ext (λ k. sym (ap (λ (c : Bool). set_at transposed v k ⊕ (c && eqb k v)) t))

pub row_upper : (transposed : List ℕ) (v : ℕ) (lower : Bool) (near : ℕ → Bool) → lower ≡ false → near ≡ set_at transposed v → near ≡ (λ k. set_at transposed v k ⊕ (lower && eqb k v))
row_upper transposed v lower near t a = a ∙ fun_ext (λ k. sym (ap (λ (c : Bool). set_at transposed v k ⊕ (c && eqb k v)) t ∙ ⊕_none (set_at transposed v k)))
