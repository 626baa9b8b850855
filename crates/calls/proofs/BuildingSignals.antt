-- For signals.rt: a column changed row by row, and a list built column by column.
use Prim.Native.Nat.{ℕ, zero, suc, zero-le, ◌+◌, ◌*◌, ◌-◌, ◌/◌, ◌%◌, ◌^◌, ◌≤◌, ◌<◌}
use mathlib.Core.Path.{◌≡◌, refl, sym, ap, ◌∙◌, subst, fun_ext}
use mathlib.Core.Bool.{Bool, true, false, cond, not, ◌&&◌, ◌||◌}
use mathlib.Core.Logic.{◌⊎◌, inl, inr, ◌≢◌}
use mathlib.Core.List.{List, [], ◌∷◌, ◌++◌}
use native.Mathlib.Omega.{arith}
use native.Mathlib.Nat.{mul-le-mul}
use native.Mathlib.Decide.{ℕ_discrete}
use borrow.Author.Tests.{eq-eqb, ne_eqb, lt-ltb, le-ltb, le-leb}
use lib.Pow.{pow-lt}
use lib.Bits.{bit_and, bit_or, and_lt, or_lt}
use lib.Dec.{T, eqb, ltb, leb, ltb→lt}
use lib.ListN.{length, get_or, set, take, replicate, length-set}
use lib.Seq.{take-append_seam, get_or-set_same, get_or-set_other}
use Rattle.nodes.specs.Bit.{bit, ◌⊕◌}
use Rattle.nodes.specs.NodeSet.{highest, capacity}
use Rattle.nodes.specs.Row.{parity, members}
use Rattle.nodes.specs.Lists.{has, all, zeros}
use Rattle.nodes.proofs.Logic.{is_false, from_false, from_true, and_none, and_all, and_comm, and_l, and_r, and_out, eqb_comm, or_l, or_r, or_false, ⊕_none, lt_or_ge}
use Rattle.nodes.proofs.Bit.{bit-and, bit-or, bit-pow, bit-not}
use Rattle.nodes.proofs.Digits.{digits_is}
use Rattle.nodes.proofs.Row.{parity_ext, parity-⊕, parity_none, parity_one}
use Rattle.flows.specs.Job.{Job}
use Rattle.records.specs.JobFile.{nodes_below, rises}
use Rattle.records.specs.FlowFile.{SetEntry, entries_of, listed, all_entries, entry_below, entries_rise, set_in, entry_in}
use Rattle.records.specs.BitRows.{byte_bits, row_width, with_digit, with_column}
use Rattle.records.specs.SignalLists.{flips, signal_list, edited_list}
use Rattle.records.proofs.BitRows.{row_within, same_place, bit_rows_ext, bit_rows_none, in_column, digit_twice, column-length, column_at, column_is, column_rows}
use Rattle.records.proofs.FlowFile.{below_out, each_out, rise_none, rise_out, rise-cons, entries_none, no_entry_no_set}
use Rattle.records.proofs.JobFile.{rises_out, has_below}
use Rattle.records.proofs.NodeLists.{rises_least}
use Rattle.records.proofs.SignalLists.{list_ext, edited_afresh}
use Rattle.records.proofs.Writing.{members-has}
use Rattle.calls.specs.Loaded.{flipped_by, list_for, IsEntriesFor, odd_among, set_bit, set_bits, most_list}

-- ---- one bit of a byte
pub in_byte : (i : ℕ) → i % byte_bits < byte_bits
in_byte i = omega arith

pub mask_lt : (d : ℕ) → d < byte_bits → 2 ^ d < 2 ^ byte_bits
mask_lt d l = pow-lt l

pub digit_set : (d x : ℕ) → d < byte_bits → x < 256 → bit_or x (2 ^ d) ≡ with_digit d true x
digit_set d x l h = digits_is byte_bits (bit_or x (2 ^ d)) _ (or_lt byte_bits x (2 ^ d) h (mask_lt d l)) (λ k b. bit-or x (2 ^ d) k ∙ ap (λ (c : Bool). bit x k || c) (bit-pow d k) ∙ by (bit x k) (eqb k d))
  where
    by : (b c : Bool) → b || c ≡ cond c true b
    by true true = refl
    by true false = refl
    by false true = refl
    by false false = refl

pub digit_clear : (d x : ℕ) → d < byte_bits → x < 256 → bit_and x (255 - 2 ^ d) ≡ with_digit d false x
digit_clear d x l h =
    digits_is byte_bits (bit_and x (255 - 2 ^ d)) _ (and_lt byte_bits x (255 - 2 ^ d) h (omega arith))
    (λ k b. bit-and x (255 - 2 ^ d) k ∙ ap (λ (c : Bool). bit x k && c) (bit-not byte_bits (2 ^ d) k (mask_lt d l) b ∙ ap not (bit-pow d k)) ∙ by (bit x k) (eqb k d))
  where
    by : (b c : Bool) → b && not c ≡ cond c false b
    by true true = refl
    by true false = refl
    by false true = refl
    by false false = refl

-- ---- places in a list
pub list_fits : (n : ℕ) → n ≤ capacity → row_width n * n ≤ most_list
list_fits n h = mul-le-mul {n₁ = row_width n} {m₁ = n} {n₂ = row_width capacity} {m₂ = capacity} (omega arith) h

pub byte_within : (n i j : ℕ) → i < n → j < n → row_width n * j + i / byte_bits < row_width n * n
byte_within n i j h l = row_within (row_width n) j (i / byte_bits) n l (omega arith)

-- the rows below j + 1 are those below j, and j
pub ltb_next : (r j : ℕ) → r ≢ j → ltb r (j + 1) ≡ ltb r j
ltb_next r j d = by (lt_or_ge r j)
  where
    above : j ≤ r → j + 1 ≤ r
    above h = omega (arith, h, d)

    by : (r < j) ⊎ (j ≤ r) → ltb r (j + 1) ≡ ltb r j
    by (inl h) = rw (lt-ltb r j h, lt-ltb r (j + 1) (omega arith))
    by (inr h) = rw (le-ltb r j h, le-ltb r (j + 1) (above h))

-- ---- a column in which the rows of p are done
pub record IsPartlySet (n i : ℕ) (b : Bool) (p : ℕ → Bool) (old l : List ℕ) : Type 0 where
  pub size : length l ≡ row_width n * n
  pub each : (r k : ℕ) → r < n → k < row_width n → get_or l (row_width n * r + k) 0 ≡ cond (p r) (in_column i k b (get_or old (row_width n * r + k) 0)) (get_or old (row_width n * r + k) 0)

module _ (n i : ℕ) (b : Bool) (old : List ℕ) where
  pub partly_none : (p : ℕ → Bool) → length old ≡ row_width n * n → ((r : ℕ) → r < n → p r ≡ false) → IsPartlySet n i b p old old
  partly_none p e f = record { size = e; each = λ r k a c. rw (f r a) refl }

  -- one row more, done before or not
  module _ (h : i < n) (p q : ℕ → Bool) (l : List ℕ) (v x : ℕ) (below : v < n) (now : q v ≡ true) (others : (r : ℕ) → r ≢ v → q r ≡ p r)
      (s : IsPartlySet n i b p old l) (e : x ≡ with_digit (i % byte_bits) b (get_or l (row_width n * v + i / byte_bits) 0)) where
    pub partly_next : IsPartlySet n i b q old (set l (row_width n * v + i / byte_bits) x)
    partly_next = record { size = length-set l (row_width n * v + i / byte_bits) x ∙ s.size; each = λ r k a c. place r k a c (ℕ_discrete r v) (ℕ_discrete k (i / byte_bits)) }
      where
        once : (c : Bool) (o : ℕ) → with_digit (i % byte_bits) b (cond c (with_digit (i % byte_bits) b o) o) ≡ with_digit (i % byte_bits) b o
        once true o = digit_twice (i % byte_bits) b b o
        once false o = refl

        either : (c : Bool) (o : ℕ) → cond c o o ≡ o
        either true o = refl
        either false o = refl

        here : x ≡ with_digit (i % byte_bits) b (get_or old (row_width n * v + i / byte_bits) 0)
        here = e ∙ ap (with_digit (i % byte_bits) b) (s.each v (i / byte_bits) below (omega arith)) ∙ rw (eq-eqb (i / byte_bits) (i / byte_bits) refl) (once (p v) (get_or old (row_width n * v + i / byte_bits) 0))

        apart : (r k : ℕ) → k < row_width n → (r ≡ v → k ≡ i / byte_bits → ⊥) → row_width n * r + k ≢ row_width n * v + i / byte_bits
        apart r k c f d = let (m, o) = same_place (row_width n) r k v (i / byte_bits) c (omega arith) d in f m o

        place : (r k : ℕ) → r < n → k < row_width n → Dec (r ≡ v) → Dec (k ≡ i / byte_bits)
            → get_or (set l (row_width n * v + i / byte_bits) x) (row_width n * r + k) 0 ≡ cond (q r) (in_column i k b (get_or old (row_width n * r + k) 0)) (get_or old (row_width n * r + k) 0)
        place r k a c (yes m) (yes o) =
            rw (m, o) (get_or-set_same l (row_width n * v + i / byte_bits) x 0 (omega (arith, s.size, byte_within n i v h below)) ∙ here ∙ rw (now, eq-eqb (i / byte_bits) (i / byte_bits) refl) refl)
        place r k a c (yes m) (no f) =
            get_or-set_other l (row_width n * v + i / byte_bits) (row_width n * r + k) x 0 (apart r k c (λ x y. f y)) ∙ s.each r k a c
            ∙ rw (m, now, ne_eqb k (i / byte_bits) f) (either (p v) (get_or old (row_width n * v + k) 0))
        place r k a c (no g) o =
            get_or-set_other l (row_width n * v + i / byte_bits) (row_width n * r + k) x 0 (apart r k c (λ x y. g x)) ∙ s.each r k a c ∙ rw (others r g) refl

-- all rows are done
pub cleared : (n i : ℕ) (p : ℕ → Bool) (old l : List ℕ) → IsPartlySet n i false p old l → ((r : ℕ) → r < n → p r ≡ true) → l ≡ with_column n i (λ j. false) old
cleared n i p old l s f = column_is n i (λ j. false) old l s.size (λ r k a c. s.each r k a c ∙ rw (f r a) refl)

-- the rows of x are done, and the column was clear
pub filled : (n i : ℕ) (p x : ℕ → Bool) (old l : List ℕ) → with_column n i (λ j. false) old ≡ old → IsPartlySet n i true p old l → ((r : ℕ) → r < n → p r ≡ x r) → l ≡ with_column n i x old
filled n i p x old l clear s f = column_is n i x old l s.size (λ r k a c. s.each r k a c ∙ by r k a c (x r) (f r a))
  where
    by : (r k : ℕ) → r < n → k < row_width n → (b : Bool) → p r ≡ b → let o = get_or old (row_width n * r + k) 0 in cond (p r) (in_column i k true o) o ≡ in_column i k b o
    by r k a c true e = rw e refl
    by r k a c false e = rw e (sym (ap (λ (l : List ℕ). get_or l (row_width n * r + k) 0) clear) ∙ column_at n i (λ j. false) old r k a c)

-- ---- rows one after the other
pub bits-length : (width i : ℕ) (js l : List ℕ) → length (set_bits width i js l) ≡ length l
unfolding set_bits
bits-length width i [] l = refl
bits-length width i (j ∷ js) l = bits-length width i js (set_bit width i j l) ∙ length-set l (width * j + i / byte_bits) _

pub bits-append : (width i : ℕ) (js ks l : List ℕ) → set_bits width i (js ++ ks) l ≡ set_bits width i ks (set_bits width i js l)
unfolding set_bits
bits-append width i [] ks l = refl
bits-append width i (j ∷ js) ks l = bits-append width i js ks (set_bit width i j l)

bits_partly : (n i : ℕ) (old js : List ℕ) (p : ℕ → Bool) (l : List ℕ) → i < n → ((j : ℕ) → T (has js j) → j < n) → IsPartlySet n i true p old l → IsPartlySet n i true (λ r. has js r || p r) old (set_bits (row_width n) i js l)
unfolding has set_bits
bits_partly n i old [] p l h below s = s
bits_partly n i old (j ∷ js) p l h below s =
    subst (λ (q : ℕ → Bool). IsPartlySet n i true q old (set_bits (row_width n) i (j ∷ js) l)) (fun_ext (λ r. by (eqb j r) (has js r) (p r)))
    (bits_partly n i old js (λ r. eqb j r || p r) (set_bit (row_width n) i j l) h (λ k t. below k (or_r (eqb j k) (has js k) t))
    (partly_next n i true old h p (λ r. eqb j r || p r) l j _ (below j (or_l (eqb j j) (has js j) (rw (eq-eqb j j refl) tt))) (rw (eq-eqb j j refl) refl) (λ r d. rw (ne_eqb j r (λ q. d (sym q))) refl) s refl))
  where
    by : (x y z : Bool) → y || (x || z) ≡ (x || y) || z
    by true true z = refl
    by true false z = refl
    by false y z = refl

-- a column that was clear has just these rows
bits_column : (n i : ℕ) (x : ℕ → Bool) (js l : List ℕ) → i < n → ((j : ℕ) → T (has js j) → j < n) → ((j : ℕ) → j < n → has js j ≡ x j) → with_column n i (λ j. false) l ≡ l → set_bits (row_width n) i js l ≡ with_column n i x l
bits_column n i x js l h below same clear =
    filled n i (λ r. has js r || false) x l _ clear
    (bits_partly n i l js (λ r. false) l h below (partly_none n i true l (λ r. false) (sym (ap length clear) ∙ column-length n i (λ j. false) l) (λ r a. refl)))
    (λ r a. or_false (has js r) ∙ same r a)

pub members_column : (n i : ℕ) (s : ℕ → Bool) (l : List ℕ) → n ≤ capacity → i < n → ((j : ℕ) → T (s j) → j < n) → with_column n i (λ j. false) l ≡ l → set_bits (row_width n) i (members capacity s) l ≡ with_column n i s l
members_column n i s l few h below clear =
    bits_column n i s (members capacity s) l h (λ j t. below j (and_r (ltb j capacity) (s j) (rw (members-has capacity s j) at t))) (λ r a. members-has capacity s r ∙ rw (lt-ltb r capacity (omega arith)) refl) clear

-- ---- the members of an entry
pub node_at : (n : ℕ) (l : List ℕ) (k : ℕ) → nodes_below n l ≡ true → k < length l → get_or l k 0 < n
unfolding all
node_at n [] k below h = absurd (omega arith)
node_at n (x ∷ l) zero below h = ltb→lt x n (from_true (ltb x n) (and_out (ltb x n) (nodes_below n l) below).0)
node_at n (x ∷ l) (suc k) below h = node_at n l k (and_out (ltb x n) (nodes_below n l) below).1 (omega arith)

-- those other than i
unfoldable pub others : ℕ → List ℕ → List ℕ
others i [] = []
others i (j ∷ l) = cond (eqb j i) (others i l) (j ∷ others i l)

pub others_next : (width i j : ℕ) (m l : List ℕ) → set_bits width i (others i m) (cond (eqb j i) l (set_bit width i j l)) ≡ set_bits width i (others i (j ∷ m)) l
unfolding others set_bits
others_next width i j m l = by (eqb j i)
  where
    by : (c : Bool) → set_bits width i (others i m) (cond c l (set_bit width i j l)) ≡ set_bits width i (cond c (others i m) (j ∷ others i m)) l
    by true = refl
    by false = refl

pub other_length : (width i j : ℕ) (l : List ℕ) → length (cond (eqb j i) l (set_bit width i j l)) ≡ length l
other_length width i j l = by (eqb j i)
  where
    by : (c : Bool) → length (cond c l (set_bit width i j l)) ≡ length l
    by true = refl
    by false = length-set l (width * j + i / byte_bits) _

others-has : (i : ℕ) (l : List ℕ) (j : ℕ) → has (others i l) j ≡ flips (has l) i j
unfolding others has
others-has i [] j = sym (and_none (not (eqb i j)))
others-has i (k ∷ l) j = by (ℕ_discrete k i) (ℕ_discrete k j) (others-has i l j)
  where
    by : Dec (k ≡ i) → Dec (k ≡ j) → has (others i l) j ≡ flips (has l) i j → has (others i (k ∷ l)) j ≡ flips (has (k ∷ l)) i j
    by (yes e) (yes q) ih = rw (eq-eqb k i e) (ih ∙ rw (eq-eqb i j (sym e ∙ q)) refl)
    by (yes e) (no q) ih = rw (eq-eqb k i e, ne_eqb k j q) ih
    by (no e) (yes q) ih = rw (ne_eqb k i e, eq-eqb k j q, ne_eqb i j (λ x. e (q ∙ sym x))) refl
    by (no e) (no q) ih = rw (ne_eqb k i e, ne_eqb k j q) ih

-- the members of the column are those that i flips
pub others_column : (n i : ℕ) (m l : List ℕ) → i < n → nodes_below n m ≡ true → with_column n i (λ j. false) l ≡ l → set_bits (row_width n) i (others i m) l ≡ edited_list n i (has m) l
others_column n i m l h below clear = bits_column n i (flips (has m) i) (others i m) l h (λ j t. has_below n m j below (and_r (not (eqb i j)) (has m j) (rw (others-has i m j) at t))) (λ j a. others-has i m j) clear

-- an odd number of a list that rises is an odd number of its members
pub odd_members : (n low : ℕ) (s : ℕ → Bool) (l : List ℕ) → nodes_below n l ≡ true → rises low l ≡ true → odd_among s l ≡ parity n (λ k. s k && has l k)
unfolding odd_among has all
odd_members n low s [] below rise = sym (parity_none n _ (λ k h. and_none (s k)))
odd_members n low s (a ∷ l) below rise =
    let (b, c) = and_out (ltb a n) (nodes_below n l) below in
    let (d, e) = rises_out low a l rise in
    ap (λ (x : Bool). s a ⊕ x) (odd_members n (a + 1) s l c e) ∙ ap (λ (x : Bool). x ⊕ parity n (λ k. s k && has l k)) (sym (parity_one n a s (ltb→lt a n (from_true (ltb a n) b))))
    ∙ sym (parity-⊕ n (λ k. s k && eqb k a) (λ k. s k && has l k)) ∙ parity_ext n _ _ (λ k h. by k e (ℕ_discrete k a))
  where
    by : (k : ℕ) → rises (a + 1) l ≡ true → Dec (k ≡ a) → (s k && eqb k a) ⊕ (s k && has l k) ≡ s k && (eqb a k || has l k)
    by k e (yes q) = rw (q, eq-eqb a a refl, is_false (has l a) (λ t. absurd (omega (arith, rises_least (a + 1) l a e t))), and_none (s a), and_all (s a)) (⊕_none (s a))
    by k e (no q) = rw (ne_eqb k a q, ne_eqb a k (λ x. q (sym x)), and_none (s k)) refl

-- ---- a list, column by column: those of the nodes in p
abbrev list_of_some : (n : ℕ) (p : ℕ → Bool) (x : ℕ → ℕ → Bool) → List ℕ
list_of_some n p x = signal_list n (λ i j. p i && x i j)

module _ (n : ℕ) (p : ℕ → Bool) (x : ℕ → ℕ → Bool) where
  list_start : ((i j : ℕ) → p i && x i j ≡ false) → zeros (row_width n * n) ≡ list_of_some n p x
  list_start f = sym (bit_rows_none n) ∙ bit_rows_ext n _ _ (λ j i a b. sym (ap (λ (c : Bool). not (eqb i j) && c) (f i j) ∙ and_none (not (eqb i j))))

  list_end : ((i : ℕ) → p i ≡ true) → list_of_some n p x ≡ signal_list n x
  list_end f = bit_rows_ext n _ _ (λ j i a b. ap (λ (c : Bool). not (eqb i j) && (c && x i j)) (f i))

  -- a column that is not there yet is clear
  list_clear : (i : ℕ) → i < n → p i ≡ false → with_column n i (λ j. false) (list_of_some n p x) ≡ list_of_some n p x
  list_clear i h f = column_rows n i (λ j. false) _ h ∙ bit_rows_ext n _ _ (λ j v a b. by j v (ℕ_discrete v i))
    where
      by : (j v : ℕ) → Dec (v ≡ i) → cond (eqb v i) false (flips (λ j. p v && x v j) v j) ≡ flips (λ j. p v && x v j) v j
      by j v (yes e) = rw (eq-eqb v i e, e, f) (sym (and_none (not (eqb i j))))
      by j v (no g) = rw (ne_eqb v i g) refl

  -- and with it the next list
  list_next : (q : ℕ → Bool) (i : ℕ) (s : ℕ → Bool) → i < n → q i ≡ true → ((v : ℕ) → v ≢ i → q v ≡ p v) → s ≡ x i → edited_list n i s (list_of_some n p x) ≡ list_of_some n q x
  list_next q i s h now others e = edited_afresh n i s _ h ∙ list_ext n _ _ (λ v j a b. by v j (ℕ_discrete v i))
    where
      by : (v j : ℕ) → Dec (v ≡ i) → cond (eqb v i) s (λ j. p v && x v j) j ≡ q v && x v j
      by v j (yes d) = rw (d, eq-eqb i i refl, now, e) refl
      by v j (no d) = rw (ne_eqb v i d, others v d) refl

-- ---- entries, one after the other: all of them, and those that are left
pub record IsEntered (n : ℕ) (whole rest : List SetEntry) : Type 0 where
  pub below : all_entries (entry_below n) rest ≡ true
  pub rise : entries_rise 0 rest ≡ true
  pub same : (u v : ℕ) → T (entry_in rest u) → set_in whole u v ≡ set_in rest u v

-- the list of the nodes that are not left
abbrev pub list_up_to : (n : ℕ) (edge : ℕ → ℕ → Bool) (odd : Bool) (whole rest : List SetEntry) → List ℕ
list_up_to n edge odd whole rest = list_of_some n (λ u. not (entry_in rest u)) (λ u. flipped_by n edge odd (set_in whole u))

pub entered_start : (n : ℕ) (p : List ℕ) → IsEntriesFor n p → IsEntered n (listed (entries_of p)) (listed (entries_of p))
entered_start n p f = record { below = f.below; rise = f.rise; same = λ u v t. refl }

flips_none : (n : ℕ) (edge : ℕ → ℕ → Bool) (odd : Bool) (s : ℕ → Bool) (v : ℕ) → ((k : ℕ) → s k ≡ false) → flipped_by n edge odd s v ≡ false
flips_none n edge true s v f = parity_none n _ (λ k h. ap (λ (b : Bool). edge k v && b) (f k) ∙ and_none (edge k v))
flips_none n edge false s v f = f v

pub up_to_none : (n : ℕ) (edge : ℕ → ℕ → Bool) (odd : Bool) (whole : List SetEntry) → zeros (row_width n * n) ≡ list_up_to n edge odd whole whole
up_to_none n edge odd whole = list_start n (λ u. not (entry_in whole u)) (λ u. flipped_by n edge odd (set_in whole u)) (λ u v. by u v (entry_in whole u) refl)
  where
    by : (u v : ℕ) (b : Bool) → entry_in whole u ≡ b → not b && flipped_by n edge odd (set_in whole u) v ≡ false
    by u v true e = refl
    by u v false e = flips_none n edge odd (set_in whole u) v (λ k. no_entry_no_set whole u k e)

pub up_to_all : (n : ℕ) (edge : ℕ → ℕ → Bool) (odd : Bool) (whole : List SetEntry) → list_up_to n edge odd whole [] ≡ list_for n edge odd (set_in whole)
unfolding entry_in
up_to_all n edge odd whole = list_end n _ _ (λ u. refl)

rise_from : (low : ℕ) (es : List SetEntry) → entries_rise low es ≡ true → entries_rise 0 es ≡ true
rise_from low [] h = rise_none 0
rise_from low (e ∷ es) h = let (a, b, c) = rise_out low e es h in rise-cons 0 e es zero-le b ∙ c

-- the next entry
module _ (n : ℕ) (whole before rest : List SetEntry) (entry : SetEntry) (split : before ≡ entry ∷ rest) (s : IsEntered n whole before) where
  pub entry_below_lem : (entry.node < n) × (nodes_below n entry.set ≡ true)
  entry_below_lem = below_out n entry (each_out (entry_below n) entry rest (sym (ap (all_entries (entry_below n)) split) ∙ s.below)).0

  rise : (0 ≤ entry.node) × (rises 0 entry.set ≡ true) × (entries_rise (entry.node + 1) rest ≡ true)
  rise = rise_out 0 entry rest (sym (ap (entries_rise 0) split) ∙ s.rise)

  pub entry_rises : rises 0 entry.set ≡ true
  entry_rises = rise.1

  -- no entry behind it is of its node
  gone : entry_in rest entry.node ≡ false
  gone = entries_none (entry.node + 1) rest entry.node rise.2 (omega arith)

  here : entry_in before entry.node ≡ true
  unfolding entry_in
  here = rw split (rw (eq-eqb entry.node entry.node refl) refl)

  elsewhere : (u : ℕ) → u ≢ entry.node → entry_in before u ≡ entry_in rest u
  unfolding entry_in
  elsewhere u d = rw split (rw (ne_eqb entry.node u (λ q. d (sym q))) refl)

  own : set_in whole entry.node ≡ has entry.set
  unfolding set_in
  own = fun_ext (λ v. s.same entry.node v (rw here tt) ∙ rw split (rw (eq-eqb entry.node entry.node refl, no_entry_no_set rest entry.node v gone) (or_false (has entry.set v))))

  pub entered_next : IsEntered n whole rest
  unfolding set_in
  entered_next = record {
    below = (each_out (entry_below n) entry rest (sym (ap (all_entries (entry_below n)) split) ∙ s.below)).1;
    rise = rise_from (entry.node + 1) rest rise.2;
    same = λ u v t.
        let d : u ≢ entry.node = λ q. from_false (entry_in rest u) (ap (entry_in rest) q ∙ gone) t in
        s.same u v (rw (elsewhere u d) t) ∙ rw split (rw (ne_eqb entry.node u (λ q. d (sym q))) refl);
  }

  -- its column is clear, and with it the list goes on to the rest
  pub up_to_clear : (edge : ℕ → ℕ → Bool) (odd : Bool) → with_column n entry.node (λ v. false) (list_up_to n edge odd whole before) ≡ list_up_to n edge odd whole before
  up_to_clear edge odd = list_clear n (λ u. not (entry_in before u)) (λ u. flipped_by n edge odd (set_in whole u)) entry.node entry_below_lem.0 (ap not here)

  pub up_to_next : (edge : ℕ → ℕ → Bool) (odd : Bool) → edited_list n entry.node (flipped_by n edge odd (has entry.set)) (list_up_to n edge odd whole before) ≡ list_up_to n edge odd whole rest
  up_to_next edge odd = list_next n _ _ (λ u. not (entry_in rest u)) entry.node _ entry_below_lem.0 (ap not gone) (λ u d. ap not (sym (elsewhere u d))) (ap (flipped_by n edge odd) (sym own))

-- the nodes below n without i, of those that a set can have
pub flippable : (n i j : ℕ) (t all less s : ℕ → Bool) → n ≤ capacity → j < n → all ≡ (λ u. ltb u n && leb u highest) → less ≡ (λ u. all u && not (eqb u i)) → s ≡ (λ u. t u && less u) → s j ≡ flips t i j
flippable n i j t all less s few h a b c = rw (c, b, a, lt-ltb j n h, le-leb j highest (omega arith)) (and_comm (t j) (not (eqb j i)) ∙ ap (λ (b : Bool). not b && t j) (eqb_comm j i))

pub flippable_below : (n i : ℕ) (t all less s : ℕ → Bool) → all ≡ (λ u. ltb u n && leb u highest) → less ≡ (λ u. all u && not (eqb u i)) → s ≡ (λ u. t u && less u) → (j : ℕ) → T (s j) → j < n
flippable_below n i t all less s a b c j w =
    let u : T (t j && ((ltb j n && leb j highest) && not (eqb j i))) = rw (c, b, a) at w in
    ltb→lt j n (and_l (ltb j n) (leb j highest) (and_l (ltb j n && leb j highest) (not (eqb j i)) (and_r (t j) _ u)))

-- ---- the lists of a flow that was read, by a graph that was loaded
pub list_from : (j : Job) (set edge : ℕ → ℕ → Bool) (odd : Bool) → ((u v : ℕ) → edge u v ≡ j.edge u v) → list_for j.nodes edge odd set ≡ list_for j.nodes j.edge odd set
list_from j set edge odd f = ap (λ (g : ℕ → ℕ → Bool). list_for j.nodes g odd set) (fun_ext (λ u. fun_ext (λ v. f u v)))

-- ---- buffers
pub zeros_front : (k m : ℕ) → k ≤ m → take k (zeros m) ≡ zeros k
zeros_front k m h = by k m h
  where
    by : (k m : ℕ) → k ≤ m → take {A = ℕ} k (replicate m 0) ≡ replicate k 0
    by zero m h = refl
    by (suc k) zero h = absurd (omega arith)
    by (suc k) (suc m) h = ap (λ (l : List ℕ). 0 ∷ l) (by k m (omega arith))

-- a list at the front of a buffer
pub front_is : (k : ℕ) (l r : List ℕ) → length l ≡ k → take k (l ++ r) ≡ l
front_is k l r e = ap (λ (n : ℕ). take n (l ++ r)) (sym e) ∙ take-append_seam l r
