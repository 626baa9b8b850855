-- What adding one row of bytes to another does to the matrix. Serves Steps.
use mathlib.Core.Path.{◌≡◌, refl, sym, ap, ap₂, ◌∙◌}
use mathlib.Core.Logic.{◌≢◌, ◌⊎◌, inl, inr, ⊎_elim}
use mathlib.Core.Bool.{Bool, cond}
use mathlib.Core.List.{List}
use Prim.Native.Nat.{ℕ, zero, suc, ◌+◌, ◌-◌, ◌*◌, ◌/◌, ◌%◌, ◌<◌, ◌≤◌}
use native.Mathlib.Nat.{mul-le-mul_right, suc-mul}
use native.Mathlib.Decide.{ℕ_discrete, dec_lt}
use native.Mathlib.Omega.{arith, ne_cases}
use borrow.Author.Tests.{eq-eqb, ne_eqb, le-leb, lt-leb, lt-ltb, le-ltb}
use lib.Bits.{bit_xor}
use lib.Dec.{eqb}
use lib.ListN.{get_or, length, set, length-set, get_or-eq_default}
use lib.Seq.{get_or-set_same, get_or-set_other}
use Rattle.nodes.specs.Bit.{bit, ◌⊕◌}
use Rattle.nodes.proofs.Bit.{bit-xor}
use Rattle.nodes.specs.Lists.{list_of}
use Rattle.nodes.proofs.Lists.{length-list_of, get_or-list_of, is_list_of}
use Rattle.solver.specs.WorkMatrix.{entry_of}
use Rattle.solver.specs.Steps.{turns, xor_at, xor_row}

-- ---- the loop that adds n bytes from s on to those from d on, where the two don't overlap
abbrev pub xor_byte : ℕ → ℕ → ℕ → List ℕ → List ℕ
xor_byte d s j l = set l (d + j) (bit_xor (get_or l (d + j) 0) (get_or l (s + j) 0))

module _ (l : List ℕ) (d s n : ℕ) (hd : d + n ≤ length l) (hs : s + n ≤ length l) (apart : (d + n ≤ s) ⊎ (s + n ≤ d)) where
  after : ℕ → List ℕ
  after m = turns (xor_byte d s) m l

  after-length : (m : ℕ) → length (after m) ≡ length l
  unfolding turns after
  after-length zero = refl
  after-length (suc m) = length-set (after m) (d + m) _ ∙ after-length m

  after_out : (m k : ℕ) → (d ≤ k → d + m ≤ k) → get_or (after m) k 0 ≡ get_or l k 0
  unfolding turns after
  after_out zero k o = refl
  after_out (suc m) k o =
      get_or-set_other (after m) (d + m) k _ 0 (λ e. absurd (omega (arith, o (omega arith))))
      ∙ after_out m k (λ g. omega (arith, o g))

  after_in : (m : ℕ) → m ≤ n → (k : ℕ) → d ≤ k → k < d + m → get_or (after m) k 0 ≡ bit_xor (get_or l k 0) (get_or l (s + (k - d)) 0)
  unfolding turns after
  after_in zero g k lo hi = absurd (omega arith)
  after_in (suc m) g k lo hi = by (λ q. after_in m (omega arith) k lo q) (ℕ_discrete k (d + m))
    where
      by : (k < d + m → get_or (after m) k 0 ≡ bit_xor (get_or l k 0) (get_or l (s + (k - d)) 0)) → Dec (k ≡ d + m)
          → get_or (xor_byte d s m (after m)) k 0 ≡ bit_xor (get_or l k 0) (get_or l (s + (k - d)) 0)
      by ih (yes e) =
          let there : d + m < length (after m) = omega (arith, after-length m) in
          let from : s + m ≡ s + (k - d) = omega arith in
          ap (λ (i : ℕ). get_or (xor_byte d s m (after m)) i 0) e
          ∙ get_or-set_same (after m) (d + m) _ 0 there
          ∙ ap₂ bit_xor (after_out m (d + m) (λ q. omega arith) ∙ ap (λ (i : ℕ). get_or l i 0) (sym e))
          (after_out m (s + m) (λ q. ⊎_elim (λ a. omega arith) (λ a. omega arith) apart) ∙ ap (λ (i : ℕ). get_or l i 0) from)
      by ih (no p) = get_or-set_other (after m) (d + m) k _ 0 p ∙ ih (omega (arith, p))

  -- which side of the test k is on
  inside : (k : ℕ) → d ≤ k → k < d + n → xor_at l d s n k ≡ bit_xor (get_or l k 0) (get_or l (s + (k - d)) 0)
  inside k lo hi = simp (le-leb _ _ lo, lt-ltb _ _ hi)

  before : (k : ℕ) → k < d → xor_at l d s n k ≡ get_or l k 0
  before k h = simp (lt-leb _ _ h)

  beyond : (k : ℕ) → d + n ≤ k → xor_at l d s n k ≡ get_or l k 0
  beyond k h =
      let lo : d ≤ k = omega arith in
      simp (le-leb _ _ lo, le-ltb _ _ h)

  part_done : after n ≡ list_of (length l) (xor_at l d s n)
  part_done = is_list_of (after n) (length l) (xor_at l d s n) (after-length n) (λ k h. by k (dec_lt k d) (dec_lt k (d + n)))
    where
      by : (k : ℕ) → Dec (k < d) → Dec (k < d + n) → get_or (after n) k 0 ≡ xor_at l d s n k
      by k (yes a) b = after_out n k (λ g. absurd (omega arith)) ∙ sym (before k a)
      by k (no a) (yes b) = after_in n (omega arith) k (omega arith) b ∙ sym (inside k (omega arith) b)
      by k (no a) (no b) = after_out n k (λ g. omega arith) ∙ sym (beyond k (omega arith))

  -- past the end too
  part_at : (k : ℕ) → get_or (list_of (length l) (xor_at l d s n)) k 0 ≡ xor_at l d s n k
  part_at k = by (dec_lt k (length l))
    where
      by : Dec (k < length l) → get_or (list_of (length l) (xor_at l d s n)) k 0 ≡ xor_at l d s n k
      by (yes h) = get_or-list_of (length l) (xor_at l d s n) k h
      by (no h) =
          get_or-eq_default (list_of (length l) (xor_at l d s n)) 0 {n = k} (omega (arith, length-list_of (length l) (xor_at l d s n)))
          ∙ sym (beyond k (omega arith) ∙ get_or-eq_default l 0 {n = k} (omega arith))

-- ---- rows of w bytes
pub rows_apart : (w a b : ℕ) → a < b → a * w + w ≤ b * w
rows_apart w a b h = omega (arith, suc-mul a w, mul-le-mul_right w h)

either_apart : (w a b : ℕ) → a ≢ b → (a * w + w ≤ b * w) ⊎ (b * w + w ≤ a * w)
either_apart w a b n = ne_cases a b ((a * w + w ≤ b * w) ⊎ (b * w + w ≤ a * w)) n (λ l. inl (rows_apart w a b l)) (λ l. inr (rows_apart w b a l))

pub length_xor : (w : ℕ) (l : List ℕ) (d s : ℕ) → length (xor_row w l d s) ≡ length l
unfolding xor_row
length_xor w l d s = length-list_of (length l) (xor_at l (d * w) (s * w) w)

-- what the loop of `xor_row` makes
pub xor_done : (w : ℕ) (l : List ℕ) (d s : ℕ) → d * w + w ≤ length l → s * w + w ≤ length l → d ≢ s → turns (xor_byte (d * w) (s * w)) w l ≡ xor_row w l d s
unfolding xor_row after
xor_done w l d s hd hs n = part_done l (d * w) (s * w) w hd hs (either_apart w d s n)

-- row s is added to row d, bit by bit
pub entry_xor : (w : ℕ) (l : List ℕ) (d s : ℕ) → d * w + w ≤ length l → s * w + w ≤ length l → d ≢ s → (i k : ℕ) → k < 8 * w
    → entry_of w (xor_row w l d s) i k ≡ cond (eqb i d) (entry_of w l d k ⊕ entry_of w l s k) (entry_of w l i k)
unfolding entry_of xor_row
entry_xor w l d s hd hs n i k g = by (ℕ_discrete i d)
  where
    a : (d * w + w ≤ s * w) ⊎ (s * w + w ≤ d * w)
    a = either_apart w d s n

    at : (j : ℕ) → get_or (xor_row w l d s) j 0 ≡ xor_at l (d * w) (s * w) w j
    at j = part_at l (d * w) (s * w) w hd hs a j

    by : Dec (i ≡ d) → bit (get_or (xor_row w l d s) (i * w + k / 8) 0) (k % 8) ≡ cond (eqb i d) (entry_of w l d k ⊕ entry_of w l s k) (entry_of w l i k)
    by (yes e) =
        let p : i * w + k / 8 ≡ d * w + k / 8 = ap (λ (j : ℕ). j * w + k / 8) e in
        let m : s * w + (d * w + k / 8 - d * w) ≡ s * w + k / 8 = omega arith in
        ap (λ (j : ℕ). bit (get_or (xor_row w l d s) j 0) (k % 8)) p
        ∙ ap (λ (x : ℕ). bit x (k % 8)) (at (d * w + k / 8) ∙ inside l (d * w) (s * w) w hd hs a (d * w + k / 8) (omega arith) (omega arith))
        ∙ bit-xor (get_or l (d * w + k / 8) 0) (get_or l (s * w + (d * w + k / 8 - d * w)) 0) (k % 8)
        ∙ ap (λ (j : ℕ). bit (get_or l (d * w + k / 8) 0) (k % 8) ⊕ bit (get_or l j 0) (k % 8)) m
        ∙ ap (λ (b : Bool). cond b (entry_of w l d k ⊕ entry_of w l s k) (entry_of w l i k)) (sym (eq-eqb i d e))
    by (no ne) =
        ap (λ (x : ℕ). bit x (k % 8))
        (at (i * w + k / 8)
        ∙ ⊎_elim (λ q. before l (d * w) (s * w) w hd hs a (i * w + k / 8) (omega arith)) (λ q. beyond l (d * w) (s * w) w hd hs a (i * w + k / 8) (omega arith)) (either_apart w i d ne))
        ∙ ap (λ (b : Bool). cond b (entry_of w l d k ⊕ entry_of w l s k) (entry_of w l i k)) (sym (ne_eqb i d ne))
