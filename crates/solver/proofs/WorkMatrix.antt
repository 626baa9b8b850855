-- The bytes of a row: its first bit, its bits beyond the width, and a row of bits as bytes.
use mathlib.Core.Path.{◌≡◌, sym, ap, ap₂, ◌∙◌, subst}
use mathlib.Core.Logic.{◌≢◌, ◌⊎◌, inl, inr}
use mathlib.Core.Bool.{Bool, true, false, not, ◌||◌}
use mathlib.Core.List.{List}
use Prim.Native.Nat.{ℕ, ◌+◌, ◌-◌, ◌*◌, ◌/◌, ◌%◌, ◌^◌, ◌<◌, ◌≤◌}
use native.Mathlib.Nat.{mod-lt, lt_of_le_of_lt, div-le_self, zero-mul}
use native.Mathlib.Decide.{ℕ_discrete}
use native.Mathlib.Omega.{arith}
use lib.Bits.{bit_or, or_lt}
use lib.Count.{count_trailing_zeros}
use lib.Dec.{T, eqb, ltb, lt→ltb}
use lib.ListN.{get_or, length, length-replicate, length-set}
use lib.Pow.{pow_pos, pow-lt, split, shr-shr}
use lib.Seq.{get_or-set_same, get_or-set_other}
use Rattle.nodes.specs.Bit.{bit, is_one, digits}
use Rattle.nodes.specs.Lists.{zeros}
use Rattle.nodes.specs.Row.{lowest, all_below}
use Rattle.nodes.proofs.Logic.{is_false, from_false, not_in, not_out, or_l, or_r, or_out, or_false, eqb_no, eqb_yes, lt_or_ge}
use Rattle.nodes.proofs.Row.{all_out, ltb_no}
use Rattle.nodes.proofs.Members.{lowest_none, lowest_here, lowest_unique}
use Rattle.nodes.proofs.Bit.{bit_zero, bit_past, bit_ext, bit-or, bit-pow}
use Rattle.nodes.proofs.Digits.{trailing_lowest, digits-lt, bit-digits, digits_is}
use Rattle.solver.specs.Reduced.{lead}
use Rattle.solver.specs.WorkMatrix.{entry_of, bytes_of}
use Rattle.solver.specs.Steps.{set_bit}
use Rattle.nodes.proofs.Lists.{length-list_of, get_or-list_of, is_list_of, zeros_at}

-- ---- bytes
bit_shr : (a s k : ℕ) → bit (a / 2 ^ s) k ≡ bit a (s + k)
unfolding bit
bit_shr a s k = ap (λ (x : ℕ). is_one (x % 2)) (shr-shr a s k)

-- a byte without a digit from s on
shifted_out : (b s : ℕ) → b < 2 ^ 8 → ((t : ℕ) → s ≤ t → t < 8 → bit b t ≡ false) → b / 2 ^ s ≡ 0
shifted_out b s h f =
    bit_ext 8 (b / 2 ^ s) 0 (lt_of_le_of_lt (div-le_self b (2 ^ s)) h) (pow_pos 8)
    (λ t l. bit_shr b s t ∙ at t (lt_or_ge (s + t) 8) ∙ sym (bit_zero t))
  where
    at : (t : ℕ) → (s + t < 8) ⊎ (8 ≤ s + t) → bit b (s + t) ≡ false
    at t (inl l) = f (s + t) (omega arith) l
    at t (inr g) = bit_past 8 b (s + t) h g

shifted_below : (b s : ℕ) → b / 2 ^ s ≡ 0 → b < 2 ^ s
shifted_below b s e =
    let z : b / 2 ^ s * 2 ^ s ≡ 0 = rw e (zero-mul (2 ^ s)) in
    let p : b / 2 ^ s * 2 ^ s + b % 2 ^ s ≡ b = split b s in
    let l : b % 2 ^ s < 2 ^ s = mod-lt b (pow_pos s) in
    omega arith

-- a byte that is not 0 has a digit, and its lowest is what the machine counts
byte_lowest : (b : ℕ) → b < 2 ^ 8 → b ≢ 0 → count_trailing_zeros 8 b < 8
byte_lowest b h n = subst (λ (x : ℕ). x < 8) (sym (trailing_lowest 8 b)) (by (lt_or_ge (lowest 8 (bit b)) 8))
  where
    by : (lowest 8 (bit b) < 8) ⊎ (8 ≤ lowest 8 (bit b)) → lowest 8 (bit b) < 8
    by (inl l) = l
    by (inr g) = absurd (n (bit_ext 8 b 0 h (pow_pos 8) (λ t l. lowest_none 8 (bit b) t (omega arith) ∙ sym (bit_zero t))))

module _ (w : ℕ) (l : List ℕ) (row : ℕ) where
  -- the bits of byte q
  entry_byte : (q t : ℕ) → t < 8 → entry_of w l row (8 * q + t) ≡ bit (get_or l (row * w + q) 0) t
  unfolding entry_of
  entry_byte q t h =
      let a : (8 * q + t) / 8 ≡ q = omega arith in
      let b : (8 * q + t) % 8 ≡ t = omega arith in
      ap₂ (λ (x y : ℕ). bit (get_or l (row * w + x) 0) y) a b

  at_byte : (q k : ℕ) → 8 * q ≤ k → k < 8 * (q + 1) → entry_of w l row k ≡ bit (get_or l (row * w + q) 0) (k - 8 * q)
  at_byte q k lo hi =
      let e : k ≡ 8 * q + (k - 8 * q) = omega arith in
      ap (entry_of w l row) e ∙ entry_byte q (k - 8 * q) (omega arith)

  -- ---- the row's first bit: none in the bytes before q
  abbrev pub NoneBefore : ℕ → Type 0
  NoneBefore n = (k : ℕ) → k < n → entry_of w l row k ≡ false

  pub none_start : NoneBefore (8 * 0)
  none_start k h = absurd (omega arith)

  pub none_more : (q : ℕ) → NoneBefore (8 * q) → get_or l (row * w + q) 0 ≡ 0 → NoneBefore (8 * (q + 1))
  none_more q f e k h = by (lt_or_ge k (8 * q))
    where
      by : (k < 8 * q) ⊎ (8 * q ≤ k) → entry_of w l row k ≡ false
      by (inl g) = f k g
      by (inr g) = at_byte q k g h ∙ ap (λ (x : ℕ). bit x (k - 8 * q)) e ∙ bit_zero (k - 8 * q)

  pub lead_none : (cols : ℕ) → NoneBefore (8 * w) → cols ≤ 8 * w → cols ≡ lead (entry_of w l) cols row
  lead_none cols f h = sym (lowest_unique cols (entry_of w l row) cols (omega arith) (λ k g. f k (omega arith)) (λ g. absurd (omega arith)))

  module _ (q b : ℕ) (e : get_or l (row * w + q) 0 ≡ b) (f : NoneBefore (8 * q)) (h : b < 2 ^ 8) (n : b ≢ 0) where
    small : count_trailing_zeros 8 b < 8
    small = byte_lowest b h n

    before : NoneBefore (8 * q + count_trailing_zeros 8 b)
    before k g = by (lt_or_ge k (8 * q))
      where
        by : (k < 8 * q) ⊎ (8 * q ≤ k) → entry_of w l row k ≡ false
        by (inl p) = f k p
        by (inr p) =
            at_byte q k p (omega (arith, small)) ∙ ap (λ (x : ℕ). bit x (k - 8 * q)) e
            ∙ lowest_none 8 (bit b) (k - 8 * q) (omega (arith, trailing_lowest 8 b))

    here : entry_of w l row (8 * q + count_trailing_zeros 8 b) ≡ true
    here =
        entry_byte q (count_trailing_zeros 8 b) small ∙ ap₂ bit e (trailing_lowest 8 b)
        ∙ lowest_here 8 (bit b) (omega (arith, small, trailing_lowest 8 b))

    pub lead_inside : (cols : ℕ) → 8 * q + count_trailing_zeros 8 b < cols → 8 * q + count_trailing_zeros 8 b ≡ lead (entry_of w l) cols row
    lead_inside cols g = sym (lowest_unique cols (entry_of w l row) (8 * q + count_trailing_zeros 8 b) (omega arith) before (λ u. here))

    pub lead_outside : (cols : ℕ) → cols ≤ 8 * q + count_trailing_zeros 8 b → cols ≡ lead (entry_of w l) cols row
    lead_outside cols g = sym (lowest_unique cols (entry_of w l row) cols (omega arith) (λ k u. before k (omega arith)) (λ u. absurd (omega arith)))

  -- ---- the row's bits beyond the width
  module _ (width : ℕ) where
    abbrev pub within : ℕ → Bool
    within k = ltb k width || not (entry_of w l row k)

    abbrev pub EndsBefore : ℕ → Type 0
    EndsBefore n = (k : ℕ) → k < n → T (within k)

    pub ends_start : EndsBefore (8 * (width / 8))
    ends_start k h = or_l (ltb k width) (not (entry_of w l row k)) (lt→ltb k width (omega arith))

    pub ends_more : (q s : ℕ) → s ≡ width - 8 * q → get_or l (row * w + q) 0 / 2 ^ s ≡ 0 → EndsBefore (8 * q) → EndsBefore (8 * (q + 1))
    ends_more q s e z f k h = by (lt_or_ge k (8 * q)) (lt_or_ge k width)
      where
        by : (k < 8 * q) ⊎ (8 * q ≤ k) → (k < width) ⊎ (width ≤ k) → T (within k)
        by (inl g) d = f k g
        by (inr g) (inl u) = or_l (ltb k width) (not (entry_of w l row k)) (lt→ltb k width u)
        by (inr g) (inr u) =
            or_r (ltb k width) (not (entry_of w l row k))
            (not_in (entry_of w l row k) (from_false (entry_of w l row k)
            (at_byte q k g h ∙ bit_past s (get_or l (row * w + q) 0) (k - 8 * q) (shifted_below (get_or l (row * w + q) 0) s z) (omega arith))))

    pub ends_not : (q s : ℕ) → s ≡ width - 8 * q → q < w → get_or l (row * w + q) 0 < 2 ^ 8 → get_or l (row * w + q) 0 / 2 ^ s ≢ 0 → all_below (8 * w) within ≡ false
    ends_not q s e h b n =
        is_false (all_below (8 * w) within)
        (λ a. n (shifted_out (get_or l (row * w + q) 0) s b
        (λ t lo hi. sym (entry_byte q t hi) ∙ is_false (entry_of w l row (8 * q + t)) (bad t lo (or_out (ltb (8 * q + t) width) (not (entry_of w l row (8 * q + t))) (all_out (8 * w) within a (8 * q + t) (omega arith)))))))
      where
        bad : (t : ℕ) → s ≤ t → T (ltb (8 * q + t) width) ⊎ T (not (entry_of w l row (8 * q + t))) → T (entry_of w l row (8 * q + t)) → ⊥
        bad t lo (inl a) c = from_false (ltb (8 * q + t) width) (ltb_no (8 * q + t) width (omega arith)) a
        bad t lo (inr a) c = not_out (entry_of w l row (8 * q + t)) a c

-- ---- a row of bits as bytes
pub byte_at : (w : ℕ) (x : ℕ → Bool) (q : ℕ) → q < w → get_or (bytes_of w x) q 0 ≡ digits 8 (λ t. x (8 * q + t))
byte_at w x q h = get_or-list_of w (λ q. digits 8 (λ t. x (8 * q + t))) q h

pub bytes_length : (w : ℕ) (x : ℕ → Bool) → length (bytes_of w x) ≡ w
bytes_length w x = length-list_of w (λ q. digits 8 (λ t. x (8 * q + t)))

-- a list of w bytes with the digits of x
pub bytes_is : (w : ℕ) (l : List ℕ) (x : ℕ → Bool) → length l ≡ w → ((q : ℕ) → q < w → get_or l q 0 < 2 ^ 8)
    → ((q t : ℕ) → q < w → t < 8 → bit (get_or l q 0) t ≡ x (8 * q + t)) → l ≡ bytes_of w x
bytes_is w l x e b f = is_list_of l w (λ q. digits 8 (λ t. x (8 * q + t))) e (λ q h. digits_is 8 (get_or l q 0) (λ t. x (8 * q + t)) (b q h) (λ t g. f q t h g))

pub bytes_ext : (w : ℕ) (x y : ℕ → Bool) → ((k : ℕ) → k < 8 * w → x k ≡ y k) → bytes_of w x ≡ bytes_of w y
bytes_ext w x y f =
    bytes_is w (bytes_of w x) y (bytes_length w x) (λ q h. subst (λ (n : ℕ). n < 2 ^ 8) (sym (byte_at w x q h)) (digits-lt 8 (λ t. x (8 * q + t))))
    (λ q t h g. ap (λ (n : ℕ). bit n t) (byte_at w x q h) ∙ bit-digits 8 (λ t. x (8 * q + t)) t g ∙ f (8 * q + t) (omega arith))

pub bytes_none : (w : ℕ) → zeros w ≡ bytes_of w (λ k. false)
bytes_none w =
    bytes_is w (zeros w) (λ k. false) (length-replicate {A = ℕ} w 0) (λ q h. subst (λ (n : ℕ). n < 2 ^ 8) (sym (zeros_at w q)) (pow_pos 8))
    (λ q t h g. ap (λ (n : ℕ). bit n t) (zeros_at w q) ∙ bit_zero t)

-- bit k is set
pub bytes_with : (w : ℕ) (x : ℕ → Bool) (k : ℕ) → k < 8 * w → set_bit (bytes_of w x) k ≡ bytes_of w (λ j. x j || eqb j k)
bytes_with w x k h =
    bytes_is w (set_bit l k) (λ j. x j || eqb j k) (length-set l (k / 8) v ∙ bytes_length w x)
    (λ q g. small q g (ℕ_discrete q (k / 8))) (λ q t g u. at q t g u (ℕ_discrete q (k / 8)))
  where
    l : List ℕ
    l = bytes_of w x

    v : ℕ
    v = bit_or (get_or l (k / 8) 0) (2 ^ (k % 8))

    there : k / 8 < length l
    there = omega (arith, bytes_length w x)

    byte : (q : ℕ) → q < w → get_or l q 0 < 2 ^ 8
    byte q g = subst (λ (n : ℕ). n < 2 ^ 8) (sym (byte_at w x q g)) (digits-lt 8 (λ t. x (8 * q + t)))

    small : (q : ℕ) → q < w → Dec (q ≡ k / 8) → get_or (set_bit l k) q 0 < 2 ^ 8
    small q g (yes e) =
        subst (λ (n : ℕ). n < 2 ^ 8) (sym (ap (λ (i : ℕ). get_or (set_bit l k) i 0) e ∙ get_or-set_same l (k / 8) v 0 there))
        (or_lt 8 (get_or l (k / 8) 0) (2 ^ (k % 8)) (byte (k / 8) (omega arith)) (pow-lt {i = k % 8} {j = 8} (omega arith)))
    small q g (no n) = subst (λ (n : ℕ). n < 2 ^ 8) (sym (get_or-set_other l (k / 8) q v 0 n)) (byte q g)

    was : (q t : ℕ) → q < w → t < 8 → bit (get_or l q 0) t ≡ x (8 * q + t)
    was q t g u = ap (λ (n : ℕ). bit n t) (byte_at w x q g) ∙ bit-digits 8 (λ t. x (8 * q + t)) t u

    at : (q t : ℕ) → q < w → t < 8 → Dec (q ≡ k / 8) → bit (get_or (set_bit l k) q 0) t ≡ (x (8 * q + t) || eqb (8 * q + t) k)
    at q t g u (yes e) =
        ap (λ (i : ℕ). bit (get_or (set_bit l k) i 0) t) e ∙ ap (λ (n : ℕ). bit n t) (get_or-set_same l (k / 8) v 0 there)
        ∙ bit-or (get_or l (k / 8) 0) (2 ^ (k % 8)) t
        ∙ ap₂ ◌||◌ (ap (λ (i : ℕ). bit (get_or l i 0) t) (sym e) ∙ was q t g u) (bit-pow (k % 8) t ∙ same (ℕ_discrete t (k % 8)))
      where
        same : Dec (t ≡ k % 8) → eqb t (k % 8) ≡ eqb (8 * q + t) k
        same (yes p) = let z : 8 * q + t ≡ k = omega arith in rw (p, eqb_yes (k % 8)) (sym (ap (λ (i : ℕ). eqb i k) (rw p at z) ∙ eqb_yes k))
        same (no p) = eqb_no t (k % 8) p ∙ sym (eqb_no (8 * q + t) k (λ z. p (omega arith)))
    at q t g u (no n) =
        ap (λ (i : ℕ). bit i t) (get_or-set_other l (k / 8) q v 0 n) ∙ was q t g u
        ∙ sym (ap (λ (b : Bool). x (8 * q + t) || b) (eqb_no (8 * q + t) k (λ z. n (omega arith))) ∙ or_false (x (8 * q + t)))
