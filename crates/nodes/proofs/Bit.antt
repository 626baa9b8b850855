-- The laws of `bit`: what each operation on words does at each place.
use mathlib.Core.Path.{◌≡◌, refl, sym, ap, ap₂, ◌∙◌, subst}
use mathlib.Core.Bool.{Bool, true, false, not, ◌&&◌, ◌||◌, false≢true, true≢false}
use Prim.Native.Nat.{ℕ, zero, suc, ◌+◌, ◌-◌, ◌*◌, ◌/◌, ◌%◌, ◌^◌, ◌≤◌, ◌<◌, suc-le-suc}
use mathlib.Core.Logic.{◌≢◌, ◌⊎◌, inl, inr}
use native.Mathlib.Nat.{mod-lt, mod-eq_of_lt, div-eq_of_lt, div_self, zero-lt-suc, le_of_suc-le-suc, not-suc-le-zero, add_comm, add_assoc, lt_of_lt_of_le, pow-suc, mul-mod_left, mul-div_cancel, le_dest, div-one, one-mul, zero-mul, add-zero, suc-pred-eq_of_pos}
use native.Mathlib.Numerals.{one-add, add-one}
use lib.Arith.{lt-one}
use native.Mathlib.Omega.{arith, ne_cases}
use borrow.Author.Tests.{eq-eqb, ne_eqb}
use native.Mathlib.Decide.{ℕ_discrete}
use lib.Dec.{T, eqb, ltb, lit<, eqb→eq, eqb_refl, eqb-suc-zero}
use lib.Pow.{pow_pos, split, pow-lt, pow_mono, pow-add, shr-shr, shr_lt, high, low, ones_split, ones_lt}
use lib.Bits.{bit_and, bit_or, bit_xor, and_shr, or_shr, xor_shr, and_mod, or_mod, xor_mod, and_mask, xor_add_and, and_block, and_zero_r}
use Rattle.nodes.specs.Bit.{bit, is_one, ◌⊕◌}
use Rattle.nodes.specs.Row.{any_below, all_below}
use Rattle.nodes.proofs.Logic.{is_true, is_false, from_false, beq_eq, dec, not_out, lt_or_ge, ⊕_all, ⊕_self, ⊕_eq}
use Rattle.nodes.proofs.Row.{any_in, any_none, all_in, all_out, ltb_yes, ltb_no}

two : 0 < 2
two = zero-lt-suc 1

-- ---- one digit
pub one_digit : (P : ℕ → Type 0) → P 0 → P 1 → (x : ℕ) → x < 2 → P x
one_digit P p q zero h = p
one_digit P p q (suc zero) h = q
one_digit P p q (suc (suc x)) h = absurd (not-suc-le-zero (le_of_suc-le-suc (le_of_suc-le-suc h)))

two_digits : (P : ℕ → ℕ → Type 0) → P 0 0 → P 0 1 → P 1 0 → P 1 1 → (x y : ℕ) → x < 2 → y < 2 → P x y
two_digits P a b c d x y hx hy =
    one_digit (λ (u : ℕ). P u y) (one_digit (λ (v : ℕ). P 0 v) a b y hy) (one_digit (λ (v : ℕ). P 1 v) c d y hy) x hx

-- ---- an operation on words that shifts and masks pass through acts on each place apart
module _ (op : ℕ → ℕ → ℕ) (on : Bool → Bool → Bool)
    (shr : (a b k : ℕ) → op a b / 2 ^ k ≡ op (a / 2 ^ k) (b / 2 ^ k))
    (low : (a b k : ℕ) → op a b % 2 ^ k ≡ op (a % 2 ^ k) (b % 2 ^ k))
    (digit : (x y : ℕ) → x < 2 → y < 2 → is_one (op x y) ≡ on (is_one x) (is_one y)) where
  bit_op : (a b k : ℕ) → bit (op a b) k ≡ on (bit a k) (bit b k)
  unfolding bit
  bit_op a b k =
      ap (λ (n : ℕ). is_one (n % 2)) (shr a b k) ∙ ap is_one (low (a / 2 ^ k) (b / 2 ^ k) 1)
      ∙ digit (a / 2 ^ k % 2) (b / 2 ^ k % 2) (mod-lt (a / 2 ^ k) two) (mod-lt (b / 2 ^ k) two)

pub bit-and : (a b k : ℕ) → bit (bit_and a b) k ≡ (bit a k && bit b k)
bit-and = bit_op bit_and ◌&&◌ and_shr and_mod (two_digits (λ (x y : ℕ). is_one (bit_and x y) ≡ (is_one x && is_one y)) refl refl refl refl)

pub bit-or : (a b k : ℕ) → bit (bit_or a b) k ≡ (bit a k || bit b k)
bit-or = bit_op bit_or ◌||◌ or_shr or_mod (two_digits (λ (x y : ℕ). is_one (bit_or x y) ≡ (is_one x || is_one y)) refl refl refl refl)

pub bit-xor : (a b k : ℕ) → bit (bit_xor a b) k ≡ bit a k ⊕ bit b k
bit-xor = bit_op bit_xor ◌⊕◌ xor_shr xor_mod (two_digits (λ (x y : ℕ). is_one (bit_xor x y) ≡ is_one x ⊕ is_one y) refl refl refl refl)

-- ---- the place k, shifted down and masked

pub bit_zero : (k : ℕ) → bit 0 k ≡ false
unfolding bit
bit_zero k = ap (λ (n : ℕ). is_one (n % 2)) (div-eq_of_lt (pow_pos k))

-- no digit past a number's width
pub bit_past : (w n k : ℕ) → n < 2 ^ w → w ≤ k → bit n k ≡ false
unfolding bit
bit_past w n k h l = ap (λ (x : ℕ). is_one (x % 2)) (div-eq_of_lt (lt_of_lt_of_le h (pow_mono l)))

-- ---- a word with one digit
pub bit-pow_same : (k : ℕ) → bit (2 ^ k) k ≡ true
unfolding bit
bit-pow_same k = ap (λ (x : ℕ). is_one (x % 2)) (div_self (pow_pos k))

above : (j k d : ℕ) → suc k + d ≡ j → 2 ^ j / 2 ^ k % 2 ≡ 0
above j k d e =
    ap (λ (x : ℕ). 2 ^ x / 2 ^ k % 2) (sym e ∙ omega arith ∙ add_comm k (suc d))
    ∙ ap (λ (x : ℕ). x / 2 ^ k % 2) (pow-add 2 (suc d) k)
    ∙ ap (λ (x : ℕ). x % 2) (mul-div_cancel (2 ^ suc d) (pow_pos k))
    ∙ ap (λ (x : ℕ). x % 2) (pow-suc 2 d)
    ∙ mul-mod_left (2 ^ d) 2

pub bit-pow_other : (j k : ℕ) → j ≢ k → bit (2 ^ j) k ≡ false
unfolding bit
bit-pow_other j k n =
    ne_cases j k (is_one (2 ^ j / 2 ^ k % 2) ≡ false) n
    (λ l. ap (λ (x : ℕ). is_one (x % 2)) (div-eq_of_lt (pow-lt l)))
    (λ l. ap is_one (above j k (le_dest l).0 (le_dest l).1))

-- ---- the complement, in a width
pub not_xor : (w a : ℕ) → a < 2 ^ w → (2 ^ w - 1) - a ≡ bit_xor a (2 ^ w - 1)
not_xor w a h = omega (arith, xor_add_and a (2 ^ w - 1), and_mask a w ∙ mod-eq_of_lt h)

pub bit_ones : (w k : ℕ) → k < w → bit (2 ^ w - 1) k ≡ true
unfolding bit
bit_ones w k l =
    ap (λ (x : ℕ). is_one ((2 ^ x - 1) / 2 ^ k % 2)) (sym (le_dest l).1 ∙ add_comm (suc k) (le_dest l).0 ∙ omega arith ∙ sym (add_assoc (le_dest l).0 1 k))
    ∙ ap (λ (x : ℕ). is_one (x / 2 ^ k % 2)) (ones_split ((le_dest l).0 + 1) k)
    ∙ ap (λ (x : ℕ). is_one (x % 2)) (high (2 ^ ((le_dest l).0 + 1) - 1) k (ones_lt k))
    ∙ ap (λ (x : ℕ). is_one (x % 2)) (ones_split (le_dest l).0 1)
    ∙ ap is_one (low (2 ^ (le_dest l).0 - 1) 1 (lit< tt))

pub bit-not : (w a k : ℕ) → a < 2 ^ w → k < w → bit ((2 ^ w - 1) - a) k ≡ not (bit a k)
bit-not w a k h l =
    ap (λ (x : ℕ). bit x k) (not_xor w a h) ∙ bit-xor a (2 ^ w - 1) k ∙ ap (λ (b : Bool). bit a k ⊕ b) (bit_ones w k l) ∙ ⊕_all (bit a k)

-- ---- what the code tests
pub nonzero : (x : ℕ) → not (eqb x 0) ≡ is_one x
nonzero zero = refl
nonzero (suc x) = ap not (eqb-suc-zero x)

-- `(w >> k) & 1 != 0`
pub test_shift : (w k : ℕ) → not (eqb (bit_and (w / 2 ^ k) 1) 0) ≡ bit w k
unfolding bit
test_shift w k = nonzero (bit_and (w / 2 ^ k) 1) ∙ ap is_one (and_mask (w / 2 ^ k) 1)

-- the one digit of 2 ^ j, as a test
pub bit-pow : (j k : ℕ) → bit (2 ^ j) k ≡ eqb k j
bit-pow j k = by_eq (ℕ_discrete k j)
  where
    by_eq : Dec (k ≡ j) → bit (2 ^ j) k ≡ eqb k j
    by_eq (yes e) = ap (bit (2 ^ j)) e ∙ bit-pow_same j ∙ sym (eq-eqb k j e)
    by_eq (no n) = bit-pow_other j k (λ e. n (sym e)) ∙ sym (ne_eqb k j n)

-- ---- two words are equal when their digits are
digit_inj : (x y : ℕ) → x < 2 → y < 2 → is_one x ≡ is_one y → x ≡ y
digit_inj = two_digits (λ (x y : ℕ). is_one x ≡ is_one y → x ≡ y) (λ e. refl) (λ e. absurd (false≢true e)) (λ e. absurd (true≢false e)) (λ e. refl)

pub bit_half : (a k : ℕ) → bit (a / 2) k ≡ bit a (suc k)
unfolding bit
bit_half a k = ap (λ (x : ℕ). is_one (x % 2)) (shr-shr a 1 k) ∙ ap (λ (x : ℕ). is_one (a / 2 ^ x % 2)) (one-add k)

pub bit_low : (a : ℕ) → bit a 0 ≡ is_one (a % 2)
unfolding bit
bit_low a = ap (λ (x : ℕ). is_one (x % 2)) (div-one a)

pub bit_ext : (w a b : ℕ) → a < 2 ^ w → b < 2 ^ w → ((k : ℕ) → k < w → bit a k ≡ bit b k) → a ≡ b
bit_ext zero a b ha hb h = lt-one ha ∙ sym (lt-one hb)
bit_ext (suc w) a b ha hb h =
    let low : a % 2 ≡ b % 2 = digit_inj (a % 2) (b % 2) (mod-lt a two) (mod-lt b two) (sym (bit_low a) ∙ h 0 (zero-lt-suc w) ∙ bit_low b) in
    let high : a / 2 ≡ b / 2 =
    bit_ext w (a / 2) (b / 2) (half a ha) (half b hb) (λ k l. bit_half a k ∙ h (suc k) (suc-le-suc l) ∙ sym (bit_half b k)) in
    omega arith
  where
    half : (n : ℕ) → n < 2 ^ suc w → n / 2 < 2 ^ w
    half n l = shr_lt w 1 (subst (λ (x : ℕ). n < 2 ^ x) (sym (add-one w)) l)

-- the word 0 is the one with no digit that is 1
pub bit_any : (w n : ℕ) → n < 2 ^ w → any_below w (bit n) ≡ not (eqb n 0)
bit_any w n h = go (dec (eqb n 0)) (dec (any_below w (bit n)))
  where
    go : T (eqb n 0) ⊎ (T (eqb n 0) → ⊥) → T (any_below w (bit n)) ⊎ (T (any_below w (bit n)) → ⊥) → any_below w (bit n) ≡ not (eqb n 0)
    go (inl t) o =
        any_none w (bit n) (λ k l. from_false (bit n k) (ap (λ (x : ℕ). bit x k) (eqb→eq n 0 t) ∙ bit_zero k)) ∙ sym (ap not (is_true (eqb n 0) t))
    go (inr f) (inl a) = is_true (any_below w (bit n)) a ∙ sym (ap not (is_false (eqb n 0) f))
    go (inr f) (inr g) =
        absurd (f (rw (bit_ext w n 0 h (pow_pos w) (λ k l. is_false (bit n k) (λ t. g (any_in w (bit n) k l t)) ∙ sym (bit_zero k))) (eqb_refl 0)))

-- equal words have equal digits, and no others
pub bit_same : (w a b : ℕ) → a < 2 ^ w → b < 2 ^ w → eqb a b ≡ all_below w (λ k. not (bit a k ⊕ bit b k))
bit_same w a b ha hb =
    beq_eq (eqb a b) (all_below w (λ k. not (bit a k ⊕ bit b k)))
    (λ t. all_in w (λ k. not (bit a k ⊕ bit b k)) (λ k l. rw (eqb→eq a b t, ⊕_self (bit b k)) tt))
    (λ t. rw (bit_ext w a b ha hb (λ k l. ⊕_eq (bit a k) (bit b k) (is_false (bit a k ⊕ bit b k) (not_out (bit a k ⊕ bit b k) (all_out w (λ k. not (bit a k ⊕ bit b k)) t k l))))) (eqb_refl b))

-- the digits of 2 ^ w - 1
pub bit_below : (w k : ℕ) → bit (2 ^ w - 1) k ≡ ltb k w
bit_below w k = go (lt_or_ge k w)
  where
    go : (k < w) ⊎ (w ≤ k) → bit (2 ^ w - 1) k ≡ ltb k w
    go (inl l) = bit_ones w k l ∙ sym (ltb_yes k w l)
    go (inr l) = bit_past w (2 ^ w - 1) k (ones_lt w) l ∙ sym (ltb_no k w l)

-- `1 << k` in w digits
pub one_shl : (w k : ℕ) → k < w → 1 * 2 ^ k % 2 ^ w ≡ 2 ^ k
one_shl w k l = ap (λ (x : ℕ). x % 2 ^ w) (one-mul (2 ^ k)) ∙ mod-eq_of_lt (pow-lt l)

-- `w & mask != 0`, for the mask of place k
pub and-pow : (w k : ℕ) → bit_and w (2 ^ k) ≡ w / 2 ^ k % 2 * 2 ^ k
and-pow w k =
    ap₂ bit_and (sym (split w k)) (sym (one-mul (2 ^ k)) ∙ sym (add-zero (1 * 2 ^ k)))
    ∙ and_block k (w / 2 ^ k) 1 (w % 2 ^ k) 0 (mod-lt w (pow_pos k)) (pow_pos k)
    ∙ ap₂ (λ (x y : ℕ). x * 2 ^ k + y) (and_mask (w / 2 ^ k) 1) (and_zero_r (w % 2 ^ k))
    ∙ add-zero (w / 2 ^ k % 2 * 2 ^ k)

pub test_mask : (w k : ℕ) → not (eqb (bit_and w (2 ^ k)) 0) ≡ bit w k
unfolding bit
test_mask w k =
    nonzero (bit_and w (2 ^ k)) ∙ ap is_one (and-pow w k) ∙ scaled (w / 2 ^ k % 2) (mod-lt (w / 2 ^ k) two)
  where
    scaled : (x : ℕ) → x < 2 → is_one (x * 2 ^ k) ≡ is_one x
    scaled =
        one_digit (λ (x : ℕ). is_one (x * 2 ^ k) ≡ is_one x) (ap is_one (zero-mul (2 ^ k)))
        (ap is_one (one-mul (2 ^ k) ∙ sym (suc-pred-eq_of_pos (pow_pos k))))
