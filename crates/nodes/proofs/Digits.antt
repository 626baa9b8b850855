-- The machine's counts of a word's digits, one digit of one word of a list, and a number by its digits. Serves Bit.
use mathlib.Core.Path.{◌≡◌, refl, sym, ap, ap₂, ◌∙◌, subst}
use mathlib.Core.Bool.{Bool, true, false, cond, not, ◌&&◌}
use Prim.Native.Nat.{ℕ, zero, suc, ◌+◌, ◌-◌, ◌*◌, ◌/◌, ◌%◌, ◌^◌, ◌≤◌, ◌<◌}
use native.Mathlib.Nat.{mod-lt, le_dest, zero-lt-suc, mul-mod_left, pow-suc, not-suc-le-zero, le_of_suc-le-suc}
use native.Mathlib.Omega.{arith}
use lib.Arith.{lt-one}
use lib.Bits.{bit_and, and_shr, and_self}
use lib.Dec.{eqb, eqb-suc-suc, eqb-suc-zero}
use lib.Pow.{split, shr_lt, shl-shr, shr-shr, pow_pos, field, mod-mod-pow}
use lib.Count.{ones, ones_cat, count_trailing_zeros, under}
use Rattle.nodes.specs.Bit.{bit, is_one, one, digits}
use Rattle.nodes.specs.Row.{count, lowest_from, lowest}
use Rattle.nodes.proofs.Logic.{and_all}
use Rattle.nodes.proofs.Count.{count_ext}
use Rattle.nodes.proofs.Members.{lowest_ext, lowest-suc}
use Rattle.nodes.proofs.Bit.{bit_half, bit_low, bit_zero, bit-and, bit_ext, one_digit}

-- the digits below w are not changed by a mask of w digits
pub bit-mod : (n w k : ℕ) → k < w → bit (n % 2 ^ w) k ≡ bit n k
unfolding bit
bit-mod n w k l =
    let j = (le_dest l).0 in
    let e : w ≡ j + 1 + k = omega (arith, (le_dest l).1) in
    ap (λ (x : ℕ). is_one (n % 2 ^ x / 2 ^ k % 2)) e
    ∙ ap (λ (x : ℕ). is_one (x % 2)) (field n (j + 1) k)
    ∙ ap is_one (mod-mod-pow (n / 2 ^ k) j 1)

half_lt : (w n : ℕ) → n < 2 ^ suc w → n / 2 < 2 ^ w
half_lt w n h = shr_lt w 1 (subst (λ (x : ℕ). n < 2 ^ x) (omega arith) h)

-- ---- how many digits are 1
top_digit : (x : ℕ) → x < 2 → (c : ℕ) → ones x + c ≡ cond (is_one (x % 2)) (suc c) c
unfolding ones
top_digit x h c = one_digit (λ (x : ℕ). ones x + c ≡ cond (is_one (x % 2)) (suc c) c) (omega arith) (omega arith) x h

-- a number that is shifted up by s places
pub bit_up : (s w k : ℕ) → s ≤ k → bit (w * 2 ^ s) k ≡ bit w (k - s)
unfolding bit
bit_up s w k h =
    let e : k ≡ s + (k - s) = omega arith in
    ap (λ (x : ℕ). is_one (w * 2 ^ s / 2 ^ x % 2)) e
    ∙ ap (λ (x : ℕ). is_one (x % 2)) (sym (shr-shr (w * 2 ^ s) s (k - s)) ∙ ap (λ (x : ℕ). x / 2 ^ (k - s)) (shl-shr w s))

pub bit_down : (s w k : ℕ) → bit (w / 2 ^ s) k ≡ bit w (s + k)
unfolding bit
bit_down s w k = ap (λ (x : ℕ). is_one (x % 2)) (shr-shr w s k)

pub bit_under : (s w k : ℕ) → k < s → bit (w * 2 ^ s) k ≡ false
bit_under s w k h = sym (bit-mod (w * 2 ^ s) s k h) ∙ ap (λ (x : ℕ). bit x k) (mul-mod_left w (2 ^ s)) ∙ bit_zero k

pub ones-count : (w n : ℕ) → n < 2 ^ w → ones n ≡ count w (bit n)
unfolding count ones bit
ones-count zero n h = ap ones (lt-one h)
ones-count (suc w) n h =
    ap ones (sym (split n w)) ∙ ones_cat w (n / 2 ^ w) (n % 2 ^ w) (mod-lt n (pow_pos w))
    ∙ ap (λ (c : ℕ). ones (n / 2 ^ w) + c) (ones-count w (n % 2 ^ w) (mod-lt n (pow_pos w)) ∙ count_ext w (bit (n % 2 ^ w)) (bit n) (λ k l. bit-mod n w k l))
    ∙ top_digit (n / 2 ^ w) top (count w (bit n))
  where
    top : n / 2 ^ w < 2
    top = shr_lt 1 w (subst (λ (x : ℕ). n < 2 ^ x) (omega arith) h)

-- ---- the lowest digit that is 1
-- from the lowest digit of n, and the lowest that is 1 of n / 2
pub lowest_half : (w n : ℕ) → lowest (suc w) (bit n) ≡ cond (is_one (n % 2)) 0 (suc (lowest w (bit (n / 2))))
lowest_half w n =
    lowest-suc w (bit n)
    ∙ ap₂ (λ (b : Bool) (x : ℕ). cond b 0 (suc x)) (bit_low n) (lowest_ext w (λ k. bit n (suc k)) (bit (n / 2)) (λ k l. sym (bit_half n k)))

pub trailing_lowest : (w n : ℕ) → count_trailing_zeros w n ≡ lowest w (bit n)
unfolding count_trailing_zeros lowest_from
trailing_lowest zero n = refl
trailing_lowest (suc w) n =
    one_digit (λ (d : ℕ). under d (count_trailing_zeros w (n / 2)) ≡ cond (is_one d) 0 (suc (lowest w (bit (n / 2))))) (ap suc (trailing_lowest w (n / 2))) refl (n % 2) (mod-lt n (zero-lt-suc 1))
    ∙ sym (lowest_half w n)

-- `n & (n - 1)` is n without its lowest digit that is 1
pub bit_drop : (w n k : ℕ) → n < 2 ^ w → bit (bit_and n (n - 1)) k ≡ bit n k && not (eqb k (lowest w (bit n)))
bit_drop zero n k h =
    let e : bit n k ≡ false = ap (λ (x : ℕ). bit x k) (lt-one h) ∙ bit_zero k in
    bit-and n (n - 1) k ∙ ap (λ (b : Bool). b && bit (n - 1) k) e ∙ sym (ap (λ (b : Bool). b && not (eqb k (lowest 0 (bit n)))) e)
bit_drop (suc w) n zero h =
    bit-and n (n - 1) 0 ∙ ap₂ ◌&&◌ (bit_low n) (bit_low (n - 1)) ∙ low (n % 2) refl (mod-lt n (zero-lt-suc 1))
    ∙ sym (ap₂ (λ (b : Bool) (x : ℕ). b && not (eqb 0 x)) (bit_low n) (lowest_half w n))
  where
    low : (d : ℕ) → n % 2 ≡ d → d < 2 → is_one (n % 2) && is_one ((n - 1) % 2) ≡ is_one (n % 2) && not (eqb 0 (cond (is_one (n % 2)) 0 (suc (lowest w (bit (n / 2))))))
    low zero e l = rw e
    low (suc d) e l = let z : (n - 1) % 2 ≡ 0 = omega arith in rw (e, z)
bit_drop (suc w) n (suc k) h =
    sym (bit_half (bit_and n (n - 1)) k) ∙ ap (λ (x : ℕ). bit x k) (and_shr n (n - 1) 1)
    ∙ high (n % 2) refl (mod-lt n (zero-lt-suc 1)) (bit_drop w (n / 2) k (half_lt w n h))
    ∙ sym (ap₂ (λ (b : Bool) (x : ℕ). b && not (eqb (suc k) x)) (sym (bit_half n k)) (lowest_half w n))
  where
    high : (d : ℕ) → n % 2 ≡ d → d < 2 → bit (bit_and (n / 2) (n / 2 - 1)) k ≡ bit (n / 2) k && not (eqb k (lowest w (bit (n / 2))))
        → bit (bit_and (n / 2) ((n - 1) / 2)) k ≡ bit (n / 2) k && not (eqb (suc k) (cond (is_one (n % 2)) 0 (suc (lowest w (bit (n / 2))))))
    high zero e l ih = let z : (n - 1) / 2 ≡ n / 2 - 1 = omega arith in rw (e, z, eqb-suc-suc k (lowest w (bit (n / 2)))) ih
    high (suc d) e l ih = let z : (n - 1) / 2 ≡ n / 2 = omega arith in rw (e, z, and_self (n / 2), eqb-suc-zero k) (sym (and_all (bit (n / 2) k)))

-- ---- a number by its digits
pub digits-lt : (n : ℕ) (f : ℕ → Bool) → digits n f < 2 ^ n
unfolding digits
digits-lt zero f = pow_pos 0
digits-lt (suc n) f =
    let d : digits n (λ i. f (suc i)) < 2 ^ n = digits-lt n (λ i. f (suc i)) in
    let p : 2 ^ suc n ≡ 2 ^ n * 2 = pow-suc 2 n in
    by (f 0) d p
  where
    by : (b : Bool) → digits n (λ i. f (suc i)) < 2 ^ n → 2 ^ suc n ≡ 2 ^ n * 2 → one b + 2 * digits n (λ i. f (suc i)) < 2 ^ suc n
    by true d p = omega arith
    by false d p = omega arith

pub bit-digits : (n : ℕ) (f : ℕ → Bool) (k : ℕ) → k < n → bit (digits n f) k ≡ f k
unfolding digits
bit-digits zero f k h = absurd (not-suc-le-zero h)
bit-digits (suc n) f zero h = bit_low (one (f 0) + 2 * digits n (λ i. f (suc i))) ∙ by (f 0)
  where
    by : (b : Bool) → is_one ((one b + 2 * digits n (λ i. f (suc i))) % 2) ≡ b
    by true = let e : (1 + 2 * digits n (λ i. f (suc i))) % 2 ≡ 1 = omega arith in ap is_one e
    by false = let e : (0 + 2 * digits n (λ i. f (suc i))) % 2 ≡ 0 = omega arith in ap is_one e
bit-digits (suc n) f (suc k) h =
    sym (bit_half (one (f 0) + 2 * digits n (λ i. f (suc i))) k) ∙ ap (λ (x : ℕ). bit x k) (by (f 0))
    ∙ bit-digits n (λ i. f (suc i)) k (le_of_suc-le-suc h)
  where
    by : (b : Bool) → (one b + 2 * digits n (λ i. f (suc i))) / 2 ≡ digits n (λ i. f (suc i))
    by true = omega arith
    by false = omega arith

pub digits_is : (n x : ℕ) (f : ℕ → Bool) → x < 2 ^ n → ((k : ℕ) → k < n → bit x k ≡ f k) → x ≡ digits n f
digits_is n x f h e = bit_ext n x (digits n f) h (digits-lt n f) (λ k l. e k l ∙ sym (bit-digits n f k l))
