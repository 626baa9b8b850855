-- Numbers in decimal, of specs/Message: how many digits there are at most, and that they are those that std writes.
use Prim.Native.Nat.{ℕ, zero, suc, ◌+◌, ◌*◌, ◌/◌, ◌%◌, ◌^◌, ◌≤◌, ◌<◌}
use mathlib.Core.Path.{◌≡◌, refl, sym, ap, ap₂, ◌∙◌}
use mathlib.Core.Bool.{Bool, true, false, cond}
use mathlib.Core.List.{List, [], ◌∷◌, ◌++◌}
use native.Mathlib.Nat.{not-suc-le-zero, pow-suc}
use native.Mathlib.Omega.{arith}
use borrow.Author.Tests.{lt-ltb, le-ltb, ltb-true, ltb-false}
use lib.Dec.{ltb}
use lib.ListN.{length, set, length-append}
use lib.Seq.{sets}
use Rattle.std.specs.Fmt.{decimal}
use Rattle.std.proofs.lemmas.Fmt.{decimal_by_steps}
use Rattle.answers.specs.Message.{digit, decimal_in, in_decimal}
use Rattle.answers.proofs.Sets.{sets-append}

-- any k above the number gives all its digits
enough : (j k n : ℕ) → n < j → n < k → decimal_in j n ≡ decimal_in k n
unfolding decimal_in
enough zero k n h l = absurd (not-suc-le-zero h)
enough (suc j) zero n h l = absurd (not-suc-le-zero l)
enough (suc j) (suc k) n h l = by (ltb n 10) refl (enough j k (n / 10))
  where
    by : (t : Bool) → ltb n 10 ≡ t → (n / 10 < j → n / 10 < k → decimal_in j (n / 10) ≡ decimal_in k (n / 10)) → cond t (digit n ∷ []) (decimal_in j (n / 10) ++ digit (n % 10) ∷ []) ≡ cond t (digit n ∷ []) (decimal_in k (n / 10) ++ digit (n % 10) ∷ [])
    by true e ih = refl
    by false e ih = let big : 10 ≤ n = ltb-false n 10 e in ap (λ (s : List ℕ). s ++ digit (n % 10) ∷ []) (ih (omega arith) (omega arith))

pub decimal_one : (n : ℕ) → n < 10 → in_decimal n ≡ digit n ∷ []
unfolding in_decimal decimal_in
decimal_one n h = rw (lt-ltb n 10 h) refl

pub decimal_more : (n : ℕ) → 10 ≤ n → in_decimal n ≡ in_decimal (n / 10) ++ digit (n % 10) ∷ []
unfolding in_decimal decimal_in
decimal_more n h = rw (le-ltb n 10 h) (ap (λ (s : List ℕ). s ++ digit (n % 10) ∷ []) (enough n (suc (n / 10)) (n / 10) (omega arith) (omega arith)))

pub one_long : (n : ℕ) → n < 10 → length (in_decimal n) ≡ 1
one_long n h = ap length (decimal_one n h)

pub more_long : (n : ℕ) → 10 ≤ n → length (in_decimal n) ≡ length (in_decimal (n / 10)) + 1
more_long n h = ap length (decimal_more n h) ∙ length-append (in_decimal (n / 10)) (digit (n % 10) ∷ [])

-- ---- as they are written
pub put_one : (n d at : ℕ) (out : List ℕ) → n < 10 → d ≡ digit n → set out at d ≡ sets out at (in_decimal n)
put_one n d at out h e = ap (set out at) e ∙ ap (sets out at) (sym (decimal_one n h))

pub put_more : (n d at p : ℕ) (out next : List ℕ) → 10 ≤ n → next ≡ sets out at (in_decimal (n / 10)) → p ≡ at + length (in_decimal (n / 10)) → d ≡ digit (n % 10)
    → set next p d ≡ sets out at (in_decimal n)
put_more n d at p out next h f g e =
    ap₂ (λ (l : List ℕ) (k : ℕ). set l k d) f g ∙ ap (set (sets out at (in_decimal (n / 10))) (at + length (in_decimal (n / 10)))) e
    ∙ sym (ap (sets out at) (decimal_more n h) ∙ sets-append out (in_decimal (n / 10)) (digit (n % 10) ∷ []) at)

-- ---- their length
-- a number below ten to the power k + 1 has no more than k + 1 digits
pub decimal_most : (k n : ℕ) → n < 10 ^ suc k → length (in_decimal n) ≤ suc k
decimal_most zero n h = let one = decimal_one n h in omega (arith, ap length one)
decimal_most (suc k) n h = by (ltb n 10) refl (decimal_most k (n / 10))
  where
    by : (t : Bool) → ltb n 10 ≡ t → (n / 10 < 10 ^ suc k → length (in_decimal (n / 10)) ≤ suc k) → length (in_decimal n) ≤ suc (suc k)
    by true e ih = let one = decimal_one n (ltb-true n 10 e) in omega (arith, ap length one)
    by false e ih =
        let big : 10 ≤ n = ltb-false n 10 e in
        let p : 10 ^ suc (suc k) ≡ 10 ^ suc k * 10 = pow-suc 10 (suc k) in
        omega (arith, ap length (decimal_more n big), length-append (in_decimal (n / 10)) (digit (n % 10) ∷ []), ih (omega arith))

-- the digits are those that std writes
pub decimal_as_std : (n : ℕ) → n < 2 ^ 64 → decimal n ≡ in_decimal n
decimal_as_std = decimal_by_steps (λ m ds. ds ≡ in_decimal m) (λ m small. sym (decimal_one m small)) (λ m ds big e. ap (λ (s : List ℕ). s ++ digit (m % 10) ∷ []) e ∙ sym (decimal_more m big))
