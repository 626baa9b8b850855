-- Of specs/Message of the crate answers: numbers of two and of three digits.
use Prim.Native.Nat.{ℕ, ◌/◌, ◌%◌, ◌≤◌, ◌<◌}
use mathlib.Core.Path.{◌≡◌, ap, ◌∙◌}
use mathlib.Core.List.{List, [], ◌∷◌, ◌++◌}
use native.Mathlib.Omega.{arith}
use Rattle.answers.specs.Message.{digit, in_decimal}
use Rattle.answers.proofs.Decimal.{decimal_one, decimal_more}

-- with one digit more
behind : (n : ℕ) (front : List ℕ) → 10 ≤ n → in_decimal (n / 10) ≡ front → in_decimal n ≡ front ++ digit (n % 10) ∷ []
behind n front big e = decimal_more n big ∙ ap (λ (l : List ℕ). l ++ digit (n % 10) ∷ []) e

pub decimal_two : (n : ℕ) → 10 ≤ n → n < 100 → in_decimal n ≡ digit (n / 10) ∷ digit (n % 10) ∷ []
decimal_two n big small = behind n (digit (n / 10) ∷ []) big (decimal_one (n / 10) (omega arith))

pub decimal_three : (n : ℕ) → 100 ≤ n → n < 1000 → in_decimal n ≡ digit (n / 100) ∷ digit (n / 10 % 10) ∷ digit (n % 10) ∷ []
decimal_three n big small =
    let same : n / 10 / 10 ≡ n / 100 = omega arith in
    behind n (digit (n / 100) ∷ digit (n / 10 % 10) ∷ []) (omega arith) (decimal_two (n / 10) (omega arith) (omega arith) ∙ ap (λ (d : ℕ). digit d ∷ digit (n / 10 % 10) ∷ []) same)
