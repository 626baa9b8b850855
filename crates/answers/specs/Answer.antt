-- What a call answers: a value, or a refusal.
use Rattle.std.specs.Prelude.{ℕ, Bool, true, false}

-- the number of the question that was answered no, and its a and b, 0 where unused
pub record Refusal : Type 0 where
  pub number : ℕ
  pub a : ℕ
  pub b : ℕ

pub data Answer (A : Type 0) : Type 0 where
  gives : A → Answer A
  refuses : Refusal → Answer A

infixl 20 ◌>>=◌
abbrev pub ◌>>=◌ : {A B : Type 0} → Answer A → (A → Answer B) → Answer B
(gives a) >>= f = f a
(refuses r) >>= f = refuses r

infixl 20 ◌>>◌
abbrev pub ◌>>◌ : {A B : Type 0} → Answer A → Answer B → Answer B
(gives a) >> b = b
(refuses r) >> b = refuses r

-- question q, where a and b are unused
abbrev pub refusal : ℕ → Refusal
refusal q = record { number = q; a = 0; b = 0 }

abbrev pub asks : ℕ → Bool → Answer Bool
asks q true = gives true
asks q false = refuses (refusal q)
