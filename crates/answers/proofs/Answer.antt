-- What a call that gives something has shown: each of its questions was answered yes.
use Prim.Native.Nat.{ℕ}
use mathlib.Core.Path.{◌≡◌, refl}
use mathlib.Core.Bool.{Bool, true, false}
use native.Mathlib.Omega.{arith}
use Rattle.answers.specs.Answer.{Refusal, Answer, gives, refuses, ◌>>=◌, ◌>>◌, asks}

pub give_inj : {A : Type 0} {a b : A} → ◌≡◌ {A = Answer A} (gives a) (gives b) → a ≡ b
give_inj e = cc

-- a refusal gives nothing
pub never : {A : Type 0} {a : A} {r : Refusal} → ◌≡◌ {A = Answer A} (refuses r) (gives a) → ⊥
never e = let z : ◌≡◌ {A = ℕ} 0 1 = cc in omega arith

pub asks_out : {B : Type 0} (q : ℕ) (c : Bool) (k : Answer B) (b : B) → (asks q c >> k) ≡ gives b → (c ≡ true) × (k ≡ gives b)
asks_out q true k b e = (refl, e)
asks_out q false k b e = absurd (never e)

pub asks_yes : (q : ℕ) (c b : Bool) → asks q c ≡ gives b → c ≡ true
asks_yes q true b e = refl
asks_yes q false b e = absurd (never e)

pub bind_out : {A B : Type 0} (m : Answer A) (k : A → Answer B) (b : B) → (m >>= k) ≡ gives b → (a : A) × (m ≡ gives a) × (k a ≡ gives b)
bind_out (gives a) k b e = (a, refl, e)
bind_out (refuses r) k b e = absurd (never e)

pub then_out : {A B : Type 0} (m : Answer A) (k : Answer B) (b : B) → (m >> k) ≡ gives b → (a : A) × (m ≡ gives a) × (k ≡ gives b)
then_out (gives a) k b e = (a, refl, e)
then_out (refuses r) k b e = absurd (never e)
