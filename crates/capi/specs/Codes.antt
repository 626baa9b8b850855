-- One number for what a call answers, and what the call leaves in the lent buffers.
use Rattle.std.specs.Prelude.{ℕ, ◌+◌, ◌*◌, ◌/◌, ◌%◌, ◌≤◌, ◌<◌, ◌≡◌, Bool, cond, List}
use Rattle.answers.specs.Answer.{Refusal, Answer, gives, refuses}
use Rattle.solver.specs.Solver as Solver
use Rattle.demands.specs.Calls.{Outcome}

-- the places of a refusal's number and of a: 2^32 and 2^16
abbrev pub number_unit : ℕ
number_unit = 4294967296

abbrev pub a_unit : ℕ
a_unit = 65536

abbrev pub refusal_code : Refusal → ℕ
refusal_code r = r.number * number_unit + r.a * a_unit + r.b

-- an answer: the count of bytes written
abbrev pub answer_code : Answer ℕ → ℕ
answer_code (gives k) = k
answer_code (refuses r) = refusal_code r

pub record Coded : Type 0 where
  pub code : ℕ
  pub work : List ℕ
  pub out : List ℕ

abbrev pub coded : Outcome → Coded
coded o = record { code = answer_code o.answer; work = o.work; out = o.out }

-- the solver's: 1 for solvable, 0 for not
abbrev pub counted : Answer Bool → Answer ℕ
counted (gives solvable) = gives (cond solvable 1 0)
counted (refuses r) = refuses r

pub record CodedBits : Type 0 where
  pub code : ℕ
  pub out : List ℕ

abbrev pub coded_bits : Solver.SolveOutcome → CodedBits
coded_bits o = record { code = answer_code (counted o.answer); out = o.out }

-- ---- what a program in C reads off a code: number, a and b as the header has them
abbrev pub number_in : ℕ → ℕ
number_in c = c / number_unit

abbrev pub a_in : ℕ → ℕ
a_in c = c / a_unit % a_unit

abbrev pub b_in : ℕ → ℕ
b_in c = c % a_unit

-- an answer is below 2^32, and the code itself; a refusal is not
abbrev pub Tells : Answer ℕ → (code : ℕ) → Type 0
Tells (gives k) c = (c < number_unit) × (c ≡ k)
Tells (refuses r) c = number_unit ≤ c

-- a refusal's number, a and b
abbrev pub TellsWhy : Answer ℕ → (code : ℕ) → Type 0
TellsWhy (gives k) c = Unit
TellsWhy (refuses r) c = (number_in c ≡ r.number) × (a_in c ≡ r.a) × (b_in c ≡ r.b)
