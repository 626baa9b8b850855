-- Systems of equations mod 2, of any size: the rows and columns at hand, and the one solution that takes no column
-- which is a sum of earlier ones.
use Rattle.std.specs.Prelude.{ℕ, zero, suc, ◌<◌, ◌≡◌, Bool, true, false, cond, not, ◌&&◌, T, eqb}
use Rattle.std.proofs.Math.Option.{Option, none, some}
use Rattle.nodes.specs.Bit.{◌⊕◌}
use Rattle.nodes.specs.Row.{parity, all_below}
use Rattle.nodes.specs.Options.{is_some, option_or}

-- The left side: rows are numbered below `rows`; a row or column that is not at hand takes no part.
pub record System : Type 0 where
  pub rows : ℕ
  pub row : ℕ → Bool
  pub column : ℕ → Bool
  pub entry : ℕ → ℕ → Bool

-- in row i, the sum of the columns at hand below n that x takes
abbrev pub sum : System → ℕ → ℕ → (ℕ → Bool) → Bool
sum s n i x = parity n (λ k. s.column k && (s.entry i k && x k))

-- with the columns below n, x adds up to the right side b in each row at hand
abbrev pub Solves : System → ℕ → (ℕ → Bool) → (ℕ → Bool) → Type 0
Solves s n b x = (i : ℕ) → i < s.rows → T (s.row i) → sum s n i x ≡ b i

-- column j is a sum of earlier columns at hand; the empty sum is zero
abbrev pub IsDependent : System → ℕ → Type 0
IsDependent s j = (y : ℕ → Bool) × Solves s j (λ i. s.entry i j) y

-- x takes no column that is a sum of earlier ones
abbrev pub Avoids : System → ℕ → (ℕ → Bool) → Type 0
Avoids s n x = (j : ℕ) → j < n → T (s.column j) → IsDependent s j → x j ≡ false

-- what the solver's answer is: a solution that takes columns at hand only, none of them a sum of earlier ones
pub record IsBasicSolution (s : System) (n : ℕ) (b x : ℕ → Bool) : Type 0 where
  pub solves : Solves s n b x
  pub avoids : Avoids s n x
  pub within : (k : ℕ) → T (x k) → (k < n) × T (s.column k)

-- ---- the answer, computed column by column
-- a solution with column n taken too
abbrev pub taking : ℕ → Option (ℕ → Bool) → Option (ℕ → Bool)
taking n none = none
taking n (some x) = some (λ k. cond (eqb k n) true (x k))

-- the empty sum: right where no row at hand asks for 1
abbrev pub empty_sum : System → (ℕ → Bool) → Option (ℕ → Bool)
empty_sum s b = cond (all_below s.rows (λ i. not (s.row i && b i))) (some (λ k. false)) none

-- What the earlier columns can do alone; where they can't, the last column and what the earlier ones can do for the rest.
unfoldable pub solve : System → ℕ → (ℕ → Bool) → Option (ℕ → Bool)
solve s zero b = empty_sum s b
solve s (suc n) b =
    let earlier = solve s n b in
    let with_last = taking n (solve s n (λ i. b i ⊕ s.entry i n)) in
    let either = option_or earlier with_last in
    cond (s.column n) either earlier

-- a column counts as pivot if it is no sum of earlier columns
abbrev pub pivot : System → ℕ → Bool
pivot s k = s.column k && not (is_some (solve s k (λ i. s.entry i k)))
