-- Of specs/Numbers: what it means for a byte that it was read.
use Prim.Native.Nat.{ℕ, zero, suc}
use mathlib.Core.Path.{◌≡◌, refl, sym}
use mathlib.Core.Bool.{Bool, true, false, cond, ◌&&◌}
use mathlib.Core.List.{[]}
use native.Mathlib.Omega.{arith}
use borrow.Author.Tests.{leb-false}
use lib.Dec.{leb}
use lib.ListN.{get_or, get_or-eq_default}
use Rattle.answers.specs.Answer.{Refusal, Answer, gives, refuses, refusal}
use Rattle.answers.proofs.Answer.{give_inj, never}
use Rattle.flows.specs.Branch.{branches, branch_table}
use Rattle.flows.specs.Numbers.{measurement_of, mode_of}

-- a byte that was read is the number of what was read
read_as : (t : Bool) (byte number : ℕ) (q : Refusal) → ◌≡◌ {A = Answer ℕ} (gives number) (cond t (gives byte) (refuses q)) → byte ≡ number
read_as true byte number q e = sym (give_inj e)
read_as false byte number q e = absurd (never (sym e))

pub measurement_read : (byte number : ℕ) → gives number ≡ measurement_of byte → byte ≡ number
measurement_read byte number = read_as (leb 1 byte && leb byte 6) byte number (refusal 7)

pub mode_read : (byte number : ℕ) → gives number ≡ mode_of byte → byte ≡ number
mode_read byte number = read_as (leb 1 byte && leb byte 3) byte number (refusal 4)

-- one that was not has no branch
pub no_branch : (byte : ℕ) (r : Refusal) → refuses r ≡ measurement_of byte → branches byte ≡ []
unfolding branches
no_branch zero r e = refl
no_branch (suc m) r e = by (leb 1 (suc m)) refl (leb (suc m) 6) refl e
  where
    by : (s : Bool) → leb 1 (suc m) ≡ s → (t : Bool) → leb (suc m) 6 ≡ t → ◌≡◌ {A = Answer ℕ} (refuses r) (cond (s && t) (gives (suc m)) (refuses (refusal 7))) → get_or branch_table m [] ≡ []
    by false f t g e = absurd (omega (arith, leb-false 1 (suc m) f))
    by true f true g e = absurd (never e)
    by true f false g e = get_or-eq_default branch_table [] (omega (arith, leb-false (suc m) 6 g))
