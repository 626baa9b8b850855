-- Numbers in two bytes each, and with them the layers of either kind: read back as they were written, and the only bytes that are read so.
use Prim.Native.Nat.{ℕ, zero, suc, ◌+◌, ◌*◌, ◌/◌, ◌%◌, ◌<◌}
use mathlib.Core.Path.{◌≡◌, refl, sym, ap₂, ◌∙◌}
use mathlib.Core.Bool.{Bool, true, false, cond, beq, false≢true}
use mathlib.Core.List.{List, [], ◌∷◌, ◌++◌}
use native.Mathlib.Omega.{arith}
use borrow.Author.Tests.{ltb-true, lt-ltb}
use lib.Dec.{ltb}
use lib.ListN.{length, get_or}
use Rattle.nodes.proofs.Logic.{and_out}
use Rattle.nodes.specs.Lists.{all}
use Rattle.records.specs.Records.{all_yes, each_asks, in_two_bytes, from_two_bytes}
use Rattle.records.specs.FlowFile.{layer_width, layer_bytes, layer_numbers}
use Rattle.records.specs.Encoding.{IsBytes}
use Rattle.records.proofs.Records.{all_more}

-- a number that two bytes hold
abbrev pub fits_two_bytes : ℕ → Bool
fits_two_bytes x = ltb x 65536

-- ---- two bytes each
pub in_length : (l : List ℕ) → length (in_two_bytes l) ≡ 2 * length l
unfolding in_two_bytes
in_length [] = refl
in_length (x ∷ l) = omega (arith, in_length l)

pub from_length : (p : List ℕ) → length (from_two_bytes p) ≡ length p / 2
unfolding from_two_bytes
from_length [] = refl
from_length (low ∷ []) = refl
from_length (low ∷ high ∷ p) = omega (arith, from_length p)

pub in_append : (l g : List ℕ) → in_two_bytes (l ++ g) ≡ in_two_bytes l ++ in_two_bytes g
unfolding in_two_bytes
in_append [] g = refl
in_append (x ∷ l) g = rw (in_append l g)

pub in_one : (x : ℕ) → in_two_bytes (x ∷ []) ≡ x % 256 ∷ x / 256 ∷ []
unfolding in_two_bytes
in_one x = refl

pub from_at : (p : List ℕ) (i : ℕ) → 2 * i + 1 < length p → get_or (from_two_bytes p) i 0 ≡ get_or p (2 * i) 0 + 256 * get_or p (2 * i + 1) 0
unfolding from_two_bytes
from_at [] i h = absurd (omega arith)
from_at (low ∷ []) i h = absurd (omega arith)
from_at (low ∷ high ∷ p) zero h = refl
from_at (low ∷ high ∷ p) (suc i) h =
    let first : 2 * suc i ≡ suc (suc (2 * i)) = omega arith in
    let second : 2 * suc i + 1 ≡ suc (suc (2 * i + 1)) = omega arith in
    from_at p i (omega arith) ∙ ap₂ (λ (a b : ℕ). get_or (low ∷ high ∷ p) a 0 + 256 * get_or (low ∷ high ∷ p) b 0) (sym first) (sym second)

-- any numbers are read back
pub from_in : (l : List ℕ) → from_two_bytes (in_two_bytes l) ≡ l
unfolding in_two_bytes from_two_bytes
from_in [] = refl
from_in (x ∷ l) = let same : x % 256 + 256 * (x / 256) ≡ x = omega arith in rw (same, from_in l)

-- and bytes, if their number is even, are those of the numbers that they hold
pub in_from : (p : List ℕ) → IsBytes p → length p % 2 ≡ 0 → in_two_bytes (from_two_bytes p) ≡ p
unfolding in_two_bytes from_two_bytes all
in_from [] h e = refl
in_from (low ∷ []) h e = absurd (omega arith)
in_from (low ∷ high ∷ p) h e =
    let (a, g) = and_out (ltb low 256) (all (λ b. ltb b 256) (high ∷ p)) h in
    let (b, r) = and_out (ltb high 256) (all (λ b. ltb b 256) p) g in
    let l : low < 256 = ltb-true low 256 a in
    let first : (low + 256 * high) % 256 ≡ low = omega arith in
    let second : (low + 256 * high) / 256 ≡ high = omega arith in
    rw (first, second, in_from p r (omega arith))

pub in_bytes : (l : List ℕ) → all fits_two_bytes l ≡ true → IsBytes (in_two_bytes l)
unfolding in_two_bytes all
in_bytes [] a = refl
in_bytes (x ∷ l) a =
    let (p, q) = and_out (fits_two_bytes x) (all fits_two_bytes l) a in
    let h : x < 65536 = ltb-true x 65536 p in
    rw (lt-ltb (x % 256) 256 (omega arith), lt-ltb (x / 256) 256 (omega arith)) (in_bytes l q)

pub from_small : (p : List ℕ) → IsBytes p → all fits_two_bytes (from_two_bytes p) ≡ true
unfolding from_two_bytes all
from_small [] h = refl
from_small (low ∷ []) h = refl
from_small (low ∷ high ∷ p) h =
    let (a, g) = and_out (ltb low 256) (all (λ b. ltb b 256) (high ∷ p)) h in
    let (b, r) = and_out (ltb high 256) (all (λ b. ltb b 256) p) g in
    let l : low < 256 = ltb-true low 256 a in
    let m : high < 256 = ltb-true high 256 b in
    rw (lt-ltb (low + 256 * high) 65536 (omega arith)) (from_small p r)

-- ---- layers of either kind
pub beq_self : (b : Bool) → beq b b ≡ true
beq_self true = refl
beq_self false = refl

pub beq_same : (a b : Bool) → beq a b ≡ true → a ≡ b
beq_same true true e = refl
beq_same false false e = refl
beq_same true false e = absurd (false≢true e)
beq_same false true e = absurd (false≢true e)

pub width_few : (wide : Bool) (n : ℕ) → n < 65536 → layer_width wide * n < 4294967296
width_few true n h = omega arith
width_few false n h = omega arith

pub bytes-length : (wide : Bool) (l : List ℕ) → length (layer_bytes wide l) ≡ layer_width wide * length l
bytes-length true l = in_length l
bytes-length false l = omega arith

pub numbers-length : (wide : Bool) (n : ℕ) (p : List ℕ) → length p ≡ layer_width wide * n → length (layer_numbers wide p) ≡ n
numbers-length true n p e = omega (arith, from_length p)
numbers-length false n p e = omega arith

pub numbers_back : (wide : Bool) (l : List ℕ) → layer_numbers wide (layer_bytes wide l) ≡ l
numbers_back true l = from_in l
numbers_back false l = refl

pub bytes_back : (wide : Bool) (n : ℕ) (p : List ℕ) → IsBytes p → length p ≡ layer_width wide * n → layer_bytes wide (layer_numbers wide p) ≡ p
bytes_back true n p h e = in_from p h (omega arith)
bytes_back false n p h e = refl

-- the layers that bytes hold are below 65,536
pub numbers_small : (wide : Bool) (p : List ℕ) → IsBytes p → all fits_two_bytes (layer_numbers wide p) ≡ true
numbers_small true p h = from_small p h
numbers_small false p h = all_more (λ b. ltb b 256) fits_two_bytes p (λ x e. let l : x < 256 = ltb-true x 256 e in lt-ltb x 65536 (omega arith)) h

-- of the questions of both kinds those of the kind that was read
pub layers_asked : (wide : Bool) (n : ℕ) (p : List ℕ) → all_yes (cond wide (each_asks (layer_width true) n p) (each_asks (layer_width false) n p)) ≡ true → all_yes (each_asks (layer_width wide) n p) ≡ true
layers_asked true n p e = e
layers_asked false n p e = e
