-- Sets of numbers and rows of bits as functions, of any width: the width stands beside them.
use Rattle.std.specs.Prelude.{ℕ, zero, suc, ◌+◌, Bool, true, false, cond, ◌&&◌, ◌||◌, List, [], ◌∷◌}
use Rattle.nodes.specs.Bit.{◌⊕◌}

-- the sum mod 2 of f k over the k below n
unfoldable pub parity : ℕ → (ℕ → Bool) → Bool
parity zero f = false
parity (suc n) f = f n ⊕ parity n f

-- the sum mod 2 of the products of a and x, over the first n places
abbrev pub dot : ℕ → (ℕ → Bool) → (ℕ → Bool) → Bool
dot n a x = parity n (λ k. a k && x k)

-- some k below n is in s
unfoldable pub any_below : ℕ → (ℕ → Bool) → Bool
any_below zero s = false
any_below (suc n) s = s n || any_below n s

-- each k below n is in s
unfoldable pub all_below : ℕ → (ℕ → Bool) → Bool
all_below zero s = true
all_below (suc n) s = s n && all_below n s

-- how many k below n are in s
unfoldable pub count : ℕ → (ℕ → Bool) → ℕ
count zero s = 0
count (suc n) s = cond (s n) (suc (count n s)) (count n s)

-- the least of the n numbers from k on that is in s, and k + n where none is
unfoldable pub lowest_from : ℕ → ℕ → (ℕ → Bool) → ℕ
lowest_from k zero s = k
lowest_from k (suc n) s = let rest = lowest_from (k + 1) n s in cond (s k) k rest

-- the least number below n that is in s, and n where none is
abbrev pub lowest : ℕ → (ℕ → Bool) → ℕ
lowest n s = lowest_from 0 n s

-- of the n numbers from k on those that are in s, ascending
unfoldable pub members_from : ℕ → ℕ → (ℕ → Bool) → List ℕ
members_from k zero s = []
members_from k (suc n) s = let rest = members_from (k + 1) n s in cond (s k) (k ∷ rest) rest

-- the numbers below n that are in s, ascending
abbrev pub members : ℕ → (ℕ → Bool) → List ℕ
members n s = members_from 0 n s
