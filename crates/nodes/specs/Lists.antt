-- Lists: whether a number is in one, whether two are the same, whether every element passes, and a list by what stands at each place.
use Rattle.std.specs.Prelude.{ℕ, zero, suc, Bool, true, false, ◌&&◌, ◌||◌, List, [], ◌∷◌, eqb, replicate}

unfoldable pub has : List ℕ → ℕ → Bool
has [] u = false
has (a ∷ l) u = eqb a u || has l u

unfoldable pub equal : List ℕ → List ℕ → Bool
equal [] [] = true
equal [] (b ∷ m) = false
equal (a ∷ l) [] = false
equal (a ∷ l) (b ∷ m) = eqb a b && equal l m

-- every element passes
unfoldable pub all : (ℕ → Bool) → List ℕ → Bool
all p [] = true
all p (x ∷ l) = p x && all p l

-- f 0, f 1, .. f (n - 1)
unfoldable pub list_of : {A : Type 0} → ℕ → (ℕ → A) → List A
list_of zero f = []
list_of (suc n) f = f 0 ∷ list_of n (λ k. f (suc k))

-- n zeros
abbrev pub zeros : ℕ → List ℕ
zeros n = replicate n 0
