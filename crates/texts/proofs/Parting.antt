-- Of specs/Pieces: the first piece from a place on, and all pieces one after the other.
use Prim.Native.Nat.{ℕ, zero, suc, ◌+◌, ◌-◌, ◌≤◌, ◌<◌}
use mathlib.Core.Path.{◌≡◌, refl, sym, ap, ap₂, ◌∙◌}
use mathlib.Core.Bool.{Bool, true, false, cond}
use mathlib.Core.List.{List, [], ◌∷◌, ◌++◌, append_assoc, append-nil}
use native.Mathlib.Numerals.{add-one}
use native.Mathlib.Omega.{arith}
use lib.ListN.{length, get_or, take, drop, length-drop, drop_of_length-le}
use lib.Seq.{drop-cons, take_all, take-suc, get_or-drop}
use Rattle.texts.specs.Pieces.{until, past, onto, pieces}

pub rest : (s : List ℕ) (i : ℕ) → i < length s → drop i s ≡ get_or s i 0 ∷ drop (i + 1) s
rest s i h = drop-cons s i 0 h ∙ ap (λ (k : ℕ). get_or s i 0 ∷ drop k s) (next i)
  where
    next : (i : ℕ) → suc i ≡ i + 1
    next i = omega arith

-- ---- letter by letter
-- the piece is what lies between its start and the place reached, and what is still to come
abbrev pub IsReached : (ℕ → Bool) → List ℕ → (from i : ℕ) → Type 0
IsReached p s from i = (take (i - from) (drop from s) ++ until p (drop i s) ≡ until p (drop from s)) × (past p (drop i s) ≡ past p (drop from s))

module _ (p : ℕ → Bool) (s : List ℕ) where
  pub reached_start : (from : ℕ) → IsReached p s from from
  reached_start from = let e : from - from ≡ 0 = omega arith in (ap (λ (k : ℕ). take k (drop from s) ++ until p (drop from s)) e, refl)

  module _ (from i : ℕ) (l : from ≤ i) where
    -- where nothing of the piece is to come, it is what was passed
    ended : take (i - from) (drop from s) ++ until p (drop i s) ≡ until p (drop from s) → until p (drop i s) ≡ [] → take (i - from) (drop from s) ≡ until p (drop from s)
    ended e z = sym (append-nil (take (i - from) (drop from s))) ∙ ap (λ (t : List ℕ). take (i - from) (drop from s) ++ t) (sym z) ∙ e

    pub reached_stop : i < length s → p (get_or s i 0) ≡ true → IsReached p s from i → (take (i - from) (drop from s) ≡ until p (drop from s)) × (drop (i + 1) s ≡ past p (drop from s))
    unfolding until past
    reached_stop h t (e, f) = (ended e (rw (rest s i h, t) refl), sym (rw (rest s i h, t) refl) ∙ f)

    pub reached_end : length s ≤ i → IsReached p s from i → (take (i - from) (drop from s) ≡ until p (drop from s)) × (drop (i + 1) s ≡ past p (drop from s))
    unfolding until past
    reached_end h (e, f) = (ended e (rw (drop_of_length-le s {i = i} h) refl), drop_of_length-le s {i = i + 1} (omega arith) ∙ sym (rw (drop_of_length-le s {i = i} h) refl) ∙ f)

    pub reached_on : i < length s → p (get_or s i 0) ≡ false → IsReached p s from i → IsReached p s from (i + 1)
    unfolding until past
    reached_on h t (e, f) = (
      ap (λ (t : List ℕ). t ++ until p (drop (i + 1) s)) (more (i - from) (i + 1 - from) refl (omega arith))
          ∙ append_assoc (take (i - from) (drop from s)) (get_or s i 0 ∷ []) (until p (drop (i + 1) s))
          ∙ ap (λ (t : List ℕ). take (i - from) (drop from s) ++ t) (sym (rw (rest s i h, t) refl))
          ∙ e,
      sym (rw (rest s i h, t) refl) ∙ f,
    )
      where
        more : (k m : ℕ) → k ≡ i - from → m ≡ suc k → take m (drop from s) ≡ take k (drop from s) ++ (get_or s i 0 ∷ [])
        more k m y z =
            ap (λ (j : ℕ). take j (drop from s)) z
            ∙ take-suc (drop from s) k 0 (omega (arith, length-drop from s))
            ∙ ap (λ (x : ℕ). take k (drop from s) ++ (x ∷ [])) (get_or-drop from s k 0 ∙ ap (λ (j : ℕ). get_or s j 0) (omega arith))

-- as the code finds it: the first letter that parts, or none
module _ (p : ℕ → Bool) (s : List ℕ) where
  reached : (i : ℕ) → i ≤ length s → ((k : ℕ) → k < i → p (get_or s k 0) ≡ false) → IsReached p s 0 i
  reached zero h f = reached_start p s 0
  reached (suc i) h f =
      rw (← add-one i) (reached_on p s 0 i (omega arith) (omega arith) (f i (omega arith)) (reached i (omega arith) (λ k l. f k (omega arith))))

  pub parted_at : (i : ℕ) → i < length s → p (get_or s i 0) ≡ true → ((k : ℕ) → k < i → p (get_or s k 0) ≡ false) → (take i s ≡ until p s) × (drop (i + 1) s ≡ past p s)
  parted_at i h t f =
      let (e, d) = reached_stop p s 0 i (omega arith) h t (reached i (omega arith) f) in
      (ap (λ (k : ℕ). take k s) (same i) ∙ e, d)
    where
      same : (i : ℕ) → i ≡ i - 0
      same i = omega arith

  pub parted_nowhere : ((k : ℕ) → k < length s → p (get_or s k 0) ≡ false) → (s ≡ until p s) × ([] ≡ past p s)
  parted_nowhere f =
      let (e, d) = reached_end p s 0 (length s) (omega arith) (omega arith) (reached (length s) (omega arith) f) in
      (sym (take_all (length s - 0) s (omega arith)) ∙ e, sym (drop_of_length-le s {i = length s + 1} (omega arith)) ∙ d)

-- ---- piece by piece
pub pieces-cons : (p : ℕ → Bool) (c : ℕ) (s : List ℕ) → pieces p (c ∷ s) ≡ until p (c ∷ s) ∷ pieces p (past p (c ∷ s))
unfolding pieces until past
pieces-cons p c [] = by (p c)
  where
    by : (t : Bool) → cond t ([] ∷ []) (onto c []) ≡ cond t [] (c ∷ []) ∷ pieces p (cond t [] [])
    by true = refl
    by false = refl
pieces-cons p c (d ∷ s) = by (p c) (pieces-cons p d s)
  where
    by : (t : Bool) → pieces p (d ∷ s) ≡ until p (d ∷ s) ∷ pieces p (past p (d ∷ s))
        → cond t ([] ∷ pieces p (d ∷ s)) (onto c (pieces p (d ∷ s))) ≡ cond t [] (c ∷ until p (d ∷ s)) ∷ pieces p (cond t (d ∷ s) (past p (d ∷ s)))
    by true e = refl
    by false e = ap (onto c) e

module _ (p : ℕ → Bool) (s : List ℕ) (i : ℕ) where
  pub pieces_next : i < length s → pieces p (drop i s) ≡ until p (drop i s) ∷ pieces p (past p (drop i s))
  pieces_next h = ap (pieces p) (rest s i h) ∙ pieces-cons p (get_or s i 0) (drop (i + 1) s) ∙ sym (ap (λ (t : List ℕ). until p t ∷ pieces p (past p t)) (rest s i h))

  pub pieces_end : length s ≤ i → pieces p (drop i s) ≡ []
  unfolding pieces
  pieces_end h = ap (pieces p) (drop_of_length-le s {i = i} h)

  -- as the code has it: the piece between two places, and those from the next place on
  pub pieces_step : (end next : ℕ) → i < length s → take (end - i) (drop i s) ≡ until p (drop i s) → drop next s ≡ past p (drop i s) → pieces p (drop i s) ≡ take (end - i) (drop i s) ∷ pieces p (drop next s)
  pieces_step end next h e f = pieces_next h ∙ ap₂ (λ (x y : List ℕ). x ∷ pieces p y) (sym e) (sym f)

pub pieces_more : (p : ℕ → Bool) (s : List ℕ) → 0 < length s → pieces p s ≡ until p s ∷ pieces p (past p s)
pieces_more p s h = pieces_next p s 0 h

-- no more pieces than letters
pub pieces_few : (p : ℕ → Bool) (s : List ℕ) → length (pieces p s) ≤ length s
unfolding pieces
pieces_few p [] = omega arith
pieces_few p (c ∷ s) = by (p c) (pieces p s) (pieces_few p s)
  where
    by : (t : Bool) (l : List (List ℕ)) → length l ≤ length s → length (cond t ([] ∷ l) (onto c l)) ≤ suc (length s)
    by true l h = omega arith
    by false [] h = omega arith
    by false (x ∷ l) h = omega arith
