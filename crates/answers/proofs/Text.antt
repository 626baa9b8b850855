-- Lines of a text, and the text of a list of words: its line k is the words at place k.
use Prim.Native.Nat.{ℕ, zero, suc, ◌≤◌, ◌<◌}
use Prim.Native.String.{String}
use mathlib.Core.Path.{◌≡◌, refl, ap, ◌∙◌}
use mathlib.Core.Bool.{Bool, true, false, not, ◌&&◌, false≢true}
use mathlib.Core.List.{List, [], ◌∷◌, ◌++◌}
use native.Mathlib.Omega.{arith}
use native.Mathlib.Nat.{not-suc-le-zero, le_of_suc-le-suc}
use lib.Dec.{eqb}
use lib.ListN.{length, get_or}
use Rattle.answers.specs.Message.{codes}
use Rattle.answers.specs.Text.{line_feed, behind, first_line, or_all}

-- ---- a line by its number
pub or_some : (rest text : List ℕ) → (length rest ≡ 0 → ⊥) → or_all rest text ≡ rest
or_some [] text h = absurd (h refl)
or_some (c ∷ rest) text h = refl

-- ---- the text of a list of words
unfoldable pub text_of : List String → List ℕ
text_of [] = []
text_of (w ∷ ws) = codes w ++ (line_feed ∷ text_of ws)

-- no line feed in it
unfoldable pub clean : List ℕ → Bool
clean [] = true
clean (c ∷ s) = not (eqb c line_feed) && clean s

unfoldable pub all_clean : List String → Bool
all_clean [] = true
all_clean (w ∷ ws) = clean (codes w) && all_clean ws

clean_out : (c : ℕ) (s : List ℕ) → clean (c ∷ s) ≡ true → (eqb c line_feed ≡ false) × (clean s ≡ true)
unfolding clean
clean_out c s h = by (eqb c line_feed) h
  where
    by : (t : Bool) → (not t && clean s) ≡ true → (t ≡ false) × (clean s ≡ true)
    by false h = (refl, h)
    by true h = absurd (false≢true h)

all_clean_out : (w : String) (ws : List String) → all_clean (w ∷ ws) ≡ true → (clean (codes w) ≡ true) × (all_clean ws ≡ true)
unfolding all_clean
all_clean_out w ws h = by (clean (codes w)) h
  where
    by : (t : Bool) → (t && all_clean ws) ≡ true → (t ≡ true) × (all_clean ws ≡ true)
    by true h = (refl, h)
    by false h = absurd (false≢true h)

skip : (k : ℕ) (s t : List ℕ) → clean s ≡ true → behind (suc k) (s ++ (line_feed ∷ t)) ≡ behind k t
unfolding behind
skip k [] t h = refl
skip k (c ∷ s) t h = let (f, g) = clean_out c s h in rw f (skip k s t g)

whole : (s t : List ℕ) → clean s ≡ true → first_line (s ++ (line_feed ∷ t)) ≡ s
unfolding first_line
whole [] t h = refl
whole (c ∷ s) t h = let (f, g) = clean_out c s h in rw f (ap (λ (l : List ℕ). c ∷ l) (whole s t g))

some_text : (s t : List ℕ) → length (s ++ (line_feed ∷ t)) ≡ 0 → ⊥
some_text [] t h = omega arith
some_text (c ∷ s) t h = omega arith

-- line k has the words at place k; past the last nothing is left
pub line_words : (ws : List String) (k : ℕ) (other : String) → all_clean ws ≡ true → k < length ws
    → (length (behind k (text_of ws)) ≡ 0 → ⊥) × (first_line (behind k (text_of ws)) ≡ codes (get_or ws k other))
unfolding text_of behind
line_words [] k other h l = absurd (not-suc-le-zero l)
line_words (w ∷ ws) zero other h l = let (f, g) = all_clean_out w ws h in (some_text (codes w) (text_of ws), whole (codes w) (text_of ws) f)
line_words (w ∷ ws) (suc k) other h l = let (f, g) = all_clean_out w ws h in rw (skip k (codes w) (text_of ws) f) (line_words ws k other g (le_of_suc-le-suc l))

pub no_line : (ws : List String) (k : ℕ) → all_clean ws ≡ true → length ws ≤ k → behind k (text_of ws) ≡ []
unfolding text_of behind
no_line [] zero h l = refl
no_line [] (suc k) h l = refl
no_line (w ∷ ws) zero h l = absurd (not-suc-le-zero l)
no_line (w ∷ ws) (suc k) h l = let (f, g) = all_clean_out w ws h in skip k (codes w) (text_of ws) f ∙ no_line ws k g (le_of_suc-le-suc l)
