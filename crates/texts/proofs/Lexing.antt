-- Of specs/Pieces and specs/JobText: one word after the other, whatever stands behind it.
use Prim.Native.Nat.{ℕ, suc}
use Prim.Native.Char.{code}
use mathlib.Core.Path.{◌≡◌, refl, sym, ap, ap₂, ◌∙◌}
use mathlib.Core.Bool.{Bool, true, false, not, ◌&&◌, false≢true}
use mathlib.Core.List.{List, [], ◌∷◌, ◌++◌, append-nil}
use borrow.Author.Tests.{not-true}
use Rattle.nodes.specs.Lists.{all}
use Rattle.nodes.proofs.Logic.{and_out}
use Rattle.texts.specs.Pieces.{parting, until, past, pieces}
use Rattle.texts.specs.declared.pieces.Stop.TheVariants.{LineFeed, Comment, Blank}
use Rattle.texts.specs.JobText.{Reading, read, fault, TextRead, after_word, after_words, after_line, unless_fault, after_lines}
use Rattle.texts.proofs.Parting.{pieces-cons}

abbrev feeds : ℕ → Bool
feeds = parting LineFeed

abbrev comments : ℕ → Bool
comments = parting Comment

abbrev blanks : ℕ → Bool
blanks = parting Blank

-- ---- letters that part nothing, before other letters
abbrev pub free : (ℕ → Bool) → List ℕ → Bool
free p w = all (λ c. not (p c)) w

module _ (p : ℕ → Bool) where
  free_out : (c : ℕ) (w : List ℕ) → free p (c ∷ w) ≡ true → (p c ≡ false) × (free p w ≡ true)
  unfolding all
  free_out c w f = let (a, b) = and_out (not (p c)) (free p w) f in (not-true (p c) a, b)

  pub until_front : (w s : List ℕ) → free p w ≡ true → until p (w ++ s) ≡ w ++ until p s
  unfolding until
  until_front [] s f = refl
  until_front (c ∷ w) s f = let (a, b) = free_out c w f in rw (a, until_front w s b) refl

  pub past_front : (w s : List ℕ) → free p w ≡ true → past p (w ++ s) ≡ past p s
  unfolding past
  past_front [] s f = refl
  past_front (c ∷ w) s f = let (a, b) = free_out c w f in rw (a, past_front w s b) refl

  pieces_front : (c : ℕ) (w s : List ℕ) → free p (c ∷ w) ≡ true → pieces p (c ∷ w ++ s) ≡ (c ∷ w ++ until p s) ∷ pieces p (past p s)
  pieces_front c w s f =
      pieces-cons p c (w ++ s) ∙ ap₂ (λ (x y : List ℕ). x ∷ pieces p y) (until_front (c ∷ w) s f) (past_front (c ∷ w) s f)

-- ---- a word: some letters that end none
abbrev pub clean : List ℕ → Bool
clean w = free feeds w && free comments w && free blanks w

pub clean_out : (w : List ℕ) → clean w ≡ true → (free feeds w ≡ true) × (free comments w ≡ true) × (free blanks w ≡ true)
clean_out w f =
    let (both, c) = and_out (free feeds w && free comments w) (free blanks w) f in
    let (a, b) = and_out (free feeds w) (free comments w) both in
    (a, b, c)

pub clean_in : (w : List ℕ) → free feeds w ≡ true → free comments w ≡ true → free blanks w ≡ true → clean w ≡ true
clean_in w a b c = rw (a, b, c) refl

abbrev pub is_word : List ℕ → Bool
is_word [] = false
is_word (c ∷ w) = clean (c ∷ w)

-- what stands behind it ends it
pub data Ends : List ℕ → Type 0 where
  blank : (s : List ℕ) → Ends (code " " ∷ s)
  feed : (s : List ℕ) → Ends (code "\n" ∷ s)

module _ (room : ℕ) where
  -- what a text says from a reading on, with so many lines before it
  abbrev pub says_from : (before : ℕ) → Reading → List ℕ → TextRead
  says_from before r s = after_lines room before r (pieces feeds s)

  -- between blanks there is no word
  nothing : (r : Reading) → after_word room r [] ≡ r
  nothing (read k ns) = refl
  nothing (fault k) = refl

  line-cons : (before : ℕ) (r : Reading) (c : ℕ) (s : List ℕ) → says_from before r (c ∷ s)
      ≡ unless_fault before (after_line room r (until feeds (c ∷ s))) (λ next. says_from (suc before) next (past feeds (c ∷ s)))
  unfolding after_lines
  line-cons before r c s = ap (after_lines room before r) (pieces-cons feeds c s)

  -- a word, and then a blank or the end
  words_front : (r : Reading) (c : ℕ) (w s : List ℕ) → free blanks (c ∷ w) ≡ true → until blanks s ≡ []
      → after_words room r (pieces blanks (c ∷ w ++ s)) ≡ after_words room (after_word room r (c ∷ w)) (pieces blanks s)
  unfolding after_words past
  words_front r c w s f e =
      ap (after_words room r) (pieces_front blanks c w s f ∙ ap (λ (t : List ℕ). (c ∷ w ++ t) ∷ rest) e)
      ∙ ap (λ (t : List ℕ). after_words room (after_word room r t) rest) (append-nil (c ∷ w))
      ∙ sym (by s e)
    where
      rest : List (List ℕ)
      rest = pieces blanks (past blanks s)

      next : Reading
      next = after_word room r (c ∷ w)

      by : (s : List ℕ) → until blanks s ≡ [] → after_words room next (pieces blanks s) ≡ after_words room next (pieces blanks (past blanks s))
      by [] e = refl
      by (d ∷ s) e =
          ap (after_words room next) (pieces-cons blanks d s ∙ ap (λ (t : List ℕ). t ∷ pieces blanks (past blanks (d ∷ s))) e)
          ∙ ap (λ (x : Reading). after_words room x (pieces blanks (past blanks (d ∷ s)))) (nothing next)

  -- letters that end a word end it in its line, before a comment too
  ended : (s : List ℕ) → Ends s → until blanks (until comments (until feeds s)) ≡ []
  unfolding until
  ended s (blank t) = refl
  ended s (feed t) = refl

  line_front : (r : Reading) (c : ℕ) (w s : List ℕ) → clean (c ∷ w) ≡ true → Ends s
      → after_line room r (c ∷ w ++ until feeds s) ≡ after_line room (after_word room r (c ∷ w)) (until feeds s)
  line_front r c w s f e =
      let (a, b, d) = clean_out (c ∷ w) f in
      ap (λ (t : List ℕ). after_words room r (pieces blanks t)) (until_front comments (c ∷ w) (until feeds s) b)
      ∙ words_front r c w (until comments (until feeds s)) d (ended s e)

  -- a word in a text
  pub word_front : (before : ℕ) (r : Reading) (w s : List ℕ) → is_word w ≡ true → Ends s
      → says_from before r (w ++ s) ≡ says_from before (after_word room r w) s
  word_front before r [] s f e = absurd (false≢true f)
  word_front before r (c ∷ w) s f e =
      let a = (clean_out (c ∷ w) f).0 in
      line-cons before r c (w ++ s)
      ∙ ap₂ (λ (x y : List ℕ). unless_fault before (after_line room r x) (λ next. says_from (suc before) next y))
      (until_front feeds (c ∷ w) s a) (past_front feeds (c ∷ w) s a)
      ∙ ap (λ (x : Reading). unless_fault before x (λ next. says_from (suc before) next (past feeds s))) (line_front r c w s f e)
      ∙ sym (by s e)
    where
      by : (s : List ℕ) → Ends s → says_from before (after_word room r (c ∷ w)) s
          ≡ unless_fault before (after_line room (after_word room r (c ∷ w)) (until feeds s)) (λ next. says_from (suc before) next (past feeds s))
      by s (blank t) = line-cons before (after_word room r (c ∷ w)) (code " ") t
      by s (feed t) = line-cons before (after_word room r (c ∷ w)) (code "\n") t

  -- a blank before a word, and the end of a line
  skip_one : (before k : ℕ) (ns : List ℕ) (c : ℕ) (s : List ℕ) → says_from before (read k ns) (code " " ∷ c ∷ s) ≡ says_from before (read k ns) (c ∷ s)
  unfolding until past after_words pieces
  skip_one before k ns c s = line-cons before (read k ns) (code " ") (c ∷ s) ∙ sym (line-cons before (read k ns) c s)

  pub skip_blank : (before k : ℕ) (ns w s : List ℕ) → is_word w ≡ true
      → says_from before (read k ns) (code " " ∷ w ++ s) ≡ says_from before (read k ns) (w ++ s)
  skip_blank before k ns [] s f = absurd (false≢true f)
  skip_blank before k ns (c ∷ w) s f = skip_one before k ns c (w ++ s)

  pub skip_feed : (before k : ℕ) (ns s : List ℕ) → says_from before (read k ns) (code "\n" ∷ s) ≡ says_from (suc before) (read k ns) s
  unfolding until past after_words after_lines pieces
  skip_feed before k ns s = refl
