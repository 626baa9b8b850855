-- Of specs/Words: the names by their places, and the place of a word among them.
use Prim.Native.Nat.{ℕ, suc, ◌≤◌, ◌<◌}
use mathlib.Core.Path.{◌≡◌, refl, sym, ap, ap₂, ◌∙◌}
use mathlib.Core.Bool.{Bool, true, false, cond, false≢true}
use mathlib.Core.List.{List, [], ◌∷◌, map}
use lib.Dec.{eqb}
use lib.ListN.{length, get_or}
use Rattle.std.specs.Prelude.{Option, Some, None, MatchOption}
use Rattle.std.specs.List.{AllWithin}
use Rattle.nodes.proofs.Logic.{and_out}
use Rattle.answers.specs.Message.{codes}
use Rattle.texts.specs.Pieces.{pieces}
use Rattle.texts.specs.Views.{place_of}
use Rattle.texts.specs.declared.names.Name.{Name}
use Rattle.texts.specs.declared.names.Name.TheVariants.{Nodes, Mode, Edges, Inputs, Outputs, Xy, Yz, Xz, X, Y, Z}
use native.Mathlib.Omega.{arith}
use Rattle.nodes.specs.Lists.{equal}
use Rattle.texts.specs.Words.{Name as named, names, name_count, place_in, numbers_of, word_of}
use borrow.Author.Tests.{lt-ltb, le-ltb, eqb-true, ne_eqb}

-- ---- names and places
abbrev pub all_names : List Name
all_names = Nodes ∷ Mode ∷ Edges ∷ Inputs ∷ Outputs ∷ Xy ∷ Yz ∷ Xz ∷ X ∷ Y ∷ Z ∷ []

abbrev named_at : ℕ → Name
named_at k = get_or all_names k Nodes

back : (a : Name) → named_at (place_of a) ≡ a
back Nodes = refl
back Mode = refl
back Edges = refl
back Inputs = refl
back Outputs = refl
back Xy = refl
back Yz = refl
back Xz = refl
back X = refl
back Y = refl
back Z = refl

pub place_other : (a b : Name) → (a ≡ b → ⊥) → eqb (place_of a) (place_of b) ≡ false
place_other a b h = ne_eqb (place_of a) (place_of b) (λ e. h (sym (back a) ∙ ap named_at e ∙ back b))

-- ---- words and places
abbrev pub spelled : Name → List ℕ
spelled a = get_or names (place_of a) []

equal_same : (l m : List ℕ) → equal l m ≡ true → l ≡ m
unfolding equal
equal_same [] [] e = refl
equal_same [] (b ∷ m) e = absurd (false≢true e)
equal_same (a ∷ l) [] e = absurd (false≢true e)
equal_same (a ∷ l) (b ∷ m) e = let (f, g) = and_out (eqb a b) (equal l m) e in ap₂ ◌∷◌ (eqb-true a b f) (equal_same l m g)

equal_other : (l m : List ℕ) → (l ≡ m → ⊥) → equal l m ≡ false
equal_other l m h = by (equal l m) refl
  where
    by : (t : Bool) → equal l m ≡ t → t ≡ false
    by true e = absurd (h (equal_same l m e))
    by false e = refl

place_here : (a : Name) → place_in names (spelled a) ≡ place_of a
unfolding codes pieces equal place_in
place_here Nodes = refl
place_here Mode = refl
place_here Edges = refl
place_here Inputs = refl
place_here Outputs = refl
place_here Xy = refl
place_here Yz = refl
place_here Xz = refl
place_here X = refl
place_here Y = refl
place_here Z = refl

place_nowhere : (w : List ℕ) (l : List Name) → AllWithin (λ a. spelled a ≡ w → ⊥) l 0 (length l) → place_in (map spelled l) w ≡ length l
unfolding place_in
place_nowhere w [] h = refl
place_nowhere w (a ∷ l) h = rw (equal_other (spelled a) w (h 0 a (omega arith) (omega arith))) (ap suc (place_nowhere w l (λ k d g m. h (suc k) d (omega arith) (omega arith))))

-- what a search through the names finds
pub name_found : (w : List ℕ) (r : Option Name) → MatchOption r (AllWithin (λ a. spelled a ≡ w → ⊥) all_names 0 (length all_names)) (λ a. spelled a ≡ w) → MatchOption r (place_in names w ≡ name_count) (λ a. place_in names w ≡ place_of a)
unfolding codes pieces
name_found w (Some a) e = ap (place_in names) (sym e) ∙ place_here a
name_found w None h = place_nowhere w all_names h

-- a name, or what its numbers make of a word
module _ (w : List ℕ) (k : ℕ) (e : k ≡ place_in names w) where
  pub word_name : k < name_count → named k ≡ word_of w
  word_name h = ap named e ∙ sym (ap (λ (t : Bool). cond t (named (place_in names w)) (numbers_of w)) (lt-ltb (place_in names w) name_count (omega arith)))

  pub word_numbers : name_count ≤ k → word_of w ≡ numbers_of w
  word_numbers h = ap (λ (t : Bool). cond t (named (place_in names w)) (numbers_of w)) (le-ltb (place_in names w) name_count (omega arith))
