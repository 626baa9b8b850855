-- Of specs/JobText: the numbers of a text as the buffer holds them, and the lists in them.
use Prim.Native.Nat.{ℕ, zero, suc, ◌+◌, ◌-◌, ◌*◌, ◌≤◌, ◌<◌}
use mathlib.Core.Path.{◌≡◌, refl, sym, ap, ap₂, ◌∙◌}
use mathlib.Core.List.{List, [], ◌∷◌, ◌++◌, append_assoc}
use native.Mathlib.Nat.{not-suc-le-zero, le_of_suc-le-suc}
use native.Mathlib.Omega.{arith}
use borrow.Author.Tests.{lt-ltb, le-ltb, eq-eqb}
use lib.ListN.{length, get_or, get_or-eq_default, set, take, drop, drop_of_length-le}
use Rattle.nodes.specs.Lists.{zeros}
use Rattle.answers.specs.Answer.{gives, ◌>>=◌}
use Rattle.texts.specs.Words.{first_measurement, outputs_name}
use Rattle.texts.specs.JobText.{behind, measured_one, measured}
use Rattle.std.proofs.lemmas.List.{drop_more}
use Rattle.texts.specs.Views.{place_of, bytes_of}
use Rattle.texts.proofs.Naming.{place_other}
use Rattle.texts.specs.declared.names.Name.{Name}

-- ---- the numbers as bytes, each behind the place of its name
pub bytes_long : (ps : List (Name × ℕ)) → length (bytes_of ps) ≡ 2 * length ps
unfolding bytes_of
bytes_long [] = refl
bytes_long (p ∷ ps) = omega (arith, bytes_long ps)

pub bytes_both : (ps qs : List (Name × ℕ)) → bytes_of (ps ++ qs) ≡ bytes_of ps ++ bytes_of qs
unfolding bytes_of
bytes_both [] qs = refl
bytes_both (p ∷ ps) qs = ap (λ (l : List ℕ). place_of p.0 ∷ p.1 ∷ l) (bytes_both ps qs)

pub number_here : (ps : List (Name × ℕ)) (i : ℕ) (d : Name × ℕ) → i < length ps → get_or (bytes_of ps) (2 * i + 1) 0 ≡ (get_or ps i d).1
unfolding bytes_of
number_here [] i d h = absurd (not-suc-le-zero h)
number_here (p ∷ ps) zero d h = refl
number_here (p ∷ ps) (suc i) d h =
    ap (λ (k : ℕ). get_or (place_of p.0 ∷ p.1 ∷ bytes_of ps) k 0) (later i) ∙ number_here ps i d (le_of_suc-le-suc h)
  where
    later : (i : ℕ) → 2 * suc i + 1 ≡ suc (suc (2 * i + 1))
    later i = omega arith

pub number_none : (ps : List (Name × ℕ)) (i : ℕ) → length ps ≤ i → get_or (bytes_of ps) (2 * i + 1) 0 ≡ 0
number_none ps i h = get_or-eq_default (bytes_of ps) 0 (omega (arith, bytes_long ps))

-- ---- one measured node
module _ (name x : ℕ) (table : List ℕ) where
  pub measured_not : name < first_measurement → gives table ≡ measured_one name x table
  measured_not h = rw (lt-ltb name first_measurement h) refl

  module _ (m : first_measurement ≤ name) where
    pub measured_node : x < length table → get_or table x 0 ≡ 0 → gives (set table x (name - outputs_name)) ≡ measured_one name x table
    measured_node h e = rw (le-ltb name first_measurement m, lt-ltb x (length table) h, eq-eqb (get_or table x 0) 0 e) refl

-- ---- number by number
module _ (ps : List (Name × ℕ)) (i : ℕ) (d : Name × ℕ) (h : i < length ps) where
  abbrev this : Name × ℕ
  this = get_or ps i d

  left : drop i ps ≡ this ∷ drop (i + 1) ps
  left = drop_more ps i d h

  pub measured_more : (table : List ℕ) → measured (bytes_of (drop i ps)) table ≡ (measured_one (place_of this.0) this.1 table >>= measured (bytes_of (drop (i + 1) ps)))
  unfolding measured bytes_of
  measured_more table = ap (λ (l : List (Name × ℕ)). measured (bytes_of l) table) left

  pub behind_this : (name : Name) → this.0 ≡ name → behind (place_of name) (bytes_of (drop i ps)) ≡ this.1 ∷ behind (place_of name) (bytes_of (drop (i + 1) ps))
  unfolding behind bytes_of
  behind_this name e = ap (λ (l : List (Name × ℕ)). behind (place_of name) (bytes_of l)) left ∙ rw (eq-eqb (place_of this.0) (place_of name) (ap place_of e)) refl

  pub behind_other : (name : Name) → (this.0 ≡ name → ⊥) → behind (place_of name) (bytes_of (drop i ps)) ≡ behind (place_of name) (bytes_of (drop (i + 1) ps))
  unfolding behind bytes_of
  behind_other name e = ap (λ (l : List (Name × ℕ)). behind (place_of name) (bytes_of l)) left ∙ rw (place_other this.0 name e) refl

  pub one_more : (values after : List ℕ) (name : Name) → this.0 ≡ name → after ≡ values ++ this.1 ∷ []
      → after ++ behind (place_of name) (bytes_of (drop (i + 1) ps)) ≡ values ++ behind (place_of name) (bytes_of (drop i ps))
  one_more values after name e f =
      let rest = behind (place_of name) (bytes_of (drop (i + 1) ps)) in
      ap (λ (l : List ℕ). l ++ rest) f ∙ append_assoc values (this.1 ∷ []) rest ∙ ap (λ (l : List ℕ). values ++ l) (sym (behind_this name e))

  pub none_more : (values after : List ℕ) (name : Name) → (this.0 ≡ name → ⊥) → after ≡ values
      → after ++ behind (place_of name) (bytes_of (drop (i + 1) ps)) ≡ values ++ behind (place_of name) (bytes_of (drop i ps))
  none_more values after name e f = ap₂ ◌++◌ f (sym (behind_other name e))

pub behind_none : (name : Name) (ps : List (Name × ℕ)) (i : ℕ) → length ps ≤ i → behind (place_of name) (bytes_of (drop i ps)) ≡ []
unfolding behind bytes_of
behind_none name ps i h = ap (λ (l : List (Name × ℕ)). behind (place_of name) (bytes_of l)) (drop_of_length-le ps {i = i} h)

pub measured_last : (ps : List (Name × ℕ)) (i : ℕ) (table : List ℕ) → length ps ≤ i → measured (bytes_of (drop i ps)) table ≡ gives table
unfolding measured bytes_of
measured_last ps i table h = ap (λ (l : List (Name × ℕ)). measured (bytes_of l) table) (drop_of_length-le ps {i = i} h)

-- ---- a table of zeros
pub fewer_zeros : (m n : ℕ) → n ≤ m → take n (zeros m) ≡ zeros n
fewer_zeros m zero h = refl
fewer_zeros zero (suc n) h = absurd (not-suc-le-zero h)
fewer_zeros (suc m) (suc n) h = ap (λ (l : List ℕ). 0 ∷ l) (fewer_zeros m n (le_of_suc-le-suc h))
