-- Going through the record of angles, byte by byte and entry by entry.
use Prim.Native.Nat.{ℕ, zero, suc, ◌+◌, ◌<◌}
use mathlib.Core.Path.{◌≡◌, refl, sym, ap, ap₂, ◌∙◌}
use mathlib.Core.Bool.{Bool, true, false, ◌&&◌}
use mathlib.Core.List.{List, [], ◌∷◌, ◌++◌, append_assoc}
use native.Mathlib.Numerals.{add-one}
use native.Mathlib.Omega.{arith}
use lib.ListN.{length, get_or, set, drop}
use lib.Seq.{drop-cons, set_at}
use Rattle.std.specs.Int.{w64, from_le_bytes}
use Rattle.nodes.specs.Row.{all_below}
use Rattle.nodes.specs.Lists.{list_of}
use Rattle.nodes.proofs.Logic.{is_false, from_false}
use Rattle.nodes.proofs.Row.{all_out}
use Rattle.nodes.proofs.Lists.{length-list_of}
use Rattle.angles.specs.Angle.{read_bits, entry_allowed}
use Rattle.angles.specs.AngleRecord.{little, bits_at, inferred_from}

-- ---- the questions and the values of node u, as the record's definitions have them
abbrev pub allowed_at : (output : ℕ → Bool) → List ℕ → ℕ → Bool
allowed_at output angles u = entry_allowed (output u) (bits_at angles u)

abbrev pub inferred_at : (planes angles : List ℕ) → ℕ → ℕ
inferred_at planes angles u = inferred_from (get_or planes u 0) (read_bits (bits_at angles u))

-- ---- bytes
-- the eight bytes of an angle, lowest first
pub little_8 : (bytes : List ℕ) → length bytes ≡ 8 → from_le_bytes w64 bytes ≡ little bytes
unfolding little
little_8 [] l = absurd (omega arith)
little_8 (a ∷ []) l = absurd (omega arith)
little_8 (a ∷ b ∷ []) l = absurd (omega arith)
little_8 (a ∷ b ∷ c ∷ []) l = absurd (omega arith)
little_8 (a ∷ b ∷ c ∷ d ∷ []) l = absurd (omega arith)
little_8 (a ∷ b ∷ c ∷ d ∷ e ∷ []) l = absurd (omega arith)
little_8 (a ∷ b ∷ c ∷ d ∷ e ∷ f ∷ []) l = absurd (omega arith)
little_8 (a ∷ b ∷ c ∷ d ∷ e ∷ f ∷ g ∷ []) l = absurd (omega arith)
little_8 (a ∷ b ∷ c ∷ d ∷ e ∷ f ∷ g ∷ h ∷ []) l = omega arith
little_8 (a ∷ b ∷ c ∷ d ∷ e ∷ f ∷ g ∷ h ∷ x ∷ bytes) l = absurd (omega arith)

-- ---- entries
-- one more entry is allowed
pub all_next : (n : ℕ) (s : ℕ → Bool) → all_below n s ≡ true → s n ≡ true → all_below (n + 1) s ≡ true
unfolding all_below
all_next n s e a = ap (λ (x : ℕ). all_below x s) (add-one n) ∙ ap₂ ◌&&◌ a e

-- one is not
pub all_fails : (n : ℕ) (s : ℕ → Bool) (u : ℕ) → u < n → s u ≡ false → all_below n s ≡ false
all_fails n s u l e = is_false (all_below n s) (λ t. from_false (s u) e (all_out n s t u l))

-- one more value at the end
list_next : (n : ℕ) (f : ℕ → ℕ) → list_of (suc n) f ≡ list_of n f ++ f n ∷ []
unfolding list_of
list_next zero f = refl
list_next (suc n) f = ap (λ (l : List ℕ). f 0 ∷ l) (list_next n (λ k. f (suc k)))

-- the value written at the place reached
pub put_next : (u : ℕ) (f : ℕ → ℕ) (l : List ℕ) (x : ℕ) → u < length l → x ≡ f u → set (list_of u f ++ drop u l) u x ≡ list_of (u + 1) f ++ drop (u + 1) l
put_next u f l x h e =
    ap (λ (t : List ℕ). set (list_of u f ++ t) u x) (drop-cons l u 0 h)
    ∙ set_at (list_of u f) (get_or l u 0) (drop (suc u) l) x u (length-list_of u f)
    ∙ ap (λ (y : ℕ). list_of u f ++ y ∷ drop (suc u) l) e
    ∙ sym (append_assoc (list_of u f) (f u ∷ []) (drop (suc u) l))
    ∙ ap (λ (t : List ℕ). t ++ drop (suc u) l) (sym (list_next u f))
    ∙ ap (λ (n : ℕ). list_of n f ++ drop n l) (sym (add-one u))
