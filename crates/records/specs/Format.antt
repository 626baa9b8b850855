-- Formats: the values that a file may hold, how they are written and read, and how formats are put together.
use Rattle.std.specs.Prelude.{ℕ, Bool, true, cond, not, ◌&&◌, List, [], ◌++◌}
use Rattle.std.proofs.Math.Option.{Option, none, some}
use Rattle.answers.specs.Answer.{Answer, gives, ◌>>=◌}
use Rattle.records.specs.Records.{carries, all_yes, checked, written}

-- a value at the front of some bytes, and the bytes behind it
pub record Front (A : Type 0) : Type 0 where
  pub value : A
  pub rest : List ℕ

abbrev pub front : {A : Type 0} → A → List ℕ → Front A
front a t = record { value = a; rest = t }

pub record Format (A : Type 0) : Type 0 where
  -- the values that the format has, and their bytes
  pub valid : A → Bool
  pub encode : A → List ℕ
  -- the bytes that may stand behind those of a value
  pub may_follow : A → List ℕ → Bool
  -- the value at the front of some bytes, with document 01's questions in order
  pub decode : List ℕ → Answer (Front A)

-- ---- one record
-- the values of a payload and their bytes, the questions of the payload in order, and what it holds
pub record PayloadFormat (A : Type 0) : Type 0 where
  pub valid : A → Bool
  pub encode : A → List ℕ
  pub questions : List ℕ → Answer Bool
  pub value : List ℕ → A

-- a payload that stands for itself
abbrev pub plain : (List ℕ → Answer Bool) → PayloadFormat (List ℕ)
plain questions = record { valid = λ p. all_yes (questions p); encode = λ p. p; questions = questions; value = λ p. p }

abbrev pub record_of : {A : Type 0} → ℕ → PayloadFormat A → Format A
record_of kind p = record {
  valid = p.valid;
  encode = λ a. written kind (p.encode a);
  may_follow = λ a t. true;
  decode = λ s. checked kind p.questions s >>= λ r. gives (front (p.value r.payload) r.rest);
}

-- ---- one after the other; what was read first decides how to go on
unfoldable pub decode_then : {A B : Type 0} → (List ℕ → Answer (Front A)) → (A → List ℕ → Answer (Front B)) → List ℕ → Answer (Front (A × B))
decode_then f g s = f s >>= λ p. g p.value p.rest >>= λ q. gives (front (p.value, q.value) q.rest)

infixr 10 ◌then◌
abbrev pub ◌then◌ : {A B : Type 0} → Format A → (A → Format B) → Format (A × B)
f then g = record {
  valid = λ x. f.valid x.0 && (g x.0).valid x.1;
  encode = λ x. f.encode x.0 ++ (g x.0).encode x.1;
  may_follow = λ x t. f.may_follow x.0 ((g x.0).encode x.1 ++ t) && (g x.0).may_follow x.1 t;
  decode = decode_then f.decode (λ a. (g a).decode);
}

-- ---- an optional format is there where the next six bytes carry its first kind; where it has no place it is not looked for
abbrev pub some_of : {A : Type 0} → Answer (Front A) → Answer (Front (Option A))
some_of m = m >>= λ p. gives (front (some p.value) p.rest)

abbrev pub optional_valid : {A : Type 0} → (here : Bool) → Format A → Option A → Bool
optional_valid here f none = true
optional_valid here f (some a) = here && f.valid a

abbrev pub optional_encode : {A : Type 0} → Format A → Option A → List ℕ
optional_encode f none = []
optional_encode f (some a) = f.encode a

-- what carries its kind may not stand where it is left out
abbrev pub optional_may_follow : {A : Type 0} → (here : Bool) → ℕ → Format A → Option A → List ℕ → Bool
optional_may_follow here kind f none t = not (here && carries kind t)
optional_may_follow here kind f (some a) t = f.may_follow a t

abbrev pub optional_if : {A : Type 0} → (here : Bool) → ℕ → Format A → Format (Option A)
optional_if here kind f = record {
  valid = optional_valid here f;
  encode = optional_encode f;
  may_follow = optional_may_follow here kind f;
  decode = λ s. cond (here && carries kind s) (some_of (f.decode s)) (gives (front none s));
}

abbrev pub optional : {A : Type 0} → ℕ → Format A → Format (Option A)
optional = optional_if true

-- ---- two kinds in one place: the second where the next six bytes carry its kind; `second` tells which one a value has
abbrev pub choice : {A : Type 0} → (A → Bool) → Format A → ℕ → Format A → Format A
choice second f kind g = record {
  valid = λ a. cond (second a) (g.valid a) (f.valid a);
  encode = λ a. cond (second a) (g.encode a) (f.encode a);
  may_follow = λ a t. cond (second a) (g.may_follow a t) (f.may_follow a t);
  decode = λ s. cond (carries kind s) (g.decode s) (f.decode s);
}
