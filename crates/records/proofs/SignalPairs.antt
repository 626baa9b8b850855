-- Two records, both or neither, are read by an optional one and its partner.
use Prim.Native.Nat.{ℕ}
use mathlib.Core.Path.{◌≡◌, refl, ap}
use mathlib.Core.Bool.{Bool, cond}
use mathlib.Core.List.{List}
use mathlib.Core.Option.{Option, none, some}
use Rattle.answers.specs.Answer.{Answer, gives, refuses, ◌>>=◌}
use Rattle.records.specs.Records.{carries, checked, Part}
use Rattle.records.specs.Format.{Front, front, plain, record_of, ◌then◌, decode_then, some_of, optional}

module _ (kind other : ℕ) (questions more : List ℕ → Answer Bool) where
  -- the second behind the first, and both together
  abbrev pub behind : Part → Answer (Front (Option (List ℕ × List ℕ)))
  behind p = checked other more p.rest >>= λ q. gives (front (some (p.payload, q.payload)) q.rest)

  both : (m : Answer Part) → some_of {A = List ℕ × List ℕ} ((m >>= λ p. gives (front p.payload p.rest)) >>= λ p. (checked other more p.rest >>= λ q. gives (front q.payload q.rest)) >>= λ q. gives (front (p.value, q.value) q.rest)) ≡ (m >>= behind)
  both (refuses r) = refl
  both (gives p) = by (checked other more p.rest)
    where
      by : (m : Answer Part) → some_of {A = List ℕ × List ℕ} ((m >>= λ q. gives (front q.payload q.rest)) >>= λ q. gives (front (p.payload, q.value) q.rest)) ≡ (m >>= λ q. gives (front (some (p.payload, q.payload)) q.rest))
      by (refuses r) = refl
      by (gives q) = refl

  pub pair_took : (s : List ℕ) → (optional kind (record_of kind (plain questions) then λ p. record_of other (plain more))).decode s
      ≡ cond (carries kind s) (checked kind questions s >>= behind) (gives (front none s))
  unfolding decode_then
  pair_took s = ap (λ (m : Answer (Front (Option (List ℕ × List ℕ)))). cond (carries kind s) m (gives (front none s))) (both (checked kind questions s))
