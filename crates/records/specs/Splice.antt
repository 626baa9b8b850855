-- Bytes put into a buffer at a place: the bytes before and behind them stay.
use Rattle.std.specs.Prelude.{ℕ, ◌+◌, ◌-◌, ◌≡◌, List, [], ◌++◌, length, take, drop, leb, Bool, cond, Option as Lent, Some, None}
use Rattle.answers.specs.Answer.{Answer, gives, asks, ◌>>◌}

unfoldable pub splice : ℕ → List ℕ → List ℕ → List ℕ
splice at bytes l = take at l ++ (bytes ++ drop (at + length bytes) l)

-- ---- at the front of a buffer
-- do the bytes fit it (20)?
abbrev pub fits_in : (bytes out : List ℕ) → Bool
fits_in bytes out = leb (length bytes) (length out)

-- the buffer with the bytes at its front, where they fit; else as it was
abbrev pub put_front : (bytes out : List ℕ) → List ℕ
put_front bytes out = cond (fits_in bytes out) (bytes ++ drop (length bytes) out) out

-- the bytes stand at the front, and n is their number
pub record Puts (bytes out : List ℕ) (out' : List ℕ) (n : ℕ) : Type 0 where
  pub front : out' ≡ bytes ++ drop (length bytes) out
  pub count : n ≡ length bytes

-- what is left of so much room, where they fit
abbrev pub left_of : (bytes : List ℕ) → ℕ → Lent ℕ
left_of bytes room = cond (leb (length bytes) room) (Some (room - length bytes)) None

-- of what may be there
abbrev pub option_bytes : {A : Type 0} → (A → List ℕ) → Lent A → List ℕ
option_bytes bytes None = []
option_bytes bytes (Some a) = bytes a

-- how many were put there
abbrev pub put_answer : (bytes out : List ℕ) → Answer ℕ
put_answer bytes out = asks 20 (fits_in bytes out) >> gives (length bytes)
