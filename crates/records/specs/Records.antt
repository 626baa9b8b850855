-- Records: payload length (4 bytes), kind (2 bytes), payload; little-endian. Bytes are numbers.
use Rattle.std.specs.Prelude.{ℕ, ◌+◌, ◌*◌, ◌/◌, ◌%◌, Bool, true, false, ◌&&◌, List, [], ◌∷◌, ◌++◌, eqb, leb, length, get_or, take, drop}
use Rattle.answers.specs.Answer.{Answer, gives, refuses, ◌>>=◌, ◌>>◌, asks}

abbrev pub kind_opening : ℕ
kind_opening = 0x0001

abbrev pub kind_edges : ℕ
kind_edges = 0x0002

abbrev pub kind_inputs : ℕ
kind_inputs = 0x0003

abbrev pub kind_outputs : ℕ
kind_outputs = 0x0004

abbrev pub kind_measurements : ℕ
kind_measurements = 0x0005

abbrev pub kind_layers : ℕ
kind_layers = 0x0011

abbrev pub kind_sets : ℕ
kind_sets = 0x0012

abbrev pub kind_no_flow : ℕ
kind_no_flow = 0x0013

abbrev pub kind_accepted : ℕ
kind_accepted = 0x0014

abbrev pub kind_refusal : ℕ
kind_refusal = 0x001F

abbrev pub kind_wide_layers : ℕ
kind_wide_layers = 0x0021

abbrev pub kind_set_signals : ℕ
kind_set_signals = 0x0022

abbrev pub kind_odd_signals : ℕ
kind_odd_signals = 0x0023

abbrev pub kind_angles : ℕ
kind_angles = 0x0024

-- the bytes of length and kind
abbrev pub head_bytes : ℕ
head_bytes = 6

-- the number that the first four bytes hold
unfoldable pub length_field : List ℕ → ℕ
length_field s = get_or s 0 0 + 256 * get_or s 1 0 + 65536 * get_or s 2 0 + 16777216 * get_or s 3 0

abbrev pub kind_field : List ℕ → ℕ
kind_field s = get_or s 4 0 + 256 * get_or s 5 0

-- six bytes are left, and they carry this kind
abbrev pub carries : ℕ → List ℕ → Bool
carries kind s = leb head_bytes (length s) && eqb (kind_field s) kind

-- a record at the front of a file: its payload and what follows
pub record Part : Type 0 where
  pub payload : List ℕ
  pub rest : List ℕ

-- Are six bytes left with the expected kind (1)? Is the whole payload there (2)?
unfoldable pub part : ℕ → List ℕ → Answer Part
part kind s = do
  asks 1 (carries kind s)
  asks 2 (leb (head_bytes + length_field s) (length s))
  gives (record { payload = take (length_field s) (drop head_bytes s); rest = drop (head_bytes + length_field s) s })

-- every question was answered yes
abbrev pub all_yes : Answer Bool → Bool
all_yes (gives b) = true
all_yes (refuses r) = false

-- a record whose payload passes its own questions
unfoldable pub checked : ℕ → (List ℕ → Answer Bool) → List ℕ → Answer Part
checked kind questions s = do
  p ← part kind s
  questions p.payload
  gives p

-- so many bytes for each of n nodes, and nothing more is asked
unfoldable pub each_asks : (width n : ℕ) → List ℕ → Answer Bool
each_asks width n p = asks 3 (eqb (length p) (width * n))

-- numbers in two bytes each, lowest first
unfoldable pub in_two_bytes : List ℕ → List ℕ
in_two_bytes [] = []
in_two_bytes (x ∷ l) = x % 256 ∷ x / 256 ∷ in_two_bytes l

unfoldable pub from_two_bytes : List ℕ → List ℕ
from_two_bytes [] = []
from_two_bytes (low ∷ []) = []
from_two_bytes (low ∷ high ∷ p) = (low + 256 * high) ∷ from_two_bytes p

-- the six bytes before a payload of that length
abbrev pub head_of : (len kind : ℕ) → List ℕ
head_of len kind = len % 256 ∷ len / 256 % 256 ∷ len / 256 / 256 % 256 ∷ len / 256 / 256 / 256 % 256 ∷ kind % 256 ∷ kind / 256 ∷ []

-- a record as it is written
unfoldable pub written : ℕ → List ℕ → List ℕ
written kind p = head_of (length p) kind ++ p
