-- What a buffer holds after a call.
use Rattle.std.specs.Prelude.{ℕ, Bool, ◌&&◌, List, eqb, leb, length, get_or}
use Rattle.nodes.specs.Row.{all_below}

-- the byte of the result, and past its end the fill
abbrev pub holds_at : (buffer result : List ℕ) (fill at : ℕ) → Bool
holds_at buffer result fill at = eqb (get_or buffer at 0) (get_or result at fill)

-- the whole result, and behind it nothing but the fill
abbrev pub holds_only : (buffer result : List ℕ) (fill : ℕ) → Bool
holds_only buffer result fill = leb (length result) (length buffer) && all_below (length buffer) (holds_at buffer result fill)
