-- Bytes put behind a text, which has room for so many as the text of every job takes.
use Rattle.std.specs.Prelude.{ℕ, ◌+◌, ◌≤◌, ◌≡◌, List, ◌++◌, length}
use Rattle.texts.specs.Shown.{text_room}

-- there is room for them
abbrev pub HasRoom : (bytes text : List ℕ) → Type 0
HasRoom bytes text = length text + length bytes ≤ text_room

-- the text then
abbrev pub Puts : (bytes text next : List ℕ) → Type 0
Puts bytes text next = next ≡ text ++ bytes
