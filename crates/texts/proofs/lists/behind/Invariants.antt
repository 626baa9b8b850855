use Rattle.std.proofs.Common.{◌≡◌, ◌≤◌, ◌++◌, length, drop}
use Rattle.texts.specs.JobText.{behind}
use Rattle.texts.specs.Views.{place_of, bytes_of}
use Rattle.texts.proofs.lists.behind.Given as goal

abbrev pub invariant-loop-number : goal.invariant-loop-number
invariant-loop-number l =
    (length l.values.items ≤ l.number-index)
    × (l.values.items ++ behind (place_of l.name) (bytes_of (drop l.number-index l.number-items)) ≡ behind (place_of l.name) (bytes_of l.number-items))
