use Prim.Native.Nat.{ℕ, ◌*◌}
use mathlib.Core.Path.{◌≡◌, sym, ap, ◌∙◌}
use mathlib.Core.Bool.{false}
use mathlib.Core.List.{List}
use native.Mathlib.Omega.{arith}
use lib.ListN.{length, length-replicate}
use Rattle.nodes.specs.Lists.{zeros}
use Rattle.records.specs.BitRows.{row_width, with_column}
use Rattle.records.proofs.BitRows.{rows_same}
use Rattle.calls.proofs.edit.load_cleared.Goals as goal
use Rattle.calls.proofs.edit.load_cleared.Goals.{After-list-1, Start}

-- the buffer has room for just the list

size : (s : Start) → length s.args.list.now ≡ row_width s.args.n * s.args.n
size s = ap (λ (l : List ℕ). length l) s.requires.3 ∙ length-replicate (row_width s.args.n * s.args.n) 0

pub load_bytes-requires : goal.load_bytes-requires
load_bytes-requires c = (omega (arith, size (goal.at.load_bytes-requires c).Start, c.requires.2), c.requires.3 ∙ ap zeros (sym (size (goal.at.load_bytes-requires c).Start)))

-- what was loaded is the stored list

size-at-After-list-1 : (s : After-list-1) → length s.args.list.now ≡ row_width s.args.n * s.args.n
size-at-After-list-1 s = ap (λ (l : List ℕ). length l) s.requires.3 ∙ length-replicate (row_width s.args.n * s.args.n) 0

loaded : (c : After-list-1) → c.load_bytes.new.to ≡ c.args.stored.now
loaded c = rows_same (row_width c.args.n) c.args.n c.load_bytes.new.to c.args.stored.now (omega (arith, c.list-1.given, size-at-After-list-1 c)) c.requires.2 c.load_bytes.ensures

pub clear_column-requires : goal.clear_column-requires
clear_column-requires c = (c.requires.0, c.requires.1, ap (λ (l : List ℕ). length l) (loaded (goal.at.clear_column-requires c).After-list-1) ∙ c.requires.2)

pub returns : goal.returns
returns c = let a = c.args in c.clear_column.ensures ∙ ap (with_column a.n a.i (λ j. false)) (loaded (goal.at.returns c).After-list-1)
