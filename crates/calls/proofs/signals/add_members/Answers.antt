use Prim.Native.Nat.{ℕ, ◌+◌, ◌*◌}
use mathlib.Core.Path.{◌≡◌, refl, sym, ap, ◌∙◌}
use mathlib.Core.Bool.{false, cond}
use mathlib.Core.List.{List}
use native.Mathlib.Omega.{arith}
use lib.Dec.{eqb}
use lib.ListN.{length, get_or, drop}
use Rattle.records.specs.BitRows.{row_width}
use Rattle.records.proofs.BitRows.{column-length}
use Rattle.records.proofs.ReadingLoops.{rest_none, rest_cons}
use Rattle.calls.specs.Loaded.{set_bit, set_bits}
use Rattle.calls.proofs.BuildingSignals.{byte_within, others, others_next, other_length, others_column, node_at}
use Rattle.calls.proofs.signals.add_members.Goals as goal

pub loop-k-init : goal.loop-k-init
loop-k-init c = (refl, refl)

-- the bit of the member at hand lies in the list

pub set_other-requires : goal.set_other-requires
set_other-requires c =
    let l = c.loop-k in
    let a = c.args in
    let size : length a.list.now ≡ row_width a.n * a.n = sym (ap length c.requires.list_value) ∙ column-length a.n a.i (λ j. false) a.list.now in
    rw (c.row_width-width.ensures, c.from.ensures, l.invariant.0, size) (byte_within a.n a.i (get_or a.members.now l.k-index 0) c.requires.n_le_capacity.1 (node_at a.n a.members.now l.k-index c.requires.n_le_capacity.2 (omega arith)))

pub loop-k-preserved : goal.loop-k-preserved
loop-k-preserved c =
    let l = c.loop-k in
    let a = c.args in
    let w = c.row_width-width.result in
    let j = get_or a.members.now l.k-index 0 in
    let next = c.set_other.ensures ∙ ap (λ (j : ℕ). cond (eqb j a.i) l.list (set_bit w a.i j l.list)) c.from.ensures in (
      ap length next ∙ other_length w a.i j l.list ∙ l.invariant.0,
      ap (set_bits w a.i (others a.i (drop (l.k-index + 1) a.members.now))) next
          ∙ others_next w a.i j (drop (l.k-index + 1) a.members.now) l.list
          ∙ ap (λ (m : List ℕ). set_bits w a.i (others a.i m) l.list) (sym (rest_cons a.members.now l.k-index (omega arith)))
          ∙ l.invariant.1,
    )

pub shape_of-list : goal.shape_of-list
shape_of-list c = c.loop-k.invariant.0

pub returns : goal.returns
unfolding others set_bits
returns c =
    let l = c.loop-k in
    let a = c.args in
    let w = c.row_width-width in
    ap (λ (m : List ℕ). set_bits w.result a.i (others a.i m) l.list) (sym (rest_none a.members.now l.k-index (omega arith))) ∙ l.invariant.1
    ∙ ap (λ (k : ℕ). set_bits k a.i (others a.i a.members.now) a.list.now) w.ensures
    ∙ others_column a.n a.i a.members.now a.list.now c.requires.n_le_capacity.1 c.requires.n_le_capacity.2 c.requires.list_value
