use Rattle.std.proofs.Common.{◌≡◌, ℕ, Bool, not, ◌*◌, ◌+◌, ◌/◌, ◌<◌, List, length, refl, sym, ap, ◌∙◌, subst, rules, eqb}
use mathlib.Core.Bool.{false}
use lib.Dec.{T}
use lib.ListN.{length-set}
use Rattle.nodes.specs.Row.{lowest, members}
use Rattle.nodes.specs.NodeSet.{capacity, member, left_of}
use Rattle.nodes.proofs.Logic.{and_l}
use Rattle.nodes.proofs.Left.{listed, all_members, taken}
use Rattle.nodes.proofs.Members.{lowest_member}
use Rattle.records.specs.BitRows.{byte_bits, row_width}
use Rattle.records.proofs.BitRows.{column-length}
use Rattle.calls.specs.Loaded.{set_bits}
use Rattle.calls.proofs.BuildingSignals.{byte_within, members_column}
use Rattle.calls.proofs.signals.add_column.Goals as goal
use Rattle.calls.proofs.signals.add_column.Goals.{Start}

-- the bit of row j lies in the list
inside : (s : Start) (width j : ℕ) → width ≡ row_width s.args.n → T (member s.args.s j) → width * j + s.args.i / byte_bits < length s.args.list.now
inside s width j e t =
    let a = s.args in
    let size : length a.list.now ≡ row_width a.n * a.n = sym (ap length s.requires.list_value) ∙ column-length a.n a.i (λ j. false) a.list.now in
    rw (e, size) (byte_within a.n a.i j s.requires.n_le_capacity.1 (s.requires.n_le_capacity.2 j t))

pub loop-j-init : goal.loop-j-init
loop-j-init c =
    let a = c.args in
    let it = c.into_iter-j-iterator.result in
    let e : left_of it.set it.at it.left ≡ member a.s = search rules in
    record {
      can = tt;
      ends = tt;
      size = refl;
      within = λ v t. subst (λ (f : ℕ → Bool). T (f v)) (all_members a.s _ e) t;
      bits = ap (λ (f : ℕ → Bool). set_bits c.row_width-width.result a.i (members capacity f) a.list.now) e;
    }

pub set_bit-requires : goal.set_bit-requires
set_bit-requires c =
    let l = c.loop-j in
    let left = listed (members capacity (left_of l.j-iterator.set l.j-iterator.at l.j-iterator.left)) in
    let t = taken capacity (left_of l.j-iterator.set l.j-iterator.at l.j-iterator.left) _ _ c.in-Some.j refl c.in-Some.ensures.steps in
    let here = l.invariant.within c.in-Some.j (subst (λ (x : ℕ). T (left x)) (sym t.least) (lowest_member capacity left t.some)) in
    rw l.invariant.size (inside (goal.at.set_bit-requires c).Start c.row_width-width.result c.in-Some.j c.row_width-width.ensures here)

pub loop-j-preserved : goal.loop-j-preserved
unfolding set_bits
loop-j-preserved c =
    let a = c.args in
    let w = c.row_width-width.result in
    let l = c.loop-j in
    let left = listed (members capacity (left_of l.j-iterator.set l.j-iterator.at l.j-iterator.left)) in
    let others = members capacity (left_of c.next.new.self.set c.next.new.self.at c.next.new.self.left) in
    let t = taken capacity (left_of l.j-iterator.set l.j-iterator.at l.j-iterator.left) _ _ c.in-Some.j refl c.in-Some.ensures.steps in
    record {
      can = tt;
      ends = tt;
      size = ap length c.set_bit.ensures ∙ length-set l.list (w * c.in-Some.j + a.i / byte_bits) _ ∙ l.invariant.size;
      within = λ v x. l.invariant.within v (and_l (left v) (not (eqb v (lowest capacity left))) (subst (λ (f : ℕ → Bool). T (f v)) t.rest x));
      bits = ap (set_bits w a.i others) c.set_bit.ensures ∙ ap (λ (m : List ℕ). set_bits w a.i m l.list) (sym c.in-Some.ensures.steps) ∙ l.invariant.bits;
    }

pub shape_of-list : goal.shape_of-list
shape_of-list c = c.loop-j.invariant.size

pub returns : goal.returns
unfolding set_bits
returns c =
    let a = c.args in
    let w = c.row_width-width in
    let l = c.loop-j in
    ap (λ (m : List ℕ). set_bits w.result a.i m l.list) (sym c.in-None.ensures.steps.0) ∙ l.invariant.bits
    ∙ ap (λ (k : ℕ). set_bits k a.i (members capacity (member a.s)) a.list.now) w.ensures
    ∙ members_column a.n a.i (member a.s) a.list.now c.requires.n_le_capacity.0 c.requires.n_le_capacity.1 c.requires.n_le_capacity.2 c.requires.list_value
