use Prim.Native.Nat.{ℕ, ◌+◌, ◌/◌, ◌%◌, ◌<◌}
use mathlib.Core.Path.{◌≡◌, refl, sym, ap, ◌∙◌}
use mathlib.Core.List.{List, [], ◌∷◌}
use native.Mathlib.Omega.{arith}
use lib.ListN.{get_or}
use lib.Seq.{take_all}
use Rattle.records.specs.Records.{in_two_bytes}
use Rattle.records.specs.Splice.{splice}
use Rattle.records.proofs.Splice.{splice_more}
use Rattle.records.proofs.WritingLoops.{layers_none, layers_more}
use borrow.Author.Rules.{rules}
use Rattle.records.proofs.writer.put_layers.Goals as goal

pub loop-layer-init : goal.loop-layer-init
loop-layer-init c = let a = c.args in (omega arith, refl, sym (layers_none a.at a.layers.now a.out.now))

pub loop-layer-preserved : goal.loop-layer-preserved
loop-layer-preserved c =
    let l = c.loop-layer in
    let a = c.args in
    let x = get_or a.layers.now l.layer-index 0 in
    let small : x < 65536 = omega (arith, c.type_inv.layers l.layer-index) in
    let low : c.put_byte.new.out ≡ splice l.p (x % 256 ∷ []) l.out = c.put_byte.ensures ∙ ap (λ (b : List ℕ). splice l.p (get_or b 0 0 ∷ []) l.out) c.to_le_bytes.ensures in
    let high = c.put_byte-in-loop-layer.ensures ∙ ap (λ (b : List ℕ). splice (l.p + 1) (get_or b 1 0 ∷ []) c.put_byte.new.out) c.to_le_bytes.ensures in
    let both = high ∙ splice_more l.p (l.p + 1) (x % 256 ∷ []) (x / 256 % 256) l.out c.put_byte.new.out (omega arith) (omega arith) low in (
      omega arith,
      search rules,
      both ∙ ap (λ (k : ℕ). splice k (x % 256 ∷ x / 256 % 256 ∷ []) l.out) l.invariant.0 ∙ layers_more a.at l.layer-index a.layers.now a.out.now l.out (omega arith) small (omega arith) l.invariant.2,
    )

pub returns : goal.returns
returns c =
    let l = c.loop-layer in
    let a = c.args in
    l.invariant.2 ∙ ap (λ (x : List ℕ). splice a.at (in_two_bytes x) a.out.now) (take_all l.layer-index a.layers.now (omega arith))
