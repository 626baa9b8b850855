use Rattle.std.proofs.Common.{ℕ, List, ◌≡◌, ◌+◌, ◌++◌, refl, ap, ◌∙◌, sym, length, drop, set, get_or, arith, rules}
use Rattle.std.proofs.Math.Seq.{paste}
use Rattle.std.proofs.lemmas.List.Edits.{paste_none, paste_more, paste_all}
use Rattle.records.proofs.encode.put_bytes.Goals as goal

pub loop-i-init : goal.loop-i-init
loop-i-init c = record { size = refl; copied = paste_none c.args.out.now 0 c.args.bytes.now }

pub loop-i-preserved : goal.loop-i-preserved
loop-i-preserved c =
    let l = c.loop-i in
    let a = c.args in
    let x = get_or a.bytes.now l.i 0 in
    let here : l.i ≡ 0 + l.i = omega arith in record {
      size = search rules;
      copied =
          ap (λ (s : List ℕ). set s l.i x) l.invariant.copied ∙ ap (λ (k : ℕ). set (paste a.out.now 0 a.bytes.now l.i) k x) here
          ∙ paste_more a.out.now 0 a.bytes.now l.i 0 (omega arith) (omega arith);
    }

pub returns : goal.returns
returns c =
    let l = c.loop-i in
    let a = c.args in
    let all : l.i ≡ length a.bytes.now = omega arith in
    let behind : 0 + l.i ≡ length a.bytes.now = omega arith in
    l.invariant.copied ∙ paste_all a.out.now 0 a.bytes.now l.i all ∙ ap (λ (k : ℕ). a.bytes.now ++ drop k a.out.now) behind
