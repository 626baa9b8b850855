use mathlib.Core.Path.{ap, ◌∙◌}
use Prim.Native.Nat.{ℕ}
use Rattle.capi.specs.Codes.{Coded, coded}
use Rattle.capi.proofs.bolz_find.Goals as goal

pub returns : goal.returns
returns c = let f = c.find in
    let o = f.new.out in
    let w = f.new.work in
    ap {B = Coded} (λ (k : ℕ). record { code = k; work = w; out = o }) c.reply_code.ensures ∙ ap coded f.ensures
