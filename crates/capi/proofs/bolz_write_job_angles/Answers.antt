use mathlib.Core.Path.{ap, ◌∙◌}
use mathlib.Core.List.{[]}
use Prim.Native.Nat.{ℕ}
use Rattle.capi.specs.Codes.{Coded, coded}
use Rattle.capi.proofs.bolz_write_job_angles.Goals as goal

pub returns : goal.returns
returns c = let f = c.write_job_angles in
    ap {B = Coded} (λ (k : ℕ). record { code = k; work = []; out = f.new.out }) c.reply_code.ensures ∙ ap coded f.ensures
