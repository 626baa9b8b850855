use Rattle.std.proofs.Common.{◌≡◌, ◌∙◌, ◌*◌, ◌+◌, ◌-◌, ap, arith, take, drop, ℕ}
use Rattle.angles.specs.AngleRecord.{angle_bytes, little}
use Rattle.angles.proofs.AngleRecord.{little_8}
use Rattle.angles.proofs.bits_at.Goals as goal

pub returns : goal.returns
returns c =
    let at : ℕ = angle_bytes * c.args.u in
    let eight : at + angle_bytes - at ≡ angle_bytes = omega arith in
    c.from_le_bytes.ensures ∙ little_8 c.copy_from_slice.new.self c.copy_from_slice.ensures.len ∙ ap little c.copy_from_slice.ensures.after
    ∙ ap (λ (k : ℕ). little (take k (drop at c.args.angles.now))) eight
