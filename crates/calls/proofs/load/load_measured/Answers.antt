use Prim.Native.Nat.{ℕ, ◌*◌}
use mathlib.Core.Path.{◌≡◌, sym, ap, ◌∙◌, subst}
use mathlib.Core.Option.{some}
use mathlib.Core.List.{List}
use native.Mathlib.Omega.{arith}
use lib.ListN.{length, get_or, length-replicate}
use Rattle.nodes.specs.NodeSet.{capacity}
use Rattle.nodes.specs.Lists.{has, zeros}
use Rattle.angles.specs.AngleRecord.{angle_bytes}
use Rattle.records.specs.Encoding.{AnglesFit}
use Rattle.records.specs.Views.{job_held, option_of}
use Rattle.calls.proofs.Loaded.{inferred_loaded}
use Rattle.calls.proofs.load.load_measured.Goals as goal

pub returns : goal.returns
returns c =
    let f = job_held c.args.job.now in
    let v = c.requires.0 in
    let p = c.in-Some.angles.now in
    let size : length c.args.to.now ≡ capacity = ap length c.requires.1 ∙ length-replicate {A = ℕ} capacity 0 in
    let fit : AnglesFit f.n f.mode (has f.outputs) (some p) = subst (AnglesFit f.n f.mode (has f.outputs)) (ap option_of c.in-Some.is) v.angles in
    let long : length p ≡ angle_bytes * length f.measurements = fit.1 ∙ ap (λ (n : ℕ). angle_bytes * n) (sym v.count) in
    λ u. ap (λ (l : List ℕ). get_or l u 0) c.infer_all.ensures
    ∙ rw c.in-Some.is (inferred_loaded f.measurements p c.args.to.now long (omega (arith, v.count, v.few, size)) (c.requires.1 ∙ ap zeros (sym size)) u)
