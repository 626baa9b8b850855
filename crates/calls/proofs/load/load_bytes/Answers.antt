use mathlib.Core.Path.{◌≡◌, ap, ◌∙◌}
use mathlib.Core.Bool.{cond, true}
use mathlib.Core.List.{List, ◌++◌}
use Prim.Native.Nat.{ℕ}
use lib.Dec.{leb}
use borrow.Author.Tests.{le-leb}
use lib.ListN.{length, get_or, drop}
use Rattle.calls.proofs.Loaded.{front_loaded}
use Rattle.calls.proofs.load.load_bytes.Goals as goal

pub returns : goal.returns
returns c u =
    let a = c.args in
    let fits : leb (length a.bytes.now) (length a.to.now) ≡ true = le-leb (length a.bytes.now) (length a.to.now) c.requires.0 in
    ap (λ (l : List ℕ). get_or l u 0) (c.write-fits.ensures.out_after ∙ ap (λ b. cond b (a.bytes.now ++ drop (length a.bytes.now) a.to.now) a.to.now) fits)
    ∙ front_loaded a.bytes.now a.to.now c.requires.0 c.requires.1 u
