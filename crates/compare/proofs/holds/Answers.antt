use mathlib.Core.Path.{◌∙◌, ap}
use mathlib.Core.List.{List}
use Rattle.std.proofs.Common.{ℕ, sym}
use borrow.Author.Rules.{rules}
use borrow.Author.Tests.{tests}
use lib.Dec.{eqb}
use Rattle.std.proofs.lemmas.Bool.Decides.{Decides-eqb}
use Rattle.std.proofs.lemmas.Iterator.{YieldsList-from_slice}
use Rattle.std.proofs.lemmas.Iterator.Search.{all_from_yields_List}
use Rattle.std.proofs.lemmas.Slice.Eq.{strip_prefix_is}
use Rattle.compare.specs.Buffers.{holds_only}
use Rattle.compare.proofs.Buffers.{held, not_held}
use Rattle.compare.proofs.holds.Goals as goal

pub returns-in-Some : goal.returns-in-Some
returns-in-Some c = let a = c.args in
    let is = rw c.in-Some.is at (strip_prefix_is Decides-eqb a.buffer.now a.res.now c.strip_prefix.result c.strip_prefix.ensures.cases) in
    all_from_yields_List (λ (b : ℕ). eqb b a.fill) c.all.new.self _ _ c.all.ensures.ran (YieldsList-from_slice c.in-Some.behind.now cc) (λ x b q k. search (rules, tests))
    ∙ held a.res.now c.in-Some.behind.now a.fill
    ∙ ap (λ (s : List ℕ). holds_only s a.res.now a.fill) (sym is)

pub returns-in-None : goal.returns-in-None
returns-in-None c = let a = c.args in
    not_held a.res.now a.buffer.now a.fill (rw c.in-None.is at (strip_prefix_is Decides-eqb a.buffer.now a.res.now c.strip_prefix.result c.strip_prefix.ensures.cases))
