use native.Mathlib.Omega.{arith}
use Rattle.records.specs.Views.{entry_held}
use Rattle.records.proofs.Around.{up_to_next, around_last}
use Rattle.records.proofs.entries.Entries.around.Goals as goal

pub loop-entry-preserved : goal.loop-entry-preserved
loop-entry-preserved c =
    let l = c.loop-entry in
    up_to_next c.args.self.now.rest.now l.rest.now c.in-Some.behind.now c.args.u (entry_held c.in-Some.entry) l.invariant c.in-Some.ensures.entry (omega (arith, c.from-v.ensures))

pub returns : goal.returns
returns c = let l = c.loop-entry in around_last c.args.self.now.rest.now l.rest.now c.args.u l.invariant c.in_default.ensures.entry
