use mathlib.Core.Path.{◌∙◌}
use Rattle.std.proofs.Common.{rules}
use borrow.Author.Tests.{tests}
use Rattle.std.proofs.lemmas.Iterator.Search.{all_from_yields_List}
use Rattle.records.specs.FlowFile.{entry_below}
use Rattle.records.proofs.ReadingEntries.{each_all, entries_listed}
use Rattle.records.proofs.entries.Entries.below.Goals as goal

pub returns : goal.returns
unfolding entry_below
returns c = all_from_yields_List (entry_below c.args.n) c.all.new.self _ _ c.all.ensures.ran (entries_listed c.args.self.now) (λ x b q k. search (rules, tests)) ∙ each_all _ _
