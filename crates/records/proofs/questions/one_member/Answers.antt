use mathlib.Core.Path.{◌∙◌, ap}
use Rattle.std.proofs.Common.{rules}
use borrow.Author.Tests.{tests}
use lib.Dec.{eqb}
use lib.ListN.{length}
use mathlib.Core.List.{List}
use Rattle.std.proofs.lemmas.Iterator.Search.{all_from_yields_List}
use Rattle.records.specs.FlowFile.{SetEntry, all_entries}
use Rattle.records.proofs.ReadingEntries.{each_all, entries_listed}
use Rattle.records.proofs.questions.one_member.Goals as goal

pub returns : goal.returns
returns c =
    all_from_yields_List (λ (e : SetEntry). eqb (length e.set) 1) c.all.new.self _ _ c.all.ensures.ran (entries_listed c.of.result) (λ x b q k. search (rules, tests))
    ∙ each_all _ _ ∙ ap (λ (es : List SetEntry). all_entries (λ e. eqb (length e.set) 1) es) c.of.ensures
