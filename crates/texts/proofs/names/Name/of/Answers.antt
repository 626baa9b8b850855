use Rattle.std.proofs.Common.{rules, ◌≡◌}
use borrow.Author.Tests.{tests}
use Rattle.std.proofs.lemmas.Iterator.{YieldsList-from_slice, first_from_find}
use Rattle.std.proofs.lemmas.Iterator.Consumers.{YieldsList-from_copied}
use Rattle.texts.proofs.Naming.{all_names, spelled, name_found}
use Rattle.texts.proofs.names.Name.of.Goals as goal

pub returns : goal.returns
returns c =
    let w = c.args.word.now in
    let found = first_from_find _ _ c.find.result (λ a. spelled a ≡ w) (λ a. spelled a ≡ w → ⊥) c.find.ensures.ran (YieldsList-from_copied (YieldsList-from_slice all_names (search rules))) (λ x q k. search (rules, tests)) (λ x q k. search (rules, tests)) in
    name_found w c.find.result (search (rules, found))
