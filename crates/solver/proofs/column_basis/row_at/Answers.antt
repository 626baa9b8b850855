use mathlib.Core.Path.{refl, ◌∙◌}
use Rattle.solver.proofs.BasisTables.{row_words}
use Rattle.solver.proofs.column_basis.row_at.Goals as goal

pub returns : goal.returns
returns c = c.from_words.ensures.nodes ∙ row_words c.args.matrix.now c.args.row _ _ c.word_at.result c.word_at-2.result refl refl c.word_at.ensures c.word_at-2.ensures
