use mathlib.Core.Path.{refl}
use Rattle.finder.proofs.WorkMatrix.{row_put}
use Rattle.finder.proofs.matrix.put_row.Goals as goal

pub returns : goal.returns
returns c =
    let a = c.args in
    row_put a.row _ _ a.s a.work.now c.put_word.new.work c.put_word-2.new.work refl refl (rw c.words-words.ensures at c.put_word.ensures) (rw c.words-words.ensures at c.put_word-2.ensures)
