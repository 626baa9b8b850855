-- What the code of the entries answers, and what the finder writes from its tables.
use Rattle.std.specs.Prelude.{ℕ, Bool, not, ◌&&◌, List, leb, ltb, take, Result}
use Rattle.nodes.specs.Row.{members}
use Rattle.nodes.specs.NodeSet.{highest, capacity}
use Rattle.nodes.specs.SetTable.{set_at}
use Rattle.answers.specs.Answer.{Answer}
use Rattle.answers.specs.Refusals.{given}
use Rattle.answers.specs.declared.Refusal.{Refusal}
use Rattle.records.specs.Writing.{flow_records}

-- the number of bytes written, or the refusal
abbrev pub reply_of : Result ℕ Refusal → Answer ℕ
reply_of = given (λ k. k)

-- the flow file of a table of sets and a list of layers, for n nodes: an entry for each that is no output
abbrev pub records_for : (n : ℕ) (output : ℕ → Bool) (layers sets : List ℕ) → List ℕ
records_for n output layers sets = flow_records (take n layers) capacity (set_at sets) (members capacity (λ u. (ltb u n && leb u highest) && not (output u)))
