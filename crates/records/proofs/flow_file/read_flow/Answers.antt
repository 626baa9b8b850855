use Prim.Native.Nat.{ℕ}
use mathlib.Core.Path.{sym, ap, ◌∙◌}
use mathlib.Core.List.{List}
use native.Mathlib.Omega.{arith}
use Rattle.std.proofs.Common.{rules}
use Rattle.std.proofs.lemmas.List.{drop_all, take_rest}
use Rattle.records.specs.FlowFile.{read_flow}
use Rattle.records.proofs.Records.{bytes_known}
use Rattle.records.proofs.Places.{flow_promised}
use Rattle.records.proofs.flow_file.read_flow.Goals as goal

-- past the end nothing is left
pub returns-then-at-file-clause-placed : goal.returns-then-at-file-clause-placed
returns-then-at-file-clause-placed c =
    let s = c.args.file.now in
    let e = c.read.ensures in
    let value = e.value ∙ ap (λ (t : List ℕ). read_flow c.args.n t) (sym (drop_all c.args.at s (omega arith))) in
    flow_promised c.args.n s c.args.at c.read.result (bytes_known s (λ i. search rules)) e.bytes e.payloads value

pub returns-clause-placed : goal.returns-clause-placed
returns-clause-placed c =
    let s = c.args.file.now in
    let e = c.read-2.ensures in
    let value = e.value ∙ ap (λ (t : List ℕ). read_flow c.args.n t) (take_rest s c.args.at) in
    flow_promised c.args.n s c.args.at c.read-2.result (bytes_known s (λ i. search rules)) e.bytes e.payloads value
