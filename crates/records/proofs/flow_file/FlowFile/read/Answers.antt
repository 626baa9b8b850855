use Rattle.std.proofs.Common.{rules}
use Rattle.records.specs.Format.{decode_then}
use Rattle.records.specs.FlowFile.{read_flow}
use Rattle.records.proofs.Records.{bytes_known}
use Rattle.records.proofs.Layers.{layers_asked}
use Rattle.records.proofs.Places.{flow_lies}
use Rattle.records.proofs.flow_file.FlowFile.read.Goals as goal

pub returns-clause-value : goal.returns-clause-value
unfolding read_flow decode_then
returns-clause-value c = search rules

pub returns-clause-placed : goal.returns-clause-placed
returns-clause-placed c =
    let s = c.args.file.now in
    let asked = layers_asked c.in_ok-wide.wide c.args.n c.in_ok-wide.layers.payload.now c.in_ok-wide.ensures.asked in
    flow_lies c.args.n s 0 _ (bytes_known s (λ i. search rules)) c.in_ok-wide.ensures.bytes (asked, c.in_ok-sets.ensures.asked) (returns-clause-value c)
