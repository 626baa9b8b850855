use Rattle.programs.proofs.Streams.{streams_written}
use Rattle.programs.proofs.verify_program.Goals as goal

pub returns : goal.returns
returns c = streams_written _ _ _ c.args.error.now c.verify_bytes-answer.ensures c.report.ensures
