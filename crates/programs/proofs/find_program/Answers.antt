use Rattle.programs.proofs.Streams.{streams_written}
use Rattle.programs.proofs.find_program.Goals as goal

pub returns : goal.returns
returns c = streams_written _ _ _ c.args.error.now c.find_bytes-answer.ensures c.report.ensures
