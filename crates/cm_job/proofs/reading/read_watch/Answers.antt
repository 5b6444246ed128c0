use Rattle.std.proofs.Common.{drop}
use Rattle.cm_job.proofs.Watched.{watch-lines}
use Rattle.cm_job.proofs.reading.read_watch.Goals as goal

pub returns-clause-lines : goal.returns-clause-lines
returns-clause-lines c = watch-lines (λ all. all.items) c.args.board.now c.args.signals.now (drop c.args.at c.args.lines.now.list) c.read_session.result c.read_session.ensures.value c.read_session.ensures.lines
