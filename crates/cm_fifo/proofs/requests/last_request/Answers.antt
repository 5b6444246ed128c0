use Rattle.cm_fifo.proofs.Looks.{last_request-is}
use Rattle.cm_fifo.proofs.requests.last_request.Goals as goal

pub returns-then-complete : goal.returns-then-complete
returns-then-complete c =
    last_request-is c.args.board.now c.args.cells.now.items c.last_time.result c.later.result c.args.edge c.complete.result c.requires.held c.requires.some c.requires.all c.requires.edge c.complete.ensures c.if-complete.true c.last_time.ensures c.later.ensures
