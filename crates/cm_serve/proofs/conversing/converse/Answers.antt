use Rattle.cm_serve.specs.Playing.{first_play}
use Rattle.cm_serve.proofs.Talking.{talk-none}
use Rattle.cm_serve.proofs.conversing.converse.Goals as goal

pub returns-in_err-kept-clause-said : goal.returns-in_err-kept-clause-said
returns-in_err-kept-clause-said g c =
    talk-none (g.C.Client.ahead c.args.client.now) (g.C.Client.turns c.args.client.now) (first_play (record { board = c.args.board.now; signals = c.args.signals.now })) c.args.first c.from_residual.result c.from_residual.ensures.1
