use Rattle.std.proofs.Common.{Err, subst}
use Rattle.cm_serve.specs.Served.{Holds}
use Rattle.cm_dialogue.specs.declared.stop.ServeStop.{ServeStop}
use Rattle.cm_serve.proofs.Servings.{answered-cut, answered-refused}
use Rattle.cm_serve.proofs.serving.serve.Goals as goal

pub returns-in-Err-Refused-clause-said : goal.returns-in-Err-Refused-clause-said
returns-in-Err-Refused-clause-said g c =
    answered-refused (g.C.Client.ahead c.args.client.now) _ (g.C.Client.turns c.hold.new.client) _ c.in-Err-Refused.refused c.decline.result
    (subst (λ (stop : ServeStop). Holds (Err stop) (g.C.Client.ahead c.args.client.now) (g.C.Client.turns c.args.client.now) (g.C.Client.turns c.hold.new.client)) c.in-Err-Refused.field-0-is c.in-Err-Refused.ensures.said)
    c.decline.ensures.said

pub returns-in-Err-Cut-TooLong-clause-said : goal.returns-in-Err-Cut-TooLong-clause-said
returns-in-Err-Cut-TooLong-clause-said g c =
    answered-cut (g.C.Client.ahead c.args.client.now) _ (g.C.Client.turns c.hold.new.client) _ c.in-Err-Cut-TooLong.field-0-0 c.decline-in-Err-Cut-TooLong.result c.in-Err-Cut-TooLong.field-0-0-is
    (subst (λ (stop : ServeStop). Holds (Err stop) (g.C.Client.ahead c.args.client.now) (g.C.Client.turns c.args.client.now) (g.C.Client.turns c.hold.new.client)) c.in-Err-Cut-TooLong.field-0-is c.in-Err-Cut-TooLong.ensures.said)
    c.decline-in-Err-Cut-TooLong.ensures.said
