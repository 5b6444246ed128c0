use Rattle.std.proofs.Common.{◌≡◌, subst, Option, Some}
use Rattle.cm_ring_core.specs.declared.view.End.{End}
use Rattle.cm_client.specs.Progress.{Stops}
use Rattle.cm_client.proofs.AtEnd.{read_at_end, read_taken}
use Rattle.cm_client.proofs.reading.consume_to_end.Goals as goal

pub returns-in-Ok-Some-clause-read : goal.returns-in-Ok-Some-clause-read
returns-in-Ok-Some-clause-read g c =
    let found : c.in-Ok-Some.field-0 ≡ Some c.in-Ok-Some.end = cc in
    let all = c.in-Ok-Some.ensures.all in
    read_at_end c.args.reader.now c.read_up_to.new.reader c.args.take c.in-Ok-Some.end c.read_up_to.ensures.of c.in-Ok-Some.ensures.asked all.none_mapped all.within
    (subst (λ (o : Option End). Stops c.read_up_to.new.reader c.args.take o) found c.in-Ok-Some.ensures.stops)

pub returns-in-Ok-None-clause-read : goal.returns-in-Ok-None-clause-read
returns-in-Ok-None-clause-read g c =
    let all = c.in-Ok-None.ensures.all in
    read_taken c.args.reader.now c.read_up_to.new.reader _ c.args.take c.stop_and_wait-way.result.0 c.read_up_to.ensures.of all.none_mapped all.within
    (subst (λ (o : Option End). Stops c.read_up_to.new.reader c.args.take o) c.in-Ok-None.field-0-is c.in-Ok-None.ensures.stops)
    c.stop_and_wait-way.ensures.same c.stop_and_wait-way.ensures.above c.stop_and_wait-way.ensures.says
