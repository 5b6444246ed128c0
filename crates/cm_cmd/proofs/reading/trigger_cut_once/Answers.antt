use Rattle.std.proofs.Common.{sym}
use Rattle.cm_cmd.proofs.CutOnce.{trigger_cut}
use Rattle.cm_cmd.proofs.reading.trigger_cut_once.Goals as goal

pub returns : goal.returns
returns c =
    trigger_cut c.args.text.now c.before-2.result.now c.after.result.now c.in-Some.at c.in-Ok.src c.in-Ok-number_in.arg
    (sym c.in-Some.ensures.place) c.before-2.ensures c.after.ensures (sym c.in-Ok.ensures) (sym c.in-Ok-number_in.ensures.value)
