use Rattle.std.proofs.Common.{sym, ap, ◌∙◌}
use Rattle.cm_running.specs.ToCome.{ToCome}
use Rattle.cm_running.proofs.Come.{nothing_left}
use Rattle.cm_running.proofs.command.shown_end.Goals as goal

pub last_end-requires : goal.last_end-requires
last_end-requires c = ap (λ (t : ToCome). t.conversions) c.next_time.ensures.after ∙ nothing_left c.args.board.now.conversions (sym c.next_time.ensures.value ∙ c.in-None.is)
