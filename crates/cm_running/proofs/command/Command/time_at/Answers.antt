use Rattle.std.proofs.Common.{ap, ◌∙◌, sym}
use Rattle.cm_running.specs.Running.{Running}
use Rattle.cm_running.proofs.command.Command.time_at.Goals as goal

pub invariant_of-self : goal.invariant_of-self
invariant_of-self c =
    let is = c.self.invariant in
    record {
      planned = is.planned;
      out = is.out;
      served = is.served;
      lines = is.lines;
      looks = c.in_ok-time.ensures.same ∙ c.in_ok-ahead.ensures.ahead ∙ sym (ap (λ (r : Running). r.schedule) (c.self.view_is ∙ c.take_ahead.ensures.same));
    }
