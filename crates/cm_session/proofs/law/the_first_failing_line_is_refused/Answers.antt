use Rattle.std.specs.Prelude.{[]}
use Rattle.cm_base.proofs.Refusal.{refuses_first}
use Rattle.cm_session.specs.SessionPart.{last_time, line_after}
use Rattle.cm_session.proofs.law.the_first_failing_line_is_refused.Goals as goal

pub returns : goal.returns
returns c = λ only_insn bounds. refuses_first (λ before line. line_after only_insn bounds (last_time before) line) []
