use Rattle.cm_session.proofs.SessionsSound.{sessions_sound}
use Rattle.cm_session.proofs.law.sessions_are_in_order.Goals as goal

pub returns : goal.returns
returns c = sessions_sound
