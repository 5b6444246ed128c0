use Rattle.cm_signal_text.proofs.SignalsSound.{signals_sound}
use Rattle.cm_signal_text.proofs.law.signals_are_sound.Goals as goal

pub returns : goal.returns
returns c = signals_sound
