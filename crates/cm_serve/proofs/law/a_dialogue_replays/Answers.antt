use Rattle.cm_serve.proofs.Replays.{answers_as_replay}
use Rattle.cm_serve.proofs.law.a_dialogue_replays.Goals as goal

pub returns : goal.returns
returns c = answers_as_replay
