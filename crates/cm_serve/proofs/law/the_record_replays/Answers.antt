use Rattle.cm_serve.proofs.Records.{record_replays}
use Rattle.cm_serve.proofs.law.the_record_replays.Goals as goal

pub returns : goal.returns
returns c = record_replays
