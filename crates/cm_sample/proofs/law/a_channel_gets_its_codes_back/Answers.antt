use Rattle.cm_sample.proofs.Channels.{channel_code_back}
use Rattle.cm_sample.proofs.law.a_channel_gets_its_codes_back.Goals as goal

pub returns : goal.returns
returns c = channel_code_back
