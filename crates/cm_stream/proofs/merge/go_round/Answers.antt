use Rattle.cm_stream.proofs.Merged.{merged_so}
use Rattle.cm_stream.proofs.merge.go_round.Goals as goal

pub returns : goal.returns
returns g c = merged_so c.round.result c.args.first c.args.streams.now c.round.new.streams c.round.ensures
