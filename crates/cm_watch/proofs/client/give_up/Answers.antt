use Rattle.cm_watch.proofs.Stopped.{all_asked, each_asked}
use Rattle.cm_watch.proofs.client.give_up.Goals as goal

pub invariant_of-result : goal.invariant_of-result
invariant_of-result g c = record { asked = all_asked c.stop_all.new.self _ _ c.stop_all.ensures }

pub returns : goal.returns
returns g c = each_asked c.stop_all.new.self _ _ c.stop_all.ensures

pub wake_boards-requires : goal.wake_boards-requires
wake_boards-requires g c = all_asked c.stop_all.new.self _ _ c.stop_all.ensures
