use Rattle.cm_client.proofs.Served.{has_waited}
use Rattle.cm_client.proofs.boarding.wait_for_room.Goals as goal

pub returns-clause-way : goal.returns-clause-way
returns-clause-way g c = λ to start from had. has_waited _ _ _ _ _ _ _ had c.wait.ensures.way
