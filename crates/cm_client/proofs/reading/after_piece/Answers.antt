use Rattle.cm_client.proofs.Served.{has_waited, more_handed}
use Rattle.cm_client.proofs.reading.after_piece.Goals as goal

pub returns-then-count-piece-clause-way : goal.returns-then-count-piece-clause-way
returns-then-count-piece-clause-way g c = λ before all start from had. has_waited _ _ _ _ _ _ _ (more_handed _ _ _ _ _ _ _ _ _ had c.hand_on.ensures.way all) c.wait.ensures.way

pub returns-else-count-piece-clause-way : goal.returns-else-count-piece-clause-way
returns-else-count-piece-clause-way g c = λ before all start from had. more_handed _ _ _ _ _ _ _ _ _ had c.hand_on.ensures.way all
