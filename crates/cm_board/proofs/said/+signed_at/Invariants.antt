use Rattle.cm_board.proofs.said.+signed_at.Given as goal

-- the place
abbrev pub decreases-signed_at : goal.decreases-signed_at
decreases-signed_at l = l.at
