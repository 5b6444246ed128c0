use Rattle.cm_board.proofs.said.+number_at.Given as goal

-- the place
abbrev pub decreases-number_at : goal.decreases-number_at
decreases-number_at l = l.at
