use Rattle.cm_board.proofs.said.+name_at.Given as goal

-- the place
abbrev pub decreases-name_at : goal.decreases-name_at
decreases-name_at l = l.at
