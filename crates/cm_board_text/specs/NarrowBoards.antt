-- What a board of `comedi 1` or `comedi 2` doesn't say.
use Rattle.std.specs.Prelude.{◌≡◌, ◌≤◌, []}
use Rattle.cm_board.specs.Board.{IsSaidSub, SubText, any_rounding}

-- it has no counters, and rounds times as the flags of a command say
pub record RoundsByFlags (sub : SubText) : Type 0 where
  pub counters : sub.timers.clock ≡ []
  pub rounding : sub.rounding ≡ any_rounding

-- these came with the wider texts
abbrev pub NarrowBoardsRoundByFlags : Type 0
NarrowBoardsRoundByFlags = (sub : SubText) → IsSaidSub sub → sub.version ≤ 2 → RoundsByFlags sub
