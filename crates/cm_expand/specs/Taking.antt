-- What a board has left, and how much of that has come.
use Rattle.std.specs.Prelude.{ℕ, List, drop, length, map, nat_le}
use Rattle.std.specs.List.{filter, prefix_len}
use Rattle.cm_expand.specs.Board.{BoardState}
use Rattle.cm_expand.specs.Items.{items_of}
use Rattle.cm_expand.specs.Laws.{NeverFall}
use Rattle.cm_expand.specs.declared.conv.Conv.{Conv}

-- the conversions that are still to be given
abbrev pub left_of : BoardState → List Conv
left_of board = drop board.place (items_of board.plan)

-- how many conversions, from the first on, have come by a time
abbrev pub come_first : ℕ → List Conv → ℕ
come_first time conversions = prefix_len (λ conv. nat_le conv.time time) conversions

-- how many have come by a time
abbrev pub come : ℕ → List Conv → ℕ
come time conversions = length (filter (λ c. nat_le c.time time) conversions)

-- none comes before a time, nor before the one that precedes it
abbrev pub NeverFallsFrom : ℕ → List Conv → Type 0
NeverFallsFrom low conversions = NeverFall low (map (λ c. c.time) conversions)

-- none comes before the one that precedes it
abbrev pub NeverFalls : List Conv → Type 0
NeverFalls conversions = NeverFallsFrom 0 conversions

-- the raw words of conversions
abbrev pub raw_words : List Conv → List ℕ
raw_words conversions = map (λ conv. conv.raw) conversions
