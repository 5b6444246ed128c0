use Rattle.std.proofs.Common.{◌≡◌, drop, map}
use Rattle.cm_board_text.specs.Reading.{place_from}
use Rattle.cm_board_text.proofs.lines.name_place.Given as goal

-- no name so far
abbrev pub invariant-loop-name : goal.invariant-loop-name
invariant-loop-name l = record {
  place : l.place ≡ l.name-index;
  rest : place_from 0 l.word (map (λ name. name.now) l.names) ≡ place_from l.place l.word (map (λ name. name.now) (drop l.name-index l.names));
}
