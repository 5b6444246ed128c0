use Rattle.std.proofs.Common.{◌≡◌, [], drop, map}
use Rattle.cm_board_text.specs.Reading.{values_after}
use Rattle.cm_board.specs.Table.{word_text}
use Rattle.cm_board_text.proofs.lines.read_values.Given as goal

-- the values so far, and what the words that are left say after them
abbrev pub invariant-loop-word : goal.invariant-loop-word
invariant-loop-word l = record {
  at : l.at ≡ l.word-index;
  rest : values_after l.head [] (map word_text l.kinds) (map (λ word. word.now) l.words) ≡ values_after l.head l.values.items (map word_text (drop l.at l.kinds)) (map (λ word. word.now) (drop l.word-index l.words));
}
