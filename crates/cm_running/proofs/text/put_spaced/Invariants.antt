use Rattle.std.proofs.Common.{◌≡◌, ◌++◌, take}
use Rattle.cm_running.specs.Texts.{words_text}
use Rattle.cm_running.proofs.text.put_spaced.Given as goal

-- the words so far
abbrev pub invariant-loop-word : goal.invariant-loop-word
invariant-loop-word l = record {
  so_far : l.text.items ≡ l.initial.text.items ++ words_text (take l.word-index l.words);
}
