use Rattle.std.proofs.Common.{◌≡◌, length, false}
use Rattle.cm_sample.specs.Rule.{munged_word, rule_text}
use Rattle.cm_sample.proofs.Mapped.{mapped_to}
use Rattle.cm_sample.proofs.rule.munge_alike.Given as goal

-- the words so far are munged
abbrev pub invariant-loop-i : goal.invariant-loop-i
invariant-loop-i l = record {
  so_far : l.words ≡ mapped_to (munged_word (rule_text l.items l.out false)) l.fn.place l.i l.initial.words;
  size : length l.words ≡ length l.initial.words;
}
