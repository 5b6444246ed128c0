use Rattle.std.proofs.Common.{◌≡◌, drop}
use Rattle.cm_base.specs.Lines.{is_bad, words_of}
use Rattle.cm_base.proofs.splitting.past_blanks.Given as goal

-- all bytes so far are blanks
abbrev pub invariant-loop-byte : goal.invariant-loop-byte
invariant-loop-byte l = record {
  count : l.count ≡ l.byte-index;
  bad : is_bad (drop l.byte-index l.text) ≡ is_bad l.text;
  words : words_of (drop l.byte-index l.text) ≡ words_of l.text;
}
