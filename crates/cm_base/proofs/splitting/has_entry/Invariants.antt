use Rattle.std.proofs.Common.{◌≡◌, ◌&&◌, ◌==◌, not, length, drop}
use Rattle.cm_base.specs.Lines.{is_comment, words_of}
use Rattle.cm_base.proofs.splitting.has_entry.Given as goal

-- all bytes so far are blanks
abbrev pub invariant-loop-byte : goal.invariant-loop-byte
invariant-loop-byte l =
    (not (length (words_of l.raw) == 0) && not (is_comment (words_of l.raw)))
    ≡ (not (length (words_of (drop l.byte-index l.raw)) == 0) && not (is_comment (words_of (drop l.byte-index l.raw))))
