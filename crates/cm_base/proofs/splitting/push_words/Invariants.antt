use Rattle.std.proofs.Common.{◌≡◌, ◌++◌, ◌<◌, false, map, length}
use Rattle.std.specs.Prelude.{slice_index}
use Rattle.cm_base.specs.Lines.{is_bad, is_blank, words_of}
use Rattle.cm_base.proofs.splitting.push_words.Given as goal

-- the words so far, after which those of the rest stand unless it is bad
abbrev pub invariant-loop-rest : goal.invariant-loop-rest
invariant-loop-rest l = record {
  bad : is_bad l.fn.line ≡ is_bad l.rest;
  reported : is_bad l.rest ≡ false → map (λ word. word.now) l.words.items ++ words_of l.rest ≡ map (λ word. word.now) l.initial.words.items ++ words_of l.fn.line;
  first : 0 < length l.rest → is_blank (slice_index l.rest 0) ≡ false;
}

abbrev pub decreases-loop-rest : goal.decreases-loop-rest
decreases-loop-rest l = length l.rest
