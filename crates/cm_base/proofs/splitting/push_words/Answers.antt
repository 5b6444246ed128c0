use Rattle.std.proofs.Common.{◌≡◌, ◌<◌, ℕ, List, sym, ap, ◌∙◌, arith}
use Rattle.std.proofs.lemmas.Bool.Decides.{nat_tests}
use Rattle.std.proofs.lemmas.List.Folds.{length-prefix_len}
use Rattle.std.specs.List.{prefix_len}
use Rattle.std.specs.Prelude.{length}
use Rattle.cm_base.specs.Lines.{is_bad, is_printable, words_of}
use Rattle.cm_base.proofs.WordByWord.{bad_after, bad_first, after, word_more, words_after}
use Rattle.cm_base.proofs.splitting.push_words.Goals as goal

pub returns-then-is_empty-clause-bad : goal.returns-then-is_empty-clause-bad
returns-then-is_empty-clause-bad c =
    let rest : List ℕ = c.loop-rest.rest.now in
    let some : 0 < length rest = grind (arith, nat_tests) in
    let none : length c.cut_word.result.0.now ≡ 0 = grind (arith, nat_tests) in
    sym (c.loop-rest.invariant.bad ∙ bad_first rest some (omega (arith, none, ap length c.cut_word.ensures.word, length-prefix_len is_printable rest)) c.loop-rest.invariant.first)

pub returns-then-is_empty-clause-words : goal.returns-then-is_empty-clause-words
returns-then-is_empty-clause-words c =
    let rest : List ℕ = c.loop-rest.rest.now in
    let some : 0 < length rest = grind (arith, nat_tests) in
    let none : length c.cut_word.result.0.now ≡ 0 = grind (arith, nat_tests) in
    let bad = c.loop-rest.invariant.bad ∙ bad_first rest some (omega (arith, none, ap length c.cut_word.ensures.word, length-prefix_len is_printable rest)) c.loop-rest.invariant.first in
    λ good. absurd (cc)

pub loop-rest-preserved : goal.loop-rest-preserved
loop-rest-preserved c =
    let rest : List ℕ = c.loop-rest.rest.now in
    let left : List ℕ = c.past_blanks-rest-in-loop-rest.result.now in
    let cut = c.cut_word.ensures in
    let more : is_bad left ≡ is_bad (after rest) = c.past_blanks-rest-in-loop-rest.ensures.bad ∙ ap is_bad cut.rest in
    let full : 0 < length c.cut_word.result.0.now = grind (arith, nat_tests) in
    let some : 0 < prefix_len is_printable rest = omega (arith, full, ap length cut.word, length-prefix_len is_printable rest) in
    record {
      bad = c.loop-rest.invariant.bad ∙ bad_after rest ∙ sym more;
      reported = λ good. word_more (λ word. word.now) c.loop-rest.words.items c.push.new.self.items c.cut_word.result.0 _ rest left c.in_ok-push.ensures.items cut.word
          (c.past_blanks-rest-in-loop-rest.ensures.words ∙ ap words_of cut.rest)
          (words_after rest some (sym more ∙ good))
          (c.loop-rest.invariant.reported (bad_after rest ∙ sym more ∙ good));
      first = c.past_blanks-rest-in-loop-rest.ensures.first;
    }
