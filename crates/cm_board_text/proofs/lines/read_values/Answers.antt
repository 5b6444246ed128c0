use Rattle.std.proofs.Common.{◌<◌, arith, length, ◌∙◌}
use Rattle.cm_base.proofs.Refusal.{gives_err}
use Rattle.cm_board_text.proofs.ItemRead.{values_stop, word_more}
use Rattle.cm_board_text.proofs.lines.read_values.Goals as goal

-- a word that isn't read
pub returns-in_err-push_word : goal.returns-in_err-push_word
returns-in_err-push_word c =
    gives_err _ c.from_residual.result c.in_err-push_word.field-0.0 _ c.from_residual.ensures.1
    (values_stop c.args.line c.in_err-push_word.field-0.0 c.args.head.now c.loop-word.values.items c.args.kinds.now c.args.words.now c.loop-word.word-index c.loop-word.at _ _ _
    c.loop-word.invariant.at (omega (arith, c.requires, c.loop-word.invariant.at, c.loop-word-test.true)) c.loop-word-test.true c.loop-word.invariant.rest c.in_err-push_word.ensures)

-- the values go on after it
pub loop-word-preserved : goal.loop-word-preserved
loop-word-preserved c =
    let below : c.loop-word.at < length c.args.kinds.now = omega (arith, c.requires, c.loop-word.invariant.at, c.loop-word-test.true) in
    record {
      at = omega arith;
      rest = c.loop-word.invariant.rest
          ∙ word_more c.args.line c.args.head.now _ _ c.args.kinds.now c.args.words.now c.loop-word.word-index c.loop-word.at _ _ below c.loop-word-test.true c.in_ok-push_word.ensures;
    }
