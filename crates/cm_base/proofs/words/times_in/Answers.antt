use Rattle.std.proofs.Common.{◌+◌, drop, map, sym, ap, ◌∙◌}
use Rattle.cm_base.specs.Words.{each_word, number_in}
use Rattle.cm_base.proofs.Values.{at_line_ok, each_next}
use Rattle.cm_base.proofs.words.times_in.Goals as goal

pub loop-word-preserved : goal.loop-word-preserved
loop-word-preserved c =
    let said = sym c.time_in.ensures.value ∙ at_line_ok c.args.line c.time_in.result c.in_ok-time.time c.in_ok-time.ensures in
    let next = each_next (λ word. word.now) (number_in 0 c.args.most) c.loop-word.times.items c.args.words.now c.loop-word.word-index _ c.in_ok-time.time c.loop-word-test.true said in
    c.loop-word.invariant ∙ next
    ∙ ap (λ ts. each_word (number_in 0 c.args.most) ts (map (λ word. word.now) (drop (c.loop-word.word-index + 1) c.args.words.now))) (sym c.in_ok-push.ensures.items)
