use Rattle.std.proofs.Common.{ℕ, ◌+◌, List, drop, ◌++◌, ◌∙◌, ap, rules}
use Rattle.cm_expand.specs.Taking.{left_of}
use Rattle.cm_text.proofs.Outs.{ends_items, ends_words, goes_on, outs_of}
use Rattle.cm_text.proofs.output_block.put_outputs.Goals as goal

pub returns-in_default : goal.returns-in_default
returns-in_default c = ends_items c.args.sub c.loop-i.board c.args.words.now c.loop-i.text.items _ c.loop-i.i c.next.result c.next.ensures.next c.in_default.is c.loop-i.invariant

pub returns : goal.returns
returns c = ends_words c.args.sub (left_of c.loop-i.board) c.args.words.now c.loop-i.text.items _ c.loop-i.i (search rules) c.loop-i.invariant

pub loop-i-preserved : goal.loop-i-preserved
loop-i-preserved c =
    ap (λ (l : List ℕ). l ++ outs_of c.args.sub (left_of c.next.new.self) (drop (c.loop-i.i + 1) c.args.words.now)) c.in_ok-put_output.ensures
    ∙ goes_on c.args.sub c.loop-i.board c.next.new.self c.args.words.now c.loop-i.text.items _ c.loop-i.i 0 c.next.result c.in-Some.conversion c.next.ensures.next c.in-Some.is (search rules) c.loop-i-test.true c.loop-i.invariant
