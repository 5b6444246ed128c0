use Rattle.std.proofs.Common.{◌≡◌, ◌+◌, ◌%◌, ◌<◌, ◌++◌, ℕ, length, get_or, ap, ◌∙◌, subst, arith}
use Rattle.cm_text.proofs.Entries.{line_more, next_entry, same_sample}
use Rattle.cm_text.proofs.kept.put_in_turn.Goals as goal

pub put_kept_line-requires-clause-code : goal.put_kept_line-requires-clause-code
put_kept_line-requires-clause-code c =
    let i = c.loop-i.i in
    same_sample c.args.format.now (c.args.place + i) c.loop-i.index c.loop-i.invariant.index c.loop-i.invariant.within (get_or c.args.words.now i 0) (c.requires.codes i c.loop-i-test.true)

pub loop-i-preserved : goal.loop-i-preserved
loop-i-preserved c =
    let f = c.args.format.now in
    let have = c.loop-i.invariant in
    let i = c.loop-i.i in
    let index = c.loop-i.index in
    let next = c.next_index-index.result in
    let later : c.args.place + i + 1 ≡ c.args.place + (i + 1) = omega arith in
    let is : next ≡ (index + 1) % length f.list = c.next_index-index.ensures.value ∙ ap (λ (k : ℕ). (index + 1) % k) c.entries-entries.ensures.count in
    record {
      reported = line_more f c.args.place i index c.args.words.now c.args.text.now.items (c.loop-i.text.items ++ c.loop-i.gathered) _ c.loop-i-test.true have.index have.within have.reported c.in_ok-put_kept_line.ensures.line;
      kept = c.in_ok-put_kept_line.ensures.kept;
      index = next_entry f (c.args.place + i) index have.index have.within next is ∙ ap (λ (k : ℕ). k % length f.list) later;
      within = subst (λ (k : ℕ). next < k) c.entries-entries.ensures.count c.next_index-index.ensures.within;
    }
