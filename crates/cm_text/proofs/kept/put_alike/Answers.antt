use Rattle.std.proofs.Common.{◌++◌, sym, ap, ◌∙◌, arith}
use Rattle.cm_text.specs.declared.kept.KeptLine.{KeptLine}
use Rattle.cm_text.proofs.Entries.{kept_at}
use Rattle.cm_text.proofs.Repeats.{first_and_alike}
use Rattle.cm_text.proofs.kept.put_alike.Goals as goal

pub returns-clause-lines : goal.returns-clause-lines
returns-clause-lines c =
    let f = c.args.format.now in
    let alone = c.requires.alone in
    let own = c.index-kept-0.result in
    let more = c.count_alike-more.result in
    let word = c.in-Some.word in
    let is = kept_at f c.put_kept_line.new.kept 0 own c.in_ok-put_kept_line.ensures.kept (omega arith) c.index-kept-0.is word (ap (λ (k : KeptLine). k.word) c.index-kept-0.is ∙ c.in-Some.is) in
    first_and_alike f alone c.args.words.now more word (c.args.text.now.items ++ c.args.gathered.now) (c.put_kept_line.new.text.items ++ c.put_kept_line.new.gathered) (c.add_times.new.text.items ++ c.add_times.new.self) _
    c.requires.some c.in_ok-put_kept_line.ensures.line c.in_ok-add_times.ensures (ap (λ (k : KeptLine). k.line) (sym c.index-kept-0.is) ∙ is) c.count_alike-more.ensures.alike
