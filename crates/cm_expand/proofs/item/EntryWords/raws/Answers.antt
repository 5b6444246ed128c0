use Rattle.std.proofs.Common.{ap, sym, ◌∙◌, length, map}
use Rattle.cm_signal.specs.Adding.{progression}
use Rattle.cm_expand.specs.Item.{item_raw}
use Rattle.cm_expand.specs.declared.item.EntryWords.{EntryWords}
use Rattle.cm_expand.proofs.Raws.{same_at_all}
use Rattle.cm_expand.proofs.item.EntryWords.raws.Goals as goal

pub returns-in-Same : goal.returns-in-Same
returns-in-Same c =
    let count = length c.args.words.now in
    c.fill.ensures.after (λ y h. h) ∙ same_at_all c.in-Same.word c.args.first c.args.step count
    ∙ ap (λ (item : EntryWords). map (item_raw item) (progression c.args.first c.args.step count)) (sym c.in-Same.is)
