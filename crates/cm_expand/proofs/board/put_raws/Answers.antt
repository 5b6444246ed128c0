use Rattle.std.proofs.Common.{List, Option, subst, Bor}
use Rattle.std.specs.Prelude.{IfSome}
use Rattle.cm_expand.specs.Item.{AreItems}
use Rattle.cm_expand.specs.declared.item.EntryWords.{EntryWords}
use Rattle.cm_expand.specs.Items.{raw_at}
use Rattle.cm_expand.specs.PlanView.{plan_text}
use Rattle.cm_expand.proofs.Taken.{by_item, single}
use Rattle.cm_expand.proofs.board.put_raws.Goals as goal

pub returns-then-words-eq1 : goal.returns-then-words-eq1
returns-then-words-eq1 c = single (raw_at (plan_text c.args.plan.now) c.args.list_index) c.args.words.now c.raw_word.result c.args.first c.args.step c.if-words-eq1.true c.raw_word.ensures

pub returns-in-Some : goal.returns-in-Some
returns-in-Some c = by_item (plan_text c.args.plan.now) c.in-Some.items.now c.args.list_index c.raws_of.new.words _ (subst (λ (o : Option (Bor (List EntryWords))). IfSome o (λ items. AreItems (plan_text c.args.plan.now) items.now)) c.in-Some.is c.requires.items) c.requires.within c.raws_of.ensures
