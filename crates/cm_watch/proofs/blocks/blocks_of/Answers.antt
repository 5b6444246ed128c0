use Rattle.std.proofs.Common.{◌≡◌, IfOk, length, take, sym, subst, arith}
use Rattle.std.proofs.lemmas.List.{take_all}
use Rattle.cm_block.specs.RunText.{run_text}
use Rattle.cm_watch.specs.Whole.{AreWhole}
use Rattle.cm_watch.proofs.Wholes.{are_whole, texts_counted}
use Rattle.cm_watch.proofs.blocks.blocks_of.Goals as goal

pub blocks_up_to-requires : goal.blocks_up_to-requires
blocks_up_to-requires c =
    let watched = c.args.watched in
    record { whole = subst (AreWhole c.args.job.now watched.texts.items) (sym c.deref.ensures.value) (are_whole c.args.job.now watched.merge.streams watched.texts.items c.in_ok-ends.ends.items c.requires.watched c.requires.read c.in_ok-ends.ensures) }

pub returns : goal.returns
returns c =
    let job = c.args.job.now in
    let watched = c.args.watched in
    let count = texts_counted job watched.merge.streams watched.texts.items c.requires.watched c.requires.read in
    let all : take (length watched.texts.items) job.lines ≡ job.lines = take_all (length watched.texts.items) job.lines (omega arith) in
    subst (λ l. IfOk c.blocks_up_to.result (λ text. text ≡ run_text job.board job.signals l)) all c.blocks_up_to.ensures
