use Rattle.std.proofs.Common.{List, set, sym, ap, ◌∙◌}
use Rattle.std.proofs.lemmas.List.Edits.{map_over_more}
use Rattle.cm_client.specs.Waiting.{AlarmText}
use Rattle.cm_watch.specs.Told.{rung}
use Rattle.cm_watch.proofs.watcher.wake_all.Goals as goal

pub loop-i-preserved : goal.loop-i-preserved
loop-i-preserved c =
    let now : List AlarmText = c.loop-i.boards in
    ap (λ (a : AlarmText). set now c.loop-i.i a) (c.wake_for_rest.ensures ∙ ap rung (sym c.index-boards-i.is)) ∙ map_over_more rung c.args.boards.now now c.loop-i.i c.index-boards-i.result c.loop-i-test.true c.loop-i.invariant c.index-boards-i.is
