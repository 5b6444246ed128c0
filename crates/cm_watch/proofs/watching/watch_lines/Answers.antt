use Rattle.std.proofs.Common.{List, sym, ap, subst}
use Rattle.cm_stream.specs.Stream.{Streaming}
use Rattle.cm_stream.specs.Merging.{MergeText}
use Rattle.cm_watch.specs.Watched.{AreRead}
use Rattle.cm_watch.proofs.Starts.{all_fresh}
use Rattle.cm_watch.proofs.watching.watch_lines.Goals as goal

pub new-requires-clause-fresh : goal.new-requires-clause-fresh
new-requires-clause-fresh g c = all_fresh c.args.board.now c.args.signals.now c.in_ok-sides.field-0.streams.items c.args.lines.now c.in_ok-sides.ensures.start.streams

pub watch_sides-requires-clause-read : goal.watch_sides-requires-clause-read
watch_sides-requires-clause-read g c κs within =
    subst (λ (l : List Streaming). AreRead l c.in_ok-sides.field-0.texts.items) (sym (ap (λ (m : MergeText). m.streams) c.in_ok-merge.ensures)) c.in_ok-sides.ensures.read
