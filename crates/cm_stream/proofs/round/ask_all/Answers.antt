use Rattle.std.proofs.Common.{List, set, sym, ap, ◌∙◌}
use Rattle.std.proofs.lemmas.List.Edits.{map_over_more}
use Rattle.cm_stream.specs.Stream.{Streaming, asked_stream}
use Rattle.cm_stream.proofs.round.ask_all.Goals as goal

pub loop-i-preserved : goal.loop-i-preserved
loop-i-preserved g c =
    let now : List Streaming = c.loop-i.streams in
    ap (λ (s : Streaming). set now c.loop-i.i s) (c.ask_stop.ensures ∙ ap asked_stream (sym c.index-streams-i.is)) ∙ map_over_more asked_stream c.args.streams.now now c.loop-i.i c.index-streams-i.result c.loop-i-test.true c.loop-i.invariant c.index-streams-i.is
