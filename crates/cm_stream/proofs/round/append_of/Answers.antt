use Rattle.std.proofs.Common.{get_or}
use Rattle.std.proofs.lemmas.Option.{slice_get-get_or}
use Rattle.std.proofs.lemmas.Result.{IfOk-weaker}
use Rattle.cm_stream.specs.Stream.{Streaming}
use Rattle.cm_stream.proofs.Appends.{appended_of, released_nothing}
use Rattle.cm_stream.proofs.round.append_of.Goals as goal

pub returns-clause-appended : goal.returns-clause-appended
returns-clause-appended g c =
    let some : Streaming = c.index-streams-source.result in
    let stream : Streaming = get_or c.args.streams.now c.args.source some in
    IfOk-weaker c.append_scans.result _ _ (λ count h. appended_of c.args.source count c.args.most c.args.words.now.items c.append_scans.new.words.items c.args.streams.now stream c.append_scans.new.self
    (slice_get-get_or c.args.streams.now c.args.source some c.requires) h) c.append_scans.ensures.appended

pub returns-clause-lack : goal.returns-clause-lack
returns-clause-lack g c =
    let some : Streaming = c.index-streams-source.result in
    let stream : Streaming = get_or c.args.streams.now c.args.source some in
    released_nothing c.append_scans.result c.args.source c.args.streams.now stream c.append_scans.new.self
    (slice_get-get_or c.args.streams.now c.args.source some c.requires) c.append_scans.ensures.same c.append_scans.ensures.lack
