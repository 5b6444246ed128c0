use Rattle.std.proofs.Common.{ℕ, length, refl, ap, sym, ◌∙◌, arith}
use Rattle.std.proofs.Math.ListN.{length-map}
use Rattle.cm_stream.specs.Merging.{released_of}
use Rattle.cm_stream.specs.Scans.{ScanText}
use Rattle.cm_watch.specs.Told.{WatcherText}
use Rattle.cm_watch.proofs.Told.{told_scan}
use Rattle.cm_watch.proofs.Followed.{can_put_scan, ended_read, has_stream, same_on, scan_read, scan_same, still_read}
use Rattle.cm_watch.proofs.client.read_all.Goals as goal

pub released-requires : goal.released-requires
released-requires g c = has_stream _ _ _ _ _ c.in-Given.ensures.merged

pub release-requires : goal.release-requires
release-requires g c =
    let here = has_stream _ _ _ _ _ c.in-Given.ensures.merged in
    let told = ap (length {A = ℕ}) (c.step.ensures.told ∙ c.loop.invariant.told) in
    let count = c.in-Given.ensures.merged.count in
    let many = length-map c.loop.merge.streams released_of in
    omega arith

pub put_lines-requires : goal.put_lines-requires
put_lines-requires g c = can_put_scan _ _ _ _ _ _ _ c.loop.invariant.read c.in-Given.ensures.merged (c.deref.ensures.value ∙ ap (λ (s : ScanText). s.words) c.scan.view_is)

pub put_more-requires-clause-source : goal.put_more-requires-clause-source
put_more-requires-clause-source g c = has_stream _ _ _ _ _ c.in-Given.ensures.merged

pub put_more-requires-clause-told : goal.put_more-requires-clause-told
put_more-requires-clause-told g c = told_scan _ _ _ _ _ _ (c.step.ensures.told ∙ c.loop.invariant.told) c.released.ensures c.release.ensures.told _ _ c.in-Given.ensures.merged

pub put_more-requires-clause-read : goal.put_more-requires-clause-read
put_more-requires-clause-read g c = scan_read _ _ _ _ _ _ _ c.loop.invariant.read c.in-Given.ensures.merged (c.deref.ensures.value ∙ ap (λ (s : ScanText). s.words) c.scan.view_is) _ c.in_ok-put_lines-in-Given.ensures

pub loop-preserved-in-Given : goal.loop-preserved-in-Given
loop-preserved-in-Given g c =
    let one = scan_same _ _ _ _ _ _ _ c.loop.invariant.read c.in-Given.ensures.merged (c.deref.ensures.value ∙ ap (λ (s : ScanText). s.words) c.scan.view_is) _ c.in_ok-put_lines-in-Given.ensures in
    let more = c.in_ok-put_more-in-Given.ensures in
    record {
      read = more.read;
      told = more.told;
      idle = more.idle ∙ (c.release.ensures.idle ∙ c.in-Given.ensures.idle);
      same = same_on _ _ _ _ _ _ c.loop.invariant.same (same_on _ _ _ _ _ _ one more.same);
    }

pub returns-in-Ended-clause-watched : goal.returns-in-Ended-clause-watched
returns-in-Ended-clause-watched g c = ended_read _ _ _ _ _ _ c.loop.invariant.read c.loop.invariant.same c.in-Ended.ensures.merged

pub returns-in-Ended-clause-told : goal.returns-in-Ended-clause-told
returns-in-Ended-clause-told g c = c.step.ensures.told ∙ c.loop.invariant.told ∙ sym c.in-Ended.ensures.merged.released

pub loop-preserved : goal.loop-preserved
loop-preserved g c =
    let step = c.in-Waiting.ensures.merged in
    record {
      read = still_read _ _ _ c.loop.invariant.read step.fixed step.words;
      told = ap (λ (w : WatcherText). w.told) c.wait.ensures ∙ (c.step.ensures.told ∙ c.loop.invariant.told) ∙ sym step.released;
      idle = ap (λ (w : WatcherText). w.idle) c.wait.ensures;
      same = same_on _ _ _ _ _ _ c.loop.invariant.same record { streams = step.fixed; formats = refl };
    }
