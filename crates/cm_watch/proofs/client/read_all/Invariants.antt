use Rattle.std.proofs.Common.{◌≡◌, false, map}
use Rattle.cm_stream.specs.Merging.{released_of}
use Rattle.cm_watch.specs.Watched.{AreRead, AreSame}
use Rattle.cm_watch.proofs.client.read_all.Given as goal

-- the lines are those of all samples that the streams have given, and the client has waited where there were none
abbrev pub invariant-loop : goal.invariant-loop
invariant-loop g l = record {
  read : AreRead l.merge.streams l.texts;
  told : l.watcher.told ≡ map released_of l.merge.streams;
  idle : l.watcher.idle ≡ false;
  same : AreSame l.initial.merge.streams l.merge.streams l.initial.texts l.texts;
}
