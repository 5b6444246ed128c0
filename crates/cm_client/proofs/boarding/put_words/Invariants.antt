use Rattle.std.proofs.Common.{◌≡◌, ◌+◌, ◌≤◌, ◌<◌, length, false}
use Rattle.cm_client.specs.Handing.{in_64_bits}
use Rattle.cm_client.specs.Served.{HasHanded}
use Rattle.cm_client.proofs.boarding.put_words.Given as goal

-- all words that were given are put, and all but the fresh ones are published and handed on; no stop was seen, and it
-- has waited where it had nothing to do
abbrev pub invariant-loop : goal.invariant-loop
invariant-loop g l = record {
  table : l.writer.table ≡ l.initial.writer.table;
  ring : l.writer.ring ≡ l.initial.writer.ring;
  plan : l.initial.writer.ring.samples ≡ g.W.Words.all l.words;
  at : l.writer.part.next ≡ g.W.Words.place l.words;
  published : l.writer.part.written + l.fresh ≡ l.writer.part.next;
  few : l.fresh < 256;
  within : g.W.Words.place l.words ≤ length (g.W.Words.all l.words);
  some_cell : 0 < l.size;
  looks : l.writer.part.read_looks ≤ l.writer.part.freed + l.writer.part.stop_looks;
  no_stop : l.writer.part.saw_stop ≡ false;
  handed : l.handover.handed ≡ in_64_bits l.writer.part.written;
  way : HasHanded g.S.Waiting.has_handed_on g.S.Waiting.has_waited 0 l.writer.part.written l.fn.waiting l.handover.way;
  idle : l.handover.idle ≡ false;
  most : l.paced ≡ false → l.most ≡ 1;
  each : l.paced ≡ false → l.fresh ≡ 0;
}
