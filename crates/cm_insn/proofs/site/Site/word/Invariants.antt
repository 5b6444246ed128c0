use Rattle.std.proofs.Common.{◌≡◌, ◌<◌, ◌^◌, map}
use Rattle.std.specs.List.{range_with_len, sum}
use Rattle.cm_insn.specs.Bits.{bit_of}
use Rattle.cm_insn.specs.SiteView.{site_text}
use Rattle.cm_insn.proofs.site.Site.word.Given as goal

-- the bits of the channels so far
abbrev pub invariant-loop-c : goal.invariant-loop-c
invariant-loop-c l = record {
  so_far : l.word ≡ sum (map (bit_of (site_text l.self) l.state) (range_with_len 0 l.c));
  below : l.word < 2 ^ l.c;
}
