use Rattle.std.proofs.Common.{◌≡◌, ◌+◌, map}
use Rattle.std.specs.List.{range_with_len, sum}
use Rattle.cm_insn.specs.Bits.{bit_of}
use Rattle.cm_insn.specs.SiteView.{site_text}
use Rattle.cm_insn.proofs.Words.{below_more, word_more}
use Rattle.cm_insn.proofs.site.Site.word.Goals as goal

pub loop-c-preserved : goal.loop-c-preserved
loop-c-preserved c =
    let f = bit_of (site_text c.args.self.now) c.args.state.now in
    let more : sum (map f (range_with_len 0 (c.loop-c.c + 1))) ≡ sum (map f (range_with_len 0 c.loop-c.c)) + f c.loop-c.c = word_more f c.loop-c.c in
    let bit : c.bit_of-word.result ≡ f c.loop-c.c = c.bit_of-word.ensures.value in
    record {
      so_far = cc;
      below = below_more c.loop-c.word c.bit_of-word.result c.loop-c.c c.loop-c.invariant.below c.bit_of-word.ensures.high;
    }
