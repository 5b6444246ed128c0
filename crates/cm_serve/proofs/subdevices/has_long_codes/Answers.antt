use Rattle.std.proofs.Common.{◌≡◌, ◌<◌, true, false, sym, ap, ◌∙◌, subst}
use Rattle.std.specs.Prelude.{nat_lt}
use Rattle.std.proofs.lemmas.Bool.{le-ltb, lt-ltb}
use Rattle.cm_board.specs.Board.{SubText, maxdata_of}
use Rattle.cm_serve.proofs.Numbers.{none_more, some_passes}
use Rattle.cm_serve.proofs.subdevices.has_long_codes.Goals as goal

pub returns-then-maxdata_of-gt65535 : goal.returns-then-maxdata_of-gt65535
returns-then-maxdata_of-gt65535 c =
    let sub : SubText = c.args.sub.now in
    let within : c.loop-chan.chan < sub.channels = subst (λ (s : SubText). c.loop-chan.chan < s.channels) c.sub.view_is c.loop-chan-test.true in
    let long : nat_lt 65535 (maxdata_of sub c.loop-chan.chan) ≡ true = ap (nat_lt 65535) (sym c.maxdata_of.ensures.value) ∙ lt-ltb 65535 c.maxdata_of.result c.if-maxdata_of-gt65535.true in
    sym (some_passes (nat_lt 65535) (maxdata_of sub) c.loop-chan.chan sub.channels within long)

pub loop-chan-preserved : goal.loop-chan-preserved
loop-chan-preserved c =
    let sub : SubText = c.args.sub.now in
    let short : nat_lt 65535 (maxdata_of sub c.loop-chan.chan) ≡ false = ap (nat_lt 65535) (sym c.maxdata_of.ensures.value) ∙ le-ltb 65535 c.maxdata_of.result c.if-maxdata_of-gt65535.false in
    none_more (nat_lt 65535) (maxdata_of sub) c.loop-chan.chan c.loop-chan.invariant short
