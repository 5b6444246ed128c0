use Rattle.std.proofs.Common.{subst, sym}
use Rattle.cm_insn.specs.Kept.{IsAsLong}
use Rattle.cm_insn.specs.Site.{SiteText}
use Rattle.cm_insn.specs.declared.insn.InsnCode.TheVariants as codes
use Rattle.cm_insn.proofs.Channels.{as_long}
use Rattle.cm_insn.proofs.insn.insn.Goals as goal

pub returns-in-Write-clause-kept : goal.returns-in-Write-clause-kept
returns-in-Write-clause-kept c =
    let site : SiteText = record { sub = c.args.sub.now; index = c.args.index; signals = c.args.signals.now; time = c.args.now } in
    subst (IsAsLong c.args.state.now) (sym c.write.ensures.state) (as_long site c.args.state.now codes.Write c.args.what.now.entry c.args.words.now)

pub returns-in-Bits-clause-kept : goal.returns-in-Bits-clause-kept
returns-in-Bits-clause-kept c =
    let site : SiteText = record { sub = c.args.sub.now; index = c.args.index; signals = c.args.signals.now; time = c.args.now } in
    subst (IsAsLong c.args.state.now) (sym c.bits.ensures.state) (as_long site c.args.state.now codes.Bits c.args.what.now.entry c.args.words.now)
