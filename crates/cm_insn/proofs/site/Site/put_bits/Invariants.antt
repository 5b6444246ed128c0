use Rattle.cm_insn.proofs.Words.{PutTo}
use Rattle.cm_insn.proofs.site.Site.put_bits.Given as goal

-- the channels so far have taken their bits
abbrev pub invariant-loop-c : goal.invariant-loop-c
invariant-loop-c l = PutTo l.self.sub.now l.mask l.bits l.c l.initial.state l.state
