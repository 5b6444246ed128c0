use Rattle.std.proofs.Common.{◌∙◌, ap, sym, length, Bor, List, ℕ}
use Rattle.cm_cmd.proofs.Parts.{words_after}
use Rattle.cm_cmd.proofs.reading.words_from.Goals as goal

pub returns : goal.returns
returns c =
    words_after (λ (word : Bor (List ℕ)). word.now) c.deref.result.now c.args.line.now.words.items c.min-from.result c.args.from c.len.result c.deref.ensures.value c.min-from.ensures (c.len.ensures ∙ sym c.deref.ensures.len ∙ ap length c.deref.ensures.value)
