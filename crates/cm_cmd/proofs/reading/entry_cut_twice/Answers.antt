use Rattle.std.proofs.Common.{ℕ, Ok, ap, sym, ◌∙◌}
use Rattle.cm_cmd.proofs.CutOnce.{entry_cut}
use Rattle.cm_cmd.proofs.reading.entry_cut_twice.Goals as goal

pub returns : goal.returns
returns c =
    entry_cut c.args.text.now c.before-2.result.now c.after-rest.result.now c.before-3.result.now c.after.result.now
    c.in-Some.first c.in-Some-first_byte.second c.in-Ok.chan c.in-Ok-number_in.range c.in-Ok-read_aref.aref
    (sym c.in-Some.ensures.place) c.before-2.ensures c.after-rest.ensures (sym c.in-Some-first_byte.ensures.place) c.before-3.ensures c.after.ensures
    (sym c.in-Ok.ensures.value) (sym c.in-Ok-number_in.ensures.value) (sym c.in-Ok-read_aref.ensures)
    ∙ ap (λ (entry : ℕ). Ok entry) (sym c.pack.ensures)
