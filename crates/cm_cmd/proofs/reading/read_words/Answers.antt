use Rattle.std.proofs.Common.{Bor, List, ℕ, []}
use Rattle.cm_cmd.proofs.Parts.{eight}
use Rattle.cm_cmd.proofs.reading.read_words.Goals as goal

pub returns-in-len8 : goal.returns-in-len8
returns-in-len8 c =
    rw (eight (λ (w : Bor (List ℕ)). w.now) c.args.words.now (record { ref_ptr = (0, 0); now = [] }) c.in-len8.len_at_least c.in-len8.len_below) (rw c.read_head-head.ensures at c.read_with_list.ensures)
