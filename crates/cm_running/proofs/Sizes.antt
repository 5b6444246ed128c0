-- How many conversions the FIFO of a sound subdevice holds.
use Rattle.std.proofs.Common.{◌≡◌, ◌≤◌, ◌%◌, true, Option, Some, subst}
use Rattle.std.specs.Prelude.{nat_le, ◌&&◌, ◌==◌}
use Rattle.std.specs.Option.{option_to_list}
use Rattle.std.specs.List.{list_all}
use Rattle.std.proofs.lemmas.Bool.{leb-true}
use Rattle.cm_base.proofs.Bools.{both}
use Rattle.cm_board.specs.Board.{IsSoundSub, SubText, fits_commands, fits_kind, fits_lines, fits_range, has_text, is_fifo, is_maxdata, is_munge, is_pair}
use Rattle.cm_board.specs.declared.board.Fifo.{Fifo}

-- two at least, and 4,096 at most
pub fifo-size : (sub : SubText) (f : Fifo) → IsSoundSub sub → sub.fifo ≡ Some f → (2 ≤ f.depth) × (f.depth ≤ 4096)
unfolding has_text
fifo-size sub f sound is =
    let lines : fits_lines sub ≡ true = (both (fits_kind sub && fits_commands sub) (fits_lines sub) sound.text).1 in
    let fifos : list_all is_fifo (option_to_list sub.fifo) ≡ true =
    (both (is_maxdata sub.maxdata && is_munge sub.munge && list_all fits_range sub.ranges && list_all is_pair sub.forbidden) (list_all is_fifo (option_to_list sub.fifo)) lines).1 in
    let one : (is_fifo f && true) ≡ true = subst (λ (o : Option Fifo). list_all is_fifo (option_to_list o) ≡ true) is fifos in
    let fits = (both (is_fifo f) true one).0 in
    let even = (both (nat_le 2 f.depth && nat_le f.depth 4096 && f.depth % 2 == 0) (nat_le f.latency 1000000000) fits).0 in
    let sized = (both (nat_le 2 f.depth && nat_le f.depth 4096) (f.depth % 2 == 0) even).0 in
    let bounds = both (nat_le 2 f.depth) (nat_le f.depth 4096) sized in
    (leb-true 2 f.depth bounds.0, leb-true f.depth 4096 bounds.1)
