use Rattle.std.proofs.Common.{◌≡◌, ◌+◌, ◌≤◌, ℕ, length, map, take, arith, ap, ◌∙◌, subst}
use Rattle.cm_base.specs.LineView.{line_view}
use Rattle.cm_board.specs.declared.board.BoardDesc.{BoardDesc}
use Rattle.cm_base.specs.ReadStop.{Gives}
use Rattle.cm_base.proofs.Oks.{weaker}
use Rattle.cm_board_text.specs.BoardPart.{board_of}
use Rattle.cm_board_text.proofs.Prefix.{prefix_board, prefix_place}
use Rattle.cm_board_text.proofs.reading.read_board.Goals as goal

pub read_part-requires : goal.read_part-requires
read_part-requires c = prefix_place c.in_ok-list.place c.args.lines.now.list (map line_view c.deref.result.now) c.in_ok-list.ensures.place (ap (map line_view) c.deref.ensures.value ∙ c.in_ok-list.ensures.lines)

pub returns-clause-value : goal.returns-clause-value
returns-clause-value c =
    let part : map line_view c.deref.result.now ≡ take (c.in_ok-list.place + 1) c.args.lines.now.list = ap (map line_view) c.deref.ensures.value ∙ c.in_ok-list.ensures.lines in
    let whole = prefix_board c.end.result c.in_ok-list.place c.args.lines.now.list (map line_view c.deref.result.now) c.in_ok-list.ensures.place part in
    subst (Gives (λ r. (r.0, r.1)) c.read_part.result) (whole ∙ ap (λ n. board_of n c.args.lines.now.list) c.end.ensures.end) c.read_part.ensures.value

pub returns-clause-within : goal.returns-clause-within
returns-clause-within c =
    weaker (λ (r : BoardDesc × ℕ). r.1 ≡ c.in_ok-list.place) (λ (r : BoardDesc × ℕ). r.1 ≤ length c.args.lines.now.list) (λ r same. omega (arith, same, c.in_ok-list.ensures.within)) c.read_part.result c.read_part.ensures.place
