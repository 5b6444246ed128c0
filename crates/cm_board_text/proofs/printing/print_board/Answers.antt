use Rattle.std.proofs.Common.{◌≡◌, ℕ, List, [], ◌++◌, rules, flat_map, ap, ◌∙◌, subst}
use Rattle.std.specs.List.{All}
use Rattle.cm_base.specs.Lines.{lines_of}
use Rattle.cm_base.specs.WrittenLines.{written_line}
use Rattle.cm_board.specs.Board.{BoardText, IsSaidSub, IsSoundBoard, SubText}
use Rattle.cm_board_text.specs.BoardPart.{board_of}
use Rattle.cm_board_text.specs.Printed.{block_text, name_line, printed_board, version_line}
use Rattle.cm_board_text.proofs.BoardBack.{printed_reads}
use Rattle.cm_board_text.proofs.BoardPieces.{three_pieces}
use Rattle.cm_board_text.proofs.printing.print_board.Goals as goal

pub returns-clause-text : goal.returns-clause-text
returns-clause-text c =
    let board : BoardText = c.args.board.now in
    let first : List ℕ = c.put_version.new.out.items in
    let second : List ℕ = c.put_name.new.out.items in
    let name = ap (λ (n : List ℕ). first ++ written_line (name_line n)) (c.deref.ensures.value ∙ ap (λ (b : BoardText). b.name) c.board.view_is) in
    let subs = ap (λ (s : List SubText). second ++ flat_map block_text s) (c.deref-2.ensures.value ∙ ap (λ (b : BoardText). b.subs) c.board.view_is) in
    three_pieces [] (written_line (version_line board.version)) (written_line (name_line board.name)) (flat_map block_text board.subs) first second c.put_subs.new.out.items
    (c.in_ok-put_version.ensures ∙ ap (λ (items : List ℕ). items ++ written_line (version_line c.board.inside.version)) c.new-out.ensures.items ∙ ap (λ (b : BoardText). written_line (version_line b.version)) c.board.view_is)
    (c.in_ok-put_name.ensures ∙ name)
    (c.in_ok-put_subs.ensures.text ∙ subs)

pub returns-clause-reads : goal.returns-clause-reads
returns-clause-reads c =
    let e : c.put_subs.new.out.items ≡ printed_board c.args.board.now = returns-clause-text c in
    let board : IsSoundBoard c.args.board.now = search rules in
    let subs : All IsSaidSub c.args.board.now.subs = subst (All IsSaidSub) (c.deref-2.ensures.value ∙ ap (λ (b : BoardText). b.subs) c.board.view_is) c.in_ok-put_subs.ensures.sound in
    λ more end begins. ap (λ (text : List ℕ). board_of end (lines_of (text ++ more))) e ∙ printed_reads c.args.board.now board subs more end begins
