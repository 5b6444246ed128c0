use Rattle.std.proofs.Common.{◌≡◌, ℕ, ◌+◌, ◌<◌, List, ap, ap₂, sym, ◌∙◌, map, drop, Ok, length, arith, length-drop, false, true}
use Rattle.std.specs.List.{position_or_len}
use Rattle.cm_base.specs.LineView.{line_view}
use Rattle.cm_base.specs.ReadStop.{Stops}
use Rattle.cm_base.specs.declared.lines.Line.{Line}
use Rattle.cm_base.proofs.Each.{stops-along}
use Rattle.cm_board_text.specs.BoardPart.{ends_block, is_part_end, next_block}
use Rattle.cm_board_text.proofs.Blocks.{Stands, at_signals, block_between, block_stops, block_reported, left_over, sub_pushed, within_lines}
use Rattle.cm_board_text.proofs.reading.read_blocks.Goals as goal

pub returns-in-Err : goal.returns-in-Err
returns-in-Err c =
    let more : is_part_end (map line_view (drop c.loop-alloc.at c.args.lines.now)) ≡ false =
    ap (λ (ls : List Line). is_part_end (map line_view ls)) (sym c.lines_from.ensures.lines) ∙ sym c.is_part_end.ensures ∙ c.loop-alloc-test.true in
    let stands : Stands c.args.lines.now c.loop-alloc.at c.block_len-inside.result c.index-lines-at.result = record {
      within = within_lines c.args.lines.now c.loop-alloc.at more;
      first = c.index-lines-at.is;
      between = c.loop-alloc.invariant.between;
      more = more;
      length_is = c.block_len-inside.ensures.value ∙ ap (λ (ls : List Line). position_or_len ends_block (map line_view ls)) c.lines_from-after.ensures.lines;
    } in
    let counted : length c.loop-alloc.subs.items ≡ c.len.result = omega (arith, c.len.ensures) in
    let said : Stops c.in-Err.stop (next_block c.args.version c.args.end (length c.loop-alloc.subs.items) (line_view c.index-lines-at.result) (map line_view (drop (c.loop-alloc.at + 1) c.args.lines.now))) =
    stops-along c.in-Err.stop _ _ (ap₂ (λ (n : ℕ) (ls : List Line). next_block c.args.version c.args.end n (line_view c.index-lines-at.result) (map line_view ls)) counted (sym c.lines_from-after.ensures.lines)) c.in-Err.ensures in
    rw c.loop-alloc.invariant.reported (block_stops c.args.version c.args.end (length c.loop-alloc.subs.items) (c.loop-alloc.subs.items) c.args.lines.now c.loop-alloc.at c.block_len-inside.result c.index-lines-at.result c.in-Err.stop stands said)

pub loop-alloc-preserved : goal.loop-alloc-preserved
loop-alloc-preserved c =
    let more : is_part_end (map line_view (drop c.loop-alloc.at c.args.lines.now)) ≡ false =
    ap (λ (ls : List Line). is_part_end (map line_view ls)) (sym c.lines_from.ensures.lines) ∙ sym c.is_part_end.ensures ∙ c.loop-alloc-test.true in
    let within : c.loop-alloc.at < length c.args.lines.now = within_lines c.args.lines.now c.loop-alloc.at more in
    let length_is : c.block_len-inside.result ≡ position_or_len ends_block (map line_view (drop (c.loop-alloc.at + 1) c.args.lines.now)) =
    c.block_len-inside.ensures.value ∙ ap (λ (ls : List Line). position_or_len ends_block (map line_view ls)) c.lines_from-after.ensures.lines in
    let stands : Stands c.args.lines.now c.loop-alloc.at c.block_len-inside.result c.index-lines-at.result = record {
      within = within;
      first = c.index-lines-at.is;
      between = c.loop-alloc.invariant.between;
      more = more;
      length_is = length_is;
    } in
    let counted : length c.loop-alloc.subs.items ≡ c.len.result = omega (arith, c.len.ensures) in
    let said : next_block c.args.version c.args.end (length c.loop-alloc.subs.items) (line_view c.index-lines-at.result) (map line_view (drop (c.loop-alloc.at + 1) c.args.lines.now)) ≡ Ok c.in-Ok.sub =
    ap₂ (λ (n : ℕ) (ls : List Line). next_block c.args.version c.args.end n (line_view c.index-lines-at.result) (map line_view ls)) counted (sym c.lines_from-after.ensures.lines) ∙ c.in-Ok.ensures in
    let left : length c.lines_from-after.result.now ≡ length (drop (c.loop-alloc.at + 1) c.args.lines.now) = ap (λ (ls : List Line). length ls) c.lines_from-after.ensures.lines in
    record {
      within = omega (arith, c.block_len-inside.ensures.within, left, length-drop (c.loop-alloc.at + 1) c.args.lines.now);
      between = block_between c.args.lines.now c.loop-alloc.at c.block_len-inside.result length_is;
      reported = c.loop-alloc.invariant.reported ∙ block_reported c.args.version c.args.end (length c.loop-alloc.subs.items) (c.loop-alloc.subs.items) c.args.lines.now c.loop-alloc.at c.block_len-inside.result c.index-lines-at.result c.in-Ok.sub stands said
          ∙ sub_pushed c.args.version c.args.end c.loop-alloc.subs.items c.push.new.self.items c.in-Ok.sub (map line_view (drop (c.loop-alloc.at + (1 + c.block_len-inside.result)) c.args.lines.now)) c.in_ok-push.ensures.items;
    }

pub returns : goal.returns
returns c =
    let end : is_part_end (map line_view (drop c.loop-alloc.at c.args.lines.now)) ≡ true =
    ap (λ (ls : List Line). is_part_end (map line_view ls)) (sym c.lines_from.ensures.lines) ∙ sym c.is_part_end.ensures ∙ c.loop-alloc-test.false in
    c.loop-alloc.invariant.reported ∙ at_signals c.args.version c.args.end (length c.loop-alloc.subs.items) (c.loop-alloc.subs.items) (map line_view (drop c.loop-alloc.at c.args.lines.now)) end (left_over c.args.lines.now c.loop-alloc.at c.loop-alloc.invariant.within c.if-at-lines.false)
