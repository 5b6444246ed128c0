use Rattle.cm_board.specs.Board.{BoardText}
use Rattle.cm_base.proofs.Refusal.{gives_err}
use Rattle.cm_signal_text.proofs.Parts.{part_stops, part_reported}
use Rattle.cm_signal_text.proofs.reading.read_part.Goals as goal

pub returns-in_err-count-clause-value : goal.returns-in_err-count-clause-value
returns-in_err-count-clause-value c =
    let board : BoardText = c.args.board.now in
    gives_err _ c.from_residual-in_err-count.result c.in_err-count.field-0.0 _ c.from_residual-in_err-count.ensures.1
    (part_stops board c.args.end c.in_ok-horizon.horizon c.args.cursor c.read_horizon.new.cursor c.in_ok-signals.signals c.in_err-count.field-0.0 (record {
      head = c.in_ok-horizon.ensures.value;
      rest_is = c.read_horizon.ensures.rest;
      silence = c.in_ok-signals.ensures;
    }) c.in_err-count.ensures.value)

pub returns-clause-value : goal.returns-clause-value
returns-clause-value c =
    part_reported c.args.board.now c.args.end c.in_ok-horizon.horizon c.args.cursor c.read_horizon.new.cursor c.in_ok-signals.signals c.add_lines.new.signals c.in_ok-count.count (record {
      head = c.in_ok-horizon.ensures.value;
      rest_is = c.read_horizon.ensures.rest;
      silence = c.in_ok-signals.ensures;
    }) c.in_ok-count.ensures.value
