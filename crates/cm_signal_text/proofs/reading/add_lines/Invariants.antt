use Rattle.std.proofs.Common.{◌≡◌, ◌+◌, length}
use Rattle.cm_signal.specs.Fitting.{FitBoard}
use Rattle.cm_signal_text.specs.SignalsPart.{signals_after}
use Rattle.cm_signal_text.proofs.Parts.{raised}
use Rattle.cm_signal_text.proofs.reading.add_lines.Given as goal

-- the signals so far, and what the lines that are left add
abbrev pub invariant-loop-count : goal.invariant-loop-count
invariant-loop-count l = record {
  reported : signals_after l.board l.end l.initial.signals l.initial.cursor ≡ raised l.count (signals_after l.board l.end l.signals l.cursor);
  fits : FitBoard l.board.subs l.signals;
  counted : l.count + length l.cursor ≡ length l.initial.cursor;
}

abbrev pub decreases-loop-count : goal.decreases-loop-count
decreases-loop-count l = length l.cursor
