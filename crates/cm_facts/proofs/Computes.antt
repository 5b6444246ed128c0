-- What an example is computed with.
use Rattle.std.specs.Prelude.{ℕ}
use Rattle.std.specs.Fmt.{digits}
use Rattle.cm_board.specs.Board.{has_text, is_bits_ok, maxdata_of, munge_of, ranges_of}
use Rattle.cm_board.specs.Times.{down, up}
use Rattle.cm_board_text.specs.DivisorsText.{divisors_word}
use Rattle.cm_signal.specs.Signals.{have_own}
use Rattle.cm_facts.specs.Examples.{Describes}
use Rattle.cm_facts.specs.ChannelFacts.{chan_facts, code_facts}
use Rattle.cm_facts.specs.CommandFacts.{clock_facts, command_facts, list_facts, order_facts, rule_facts, scan_facts, size_facts, time_facts}
use Rattle.cm_facts.specs.FactLine.{fact_line}
use Rattle.cm_facts.specs.SignalFacts.{line_facts}
use Rattle.cm_facts.specs.SubFacts.{head_facts, offer_facts, own_command_facts, sub_facts}

-- names the definitions that stand for themselves unless they are unfolded: `unfolding computes` opens all of them
unfoldable pub computes : ℕ
unfolding digits has_text is_bits_ok maxdata_of munge_of ranges_of down up divisors_word have_own fact_line line_facts chan_facts code_facts clock_facts command_facts list_facts order_facts rule_facts scan_facts size_facts time_facts head_facts offer_facts own_command_facts sub_facts Describes
computes = 0
