-- The lines of some run jobs on the demo board, worked by hand: what they ask, or the first that fails.
use Rattle.std.proofs.Common.{◌≡◌, ◌∙◌, ap, ℕ, pos, false, arith, List, [], ◌∷◌, replicate, codes, refl, Some, None, Result, Ok, Err}
use Rattle.std.specs.Prelude.{◌-ℤ◌}
use Rattle.cm_base.specs.Lines.{LineText, lines_of}
use Rattle.cm_base.specs.Reading.{at_line, read_each}
use Rattle.cm_base.specs.Source as source
use Rattle.cm_base.specs.declared.faults.Fault.{Fault}
use Rattle.cm_base.specs.declared.faults.Fault.TheVariants.{Bad, BadLine, BadNumber, Limit, Unknown}
use Rattle.cm_base.specs.declared.faults.Refused.{Refused}
use Rattle.cm_base.proofs.Each.{each-more}
use Rattle.cm_board.specs.Board.{BoardText, SubText, TimersText, idle_sub, maxdata_of, munge_of, no_sub, ranges_of}
use Rattle.cm_board.specs.Times.{down, up}
use Rattle.cm_board.proofs.Made.{down_plain, up_plain}
use Rattle.cm_board.specs.declared.board.Kind.TheVariants as kinds
use Rattle.cm_board.specs.declared.munge.Munge.TheVariants as munges
use Rattle.cm_board.specs.declared.board.Range.{Range}
use Rattle.cm_cmd.specs.Command.{CmdText}
use Rattle.cm_cmd.specs.CommandText.{head_of, trigger_of}
use Rattle.cm_cmd.specs.ListText.{aref_of, entry_of, list_of}
use Rattle.cm_cmd.specs.declared.command.Trig.{Trig}
use Rattle.cm_signal.specs.Signals.{SignalsText}
use Rattle.cm_job.specs.RunPart.{line_after, run_of}
use Rattle.cm_job.specs.declared.asked.Session.TheVariants as sessions
use Rattle.cm_job.specs.declared.line.Access.TheVariants as accesses
use Rattle.cm_job.specs.declared.line.Mode.TheVariants as modes
use Rattle.cm_job.specs.declared.line.RunLine.{RunLine}
use Rattle.cm_job.specs.declared.line.RunLine.TheVariants.{Go, Drive}

-- the demo board: four inputs, two outputs, eight digital lines, and a place without a subdevice
abbrev volts_10 : Range
volts_10 = record { min = pos 0 -ℤ pos 10000000; max = pos 10000000; unit = 0 }

-- a timer of 100 nanoseconds
abbrev every_100 : TimersText
every_100 = record { tick = 100; clock = [] }

abbrev inputs : SubText
inputs = record (idle_sub kinds.Ai 4 65535 (volts_10 ∷ record { min = pos 0 -ℤ pos 5000001; max = pos 5000000; unit = 0 } ∷ [])) {
  munge = munges.Offset;
  masks = record { start = 194; scan_begin = 84; convert = 82; scan_end = 32; stop = 33 };
  timers = every_100;
  scan_min = 1000;
  scan_max = 160000;
  conv_min = 200;
  conv_max = 1000000;
  list_max = 16;
  scans_max = 1000000;
  lines = 2;
  buffer = 4;
}

abbrev outputs : SubText
outputs = record (idle_sub kinds.Ao 2 4095 (volts_10 ∷ [])) {
  munge = munges.Offset;
  masks = record { start = 130; scan_begin = 16; convert = 2; scan_end = 32; stop = 33 };
  timers = every_100;
  scan_min = 1000;
  scan_max = 1000000;
  conv_min = 1000;
  conv_max = 1000;
  list_max = 2;
  scans_max = 1000000;
  lines = 0;
  buffer = 8;
}

abbrev demo : BoardText
demo = record { version = 1; name = codes "demo"; subs = inputs ∷ outputs ∷ idle_sub kinds.Dio 8 1 (record { min = pos 0; max = pos 1; unit = 2 } ∷ []) ∷ no_sub ∷ [] }

abbrev quiet : SignalsText
quiet = record { horizon = 10000; waves = []; edges = replicate 64 []; falls = replicate 64 []; ints = [] }

-- what lines ask
abbrev asked : List ℕ → Result (List RunLine) Refused
asked text = run_of demo quiet (lines_of text)

abbrev fails : ℕ → Fault → Result (List RunLine) Refused
fails line cause = Err (record { line = line; cause = cause })

abbrev trig : ℕ → ℕ → Trig
trig src arg = record { src = src; arg = arg }

-- a scan of the first channel every 1,000 nanoseconds, up to a count
abbrev scans : ℕ → ℕ → CmdText
scans sub count = record {
  sub = sub;
  flags = 0;
  start = trig source.now 0;
  scan_begin = trig source.timer 1000;
  convert = trig source.now 0;
  scan_end = trig source.count 1;
  stop = trig source.count count;
  list = 0 ∷ [];
}

-- the times that its timers make of the times in these jobs
down_scan : down every_100 1000 ≡ 1000
down_scan = down_plain 100 1000 (omega arith)

up_scan : up every_100 1000 ≡ 1000
up_scan = up_plain 100 1000 (omega arith) (omega arith)

down_input : down every_100 160000 ≡ 160000
down_input = down_plain 100 160000 (omega arith)

down_output : down every_100 1000000 ≡ 1000000
down_output = down_plain 100 1000000 (omega arith)

-- two lines that read an input
reads_twice :
    asked (codes "go paced copy 0 all 0 0 now:0 timer:1000 now:0 count:1 count:3 0/0/ground\ngo free map 2000 2 0 0 now:0 timer:1000 now:0 count:1 count:2 0/0/ground\n")
    ≡ Ok (Go modes.Paced accesses.Copy 0 None (scans 0 3) ∷ Go modes.Free accesses.Map 2000 (Some 2) (scans 0 2) ∷ [])
unfolding maxdata_of munge_of ranges_of head_of trigger_of list_of entry_of aref_of
reads_twice = rw (down_scan, up_scan, down_input) refl

-- a line that writes three values
drives : asked (codes "drive 0 0,2048,4095 1 0 now:0 timer:1000 now:0 count:1 count:4 0/0/ground\n") ≡ Ok (Drive 0 (0 ∷ 2048 ∷ 4095 ∷ []) (scans 1 4) ∷ [])
unfolding maxdata_of munge_of ranges_of head_of trigger_of list_of entry_of aref_of
drives = rw (down_scan, up_scan, down_output) refl

-- reading an output is refused
reads_an_output : asked (codes "go paced copy 0 all 1 0 now:0 timer:1000 now:0 count:1 count:1 0/0/ground\n") ≡ fails 1 Bad
unfolding maxdata_of munge_of ranges_of head_of trigger_of list_of entry_of aref_of
reads_an_output = refl

-- so is writing an input, before the values are looked at
drives_an_input : asked (codes "drive 0 4096 0 0 now:0 timer:1000 now:0 count:1 count:1 0/0/ground\n") ≡ fails 1 Bad
unfolding maxdata_of munge_of ranges_of head_of trigger_of list_of entry_of aref_of
drives_an_input = refl

-- a value above the greatest code
drives_too_high : asked (codes "drive 0 0,4096 1 0 now:0 timer:1000 now:0 count:1 count:1 0/0/ground\n") ≡ fails 1 Limit
unfolding maxdata_of munge_of ranges_of head_of trigger_of list_of entry_of aref_of
drives_too_high = rw (down_scan, up_scan, down_output) refl

-- the first line that fails, after one that doesn't
abbrev good : LineText
good = record {
  number = 1;
  words = codes "drive" ∷ codes "0" ∷ codes "1" ∷ codes "1" ∷ codes "0" ∷ codes "now:0" ∷ codes "timer:1000" ∷ codes "now:0" ∷ codes "count:1" ∷ codes "count:1" ∷ codes "0/0/ground" ∷ [];
  bad = false;
}

abbrev others : List LineText
others =
    record { number = 3; words = codes "go" ∷ codes "paced" ∷ codes "read" ∷ codes "0" ∷ codes "all" ∷ []; bad = false }
    ∷ record { number = 4; words = codes "go" ∷ codes "wat" ∷ []; bad = false } ∷ []

good_read : at_line 1 (line_after sessions.Run demo quiet [] good) ≡ Ok (Drive 0 (1 ∷ []) (scans 1 1))
unfolding maxdata_of munge_of ranges_of head_of trigger_of list_of entry_of aref_of
good_read = rw (down_scan, up_scan, down_output) refl

others_fail : read_each (line_after sessions.Run demo quiet) (Drive 0 (1 ∷ []) (scans 1 1) ∷ []) others ≡ fails 3 BadLine
others_fail = refl

fails_at_the_second : asked (codes "drive 0 1 1 0 now:0 timer:1000 now:0 count:1 count:1 0/0/ground\n# a comment\ngo paced read 0 all\ngo wat\n") ≡ fails 3 BadLine
fails_at_the_second =
    let split : lines_of (codes "drive 0 1 1 0 now:0 timer:1000 now:0 count:1 count:1 0/0/ground\n# a comment\ngo paced read 0 all\ngo wat\n") ≡ good ∷ others = refl in
    ap (run_of demo quiet) split ∙ each-more (line_after sessions.Run demo quiet) [] good others (Drive 0 (1 ∷ []) (scans 1 1)) good_read ∙ others_fail

-- words from left to right
fails_at_the_first_word : asked (codes "go slow read x 0 0 0 now:0 timer:1000 now:0 count:1 count:3 0/0/ground\n") ≡ fails 1 Unknown
unfolding head_of trigger_of list_of entry_of aref_of
fails_at_the_first_word = refl

no_number_before_a_limit : asked (codes "drive 0 1,,99999 1 0 now:0 timer:1000 now:0 count:1 count:3 0/0/ground\n") ≡ fails 1 BadNumber
unfolding head_of trigger_of list_of entry_of aref_of
no_number_before_a_limit = refl
