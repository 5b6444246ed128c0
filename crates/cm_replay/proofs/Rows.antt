-- Sessions on the demo board and on one with a FIFO, worked by hand: what is put out and answered, as numbers in the order of the text.
use Rattle.std.proofs.Common.{◌≡◌, ℕ, suc, ◌%◌, ℤ, pos, true, arith, List, [], ◌∷◌, ◌++◌, length, replicate, codes, refl, Some}
use Rattle.std.specs.Prelude.{◌-ℤ◌, if◌then◌else◌}
use Rattle.cm_base.specs.Source as source
use Rattle.cm_board.specs.Board.{BoardText, SubText, each_nanosecond, idle_sub, maxdata_of, munge_of, no_sub, range_of, ranges_of}
use Rattle.cm_board.specs.Times.{TimersText, down, up}
use Rattle.cm_board.proofs.Made.{down_plain, up_plain}
use Rattle.cm_board.specs.declared.board.Kind.TheVariants as kinds
use Rattle.cm_board.specs.declared.munge.Munge.TheVariants as munges
use Rattle.cm_board.specs.declared.board.Range.{Range}
use Rattle.cm_cmd.specs.Command.{CmdText}
use Rattle.cm_cmd.specs.Entry.{chan, range}
use Rattle.cm_cmd.specs.declared.command.Trig.{Trig}
use Rattle.cm_sample.specs.Sample.{micro_of}
use Rattle.cm_signal.specs.Signals.{SignalsText}
use Rattle.cm_signal.specs.Adding.{silent}
use Rattle.cm_signal.specs.declared.wave.Wave.TheVariants as waves
use Rattle.cm_sub.specs.Checks.{number_of}
use Rattle.cm_signal.specs.Setting.{Setting}
use Rattle.cm_session.specs.declared.op.Op.{Op}
use Rattle.cm_session.specs.declared.op.Op.TheVariants as ops
use Rattle.cm_session.specs.declared.op.SessionLine.{SessionLine}
use Rattle.cm_expand.specs.Rule.{entry_at}
use Rattle.cm_text.specs.Format.{Format}
use Rattle.cm_text.specs.Outputs.{Output}
use Rattle.cm_replay.specs.Answers.{Answer, Begun, Data, Ended, Filled, Fine, Holds, Idle, Looked, Mapped, Marked, Refused, Rejected, Released, Taken, Triggered, Written}
use Rattle.cm_replay.specs.Session.{step}
use Rattle.cm_replay.specs.State.{State, at_start}
use Rattle.cm_text.specs.declared.end.End.{End}
use Rattle.cm_text.specs.declared.end.End.TheVariants.{Done, Dry, Overrun, Underrun, Fifo}

-- the words of the text as numbers, each its own, and those of an end below 0
abbrev minus : ℕ → ℤ
minus n = pos 0 -ℤ pos n

abbrev ok : ℤ
ok = pos 0

abbrev err : ℤ
err = pos 1

abbrev out : ℤ
out = pos 2

abbrev idle : ℤ
idle = minus 1

abbrev done : ℤ
done = minus 2

abbrev dry : ℤ
dry = minus 3

abbrev overrun : ℤ
overrun = minus 4

abbrev underrun : ℤ
underrun = minus 5

abbrev fifo : ℤ
fifo = minus 6

-- a sample of a place: its list index, and its raw word or its level
abbrev level : SubText → ℕ → ℕ → ℤ
level sub entry word = micro_of (range_of sub (chan entry) (range entry)) (maxdata_of sub (chan entry)) word

abbrev sample : Format → ℕ → ℕ → List ℤ
sample f place word = pos (place % length f.list) ∷ (if f.raw then pos word else level f.sub (entry_at f.list place) word) ∷ []

abbrev samples : Format → ℕ → List ℕ → List ℤ
samples f place [] = []
samples f place (word ∷ words) = sample f place word ++ samples f (suc place) words

abbrev count : ℕ → List ℤ
count k = ok ∷ pos k ∷ []

abbrev numbers : List ℕ → List ℤ
numbers [] = []
numbers (n ∷ ns) = pos n ∷ numbers ns

abbrev end_numbers : End → List ℤ
end_numbers Done = ok ∷ pos 0 ∷ done ∷ []
end_numbers Dry = ok ∷ pos 0 ∷ dry ∷ []
end_numbers (Overrun k) = err ∷ pos 32 ∷ overrun ∷ pos k ∷ []
end_numbers (Underrun k) = err ∷ pos 32 ∷ underrun ∷ pos k ∷ []
end_numbers (Fifo k) = err ∷ pos 32 ∷ fifo ∷ pos k ∷ []

-- a command: its subdevice, its flags, its triggers and its list
abbrev trigger : Trig → List ℕ
trigger t = t.src ∷ t.arg ∷ []

abbrev command : CmdText → List ℕ
command cmd = cmd.sub ∷ cmd.flags ∷ trigger cmd.start ++ trigger cmd.scan_begin ++ trigger cmd.convert ++ trigger cmd.scan_end ++ trigger cmd.stop ++ cmd.list

-- an answer
abbrev answer_numbers : Answer → List ℤ
answer_numbers Fine = ok ∷ []
answer_numbers Begun = ok ∷ []
answer_numbers Triggered = count 1
answer_numbers (Taken f place words) = count (length words) ++ samples f place words
answer_numbers (Mapped k) = count k
answer_numbers (Looked f place word) = ok ∷ sample f place word
answer_numbers (Released k) = count k
answer_numbers (Holds k) = count k
answer_numbers (Written words) = count (length words)
answer_numbers (Filled words) = count (length words)
answer_numbers (Marked k) = count k
answer_numbers (Data k words) = count k ++ numbers words
answer_numbers Idle = ok ∷ pos 0 ∷ idle ∷ []
answer_numbers (Ended e) = end_numbers e
answer_numbers (Rejected step cmd) = err ∷ pos 11 ∷ pos step ∷ numbers (command cmd)
answer_numbers (Refused e) = err ∷ pos (number_of e) ∷ []

-- what is put out: its subdevice, its time, its list index and its word
abbrev output_numbers : List Output → List ℤ
output_numbers [] = []
output_numbers (o ∷ os) = out ∷ pos o.sub ∷ pos o.time ∷ pos o.index ∷ pos o.word ∷ output_numbers os

-- what the lines of a session answer, from a state on
abbrev answers_from : Setting → State → List SessionLine → List ℤ
answers_from s state [] = []
answers_from s state (line ∷ rest) =
    output_numbers (step s line state).outputs ++ answer_numbers (step s line state).answer ++ answers_from s (step s line state).state rest

abbrev answers : Setting → List SessionLine → List ℤ
answers s lines = answers_from s (at_start s) lines

-- the demo board: four inputs, two outputs, eight digital lines, and a place without a subdevice
abbrev volts_10 : Range
volts_10 = record { min = minus 10000000; max = pos 10000000; unit = 0 }

-- timers that can make each multiple of 100 nanoseconds
abbrev each_100 : TimersText
each_100 = record { tick = 100; clock = [] }

-- the times that the timers of the board make of the times in these sessions
down_500 : down each_100 500 ≡ 500
down_500 = down_plain 100 500 (omega arith)

up_500 : up each_100 500 ≡ 500
up_500 = up_plain 100 500 (omega arith) (omega arith)

down_1000 : down each_100 1000 ≡ 1000
down_1000 = down_plain 100 1000 (omega arith)

up_1000 : up each_100 1000 ≡ 1000
up_1000 = up_plain 100 1000 (omega arith) (omega arith)

down_1050 : down each_100 1050 ≡ 1000
down_1050 = down_plain 100 1050 (omega arith)

up_1050 : up each_100 1050 ≡ 1100
up_1050 = up_plain 100 1050 (omega arith) (omega arith)

down_160000 : down each_100 160000 ≡ 160000
down_160000 = down_plain 100 160000 (omega arith)

down_1000000 : down each_100 1000000 ≡ 1000000
down_1000000 = down_plain 100 1000000 (omega arith)

-- and those of timers that can make each time
down_scan : down each_nanosecond 1000 ≡ 1000
down_scan = down_plain 1 1000 (omega arith)

up_scan : up each_nanosecond 1000 ≡ 1000
up_scan = up_plain 1 1000 (omega arith) (omega arith)

down_long : down each_nanosecond 1000000 ≡ 1000000
down_long = down_plain 1 1000000 (omega arith)

up_short : up each_nanosecond 1 ≡ 1
up_short = up_plain 1 1 (omega arith) (omega arith)

abbrev inputs : SubText
inputs = record (idle_sub kinds.Ai 4 65535 (volts_10 ∷ record { min = minus 5000001; max = pos 5000000; unit = 0 } ∷ [])) {
  munge = munges.Offset;
  masks = record { start = 194; scan_begin = 84; convert = 82; scan_end = 32; stop = 33 };
  timers = each_100;
  scan_min = 1000;
  scan_max = 160000;
  conv_min = 200;
  conv_max = 1000000;
  list_max = 16;
  scans_max = 1000000;
  lines = 2;
  buffer = 4;
}

abbrev outputs : SubText
outputs = record (idle_sub kinds.Ao 2 4095 (volts_10 ∷ [])) {
  munge = munges.Offset;
  masks = record { start = 130; scan_begin = 16; convert = 2; scan_end = 32; stop = 33 };
  timers = each_100;
  scan_min = 1000;
  scan_max = 1000000;
  conv_min = 1000;
  conv_max = 1000;
  list_max = 2;
  scans_max = 1000000;
  lines = 0;
  buffer = 8;
}

abbrev digital : SubText
digital = idle_sub kinds.Dio 8 1 (record { min = pos 0; max = pos 1; unit = 2 } ∷ [])

abbrev board_of : ℕ → SubText → BoardText
board_of version first = record { version = version; name = codes "demo"; subs = first ∷ outputs ∷ digital ∷ no_sub ∷ [] }

abbrev demo : SignalsText → Setting
demo signals = record { board = board_of 1 inputs; signals = signals }

-- signals up to a horizon: none, or a level at the first input that rises by 1 every 1,000 nanoseconds
abbrev quiet : ℕ → SignalsText
quiet horizon = silent horizon

abbrev rising : ℕ → SignalsText
rising horizon = record (quiet horizon) {
  waves = record { sub = 0; chan = 0; wave = waves.Table 1000 (pos 0 ∷ pos 1000000 ∷ pos 2000000 ∷ pos 3000000 ∷ pos 4000000 ∷ pos 5000000 ∷ []) } ∷ [];
}

-- the board with inputs that an edge can stop, and of the first line one fall and one rise
abbrev edged : Setting
edged = record {
  board = board_of 2 (record inputs { masks = record inputs.masks { stop = 97 }; scan_min = 500; invert = true });
  signals = record (quiet 10000) { edges = (3200 ∷ []) ∷ replicate 63 []; falls = (2200 ∷ []) ∷ replicate 63 [] };
}

-- a line at a time and of a file
abbrev line : ℕ → ℕ → Op → SessionLine
line time file op = record { time = time; file = file; op = op }

abbrev trig : ℕ → ℕ → Trig
trig src arg = record { src = src; arg = arg }

-- a command with a scan of one channel every so many nanoseconds
abbrev timed : ℕ → ℕ → Trig → ℕ → Trig → ℕ → CmdText
timed sub flags start period stop entry = record {
  sub = sub;
  flags = flags;
  start = start;
  scan_begin = trig source.timer period;
  convert = trig source.now 0;
  scan_end = trig source.count 1;
  stop = stop;
  list = entry ∷ [];
}

-- an output keeps a word, and refuses one above its greatest code; one subdevice is unused, and another isn't there
writes_an_output :
    answers (demo (quiet 10000)) (
    line 0 1 ops.OpenFile ∷ line 0 1 (ops.InsnWrite 1 0 (7 ∷ [])) ∷ line 0 1 (ops.InsnWrite 1 0 (4096 ∷ [])) ∷ line 0 1 (ops.InsnRead 1 0 1)
    ∷ line 0 1 (ops.InsnRead 3 0 1) ∷ line 0 1 (ops.InsnRead 4 0 1) ∷ [])
    ≡ ok ∷ ok ∷ pos 1 ∷ err ∷ pos 22 ∷ ok ∷ pos 1 ∷ pos 7 ∷ err ∷ pos 5 ∷ err ∷ pos 19 ∷ []
unfolding maxdata_of munge_of ranges_of
writes_an_output = refl

-- a digital line becomes an output and takes its bit, and the time of day
puts_bits :
    answers (demo (quiet 3000000000)) (
    line 0 1 ops.OpenFile ∷ line 0 1 (ops.InsnConfig 2 3 1) ∷ line 0 1 (ops.InsnBits 2 8 8) ∷ line 0 1 (ops.InsnBits 2 0 0) ∷ line 2500001000 1 (ops.InsnGtod 2) ∷ [])
    ≡ ok ∷ ok ∷ pos 1 ∷ ok ∷ pos 2 ∷ pos 8 ∷ pos 8 ∷ ok ∷ pos 2 ∷ pos 0 ∷ pos 8 ∷ ok ∷ pos 2 ∷ pos 2 ∷ pos 500001 ∷ []
unfolding maxdata_of munge_of ranges_of
puts_bits = refl

-- a lock keeps another file out until its file is closed; no command waits for a trigger
gives_up_a_lock :
    answers (demo (quiet 10000)) (
    line 0 1 ops.OpenFile ∷ line 0 2 ops.OpenFile ∷ line 0 1 (ops.Lock 1) ∷ line 0 2 (ops.InsnWrite 1 0 (5 ∷ [])) ∷ line 0 1 (ops.InsnWrite 1 0 (5 ∷ []))
    ∷ line 0 1 ops.CloseFile ∷ line 0 2 (ops.InsnRead 1 0 1) ∷ line 0 2 (ops.InsnIntTrig 0 0) ∷ [])
    ≡ ok ∷ ok ∷ ok ∷ err ∷ pos 13 ∷ ok ∷ pos 1 ∷ ok ∷ ok ∷ pos 1 ∷ pos 5 ∷ err ∷ pos 11 ∷ []
unfolding maxdata_of munge_of ranges_of
gives_up_a_lock = refl

-- the sixth sample finds no room
reads_until_an_overrun :
    answers (demo (rising 10000)) (
    line 0 1 ops.OpenFile ∷ line 0 1 (ops.Cmd (timed 0 0 (trig source.now 0) 1000 (trig source.count 6) 0)) ∷ line 3000 1 (ops.Read 0 1) ∷ line 5000 1 (ops.Read 0 10)
    ∷ line 5000 1 (ops.Read 0 10) ∷ line 5000 1 (ops.Read 0 10) ∷ [])
    ≡ ok ∷ ok ∷ ok ∷ pos 1 ∷ pos 0 ∷ minus 153 ∷ ok ∷ pos 4 ∷ pos 0 ∷ pos 999923 ∷ pos 0 ∷ pos 2000000 ∷ pos 0 ∷ pos 2999771 ∷ pos 0 ∷ pos 3999847 ∷ err ∷ pos 32 ∷ overrun
    ∷ pos 5 ∷ ok ∷ pos 0 ∷ idle ∷ []
unfolding maxdata_of munge_of ranges_of
reads_until_an_overrun = rw (down_1000, up_1000, down_160000) refl

-- no more is read than has come
reads_what_has_come :
    answers (demo (rising 10000)) (
    line 0 1 ops.OpenFile ∷ line 0 1 (ops.Cmd (timed 0 0 (trig source.now 0) 1000 (trig source.count 6) 0)) ∷ line 1000 1 (ops.Read 0 10) ∷ [])
    ≡ ok ∷ ok ∷ ok ∷ pos 2 ∷ pos 0 ∷ minus 153 ∷ pos 0 ∷ pos 999923 ∷ []
unfolding maxdata_of munge_of ranges_of
reads_what_has_come = rw (down_1000, up_1000, down_160000) refl

-- what is mapped stays to be looked at until it is released, and nothing is read in between
maps :
    answers (demo (rising 10000)) (
    line 0 1 ops.OpenFile ∷ line 0 1 (ops.Cmd (timed 0 0 (trig source.now 0) 1000 (trig source.count 6) 0)) ∷ line 2000 1 (ops.Map 0 3) ∷ line 2000 1 (ops.Release 0 1)
    ∷ line 4000 1 (ops.Look 0 0) ∷ line 4000 1 (ops.Look 0 1) ∷ line 4000 1 (ops.Release 0 3) ∷ line 4000 1 (ops.Read 0 1) ∷ [])
    ≡ ok ∷ ok ∷ ok ∷ pos 3 ∷ ok ∷ pos 1 ∷ ok ∷ pos 0 ∷ pos 999923 ∷ ok ∷ pos 0 ∷ pos 2000000 ∷ err ∷ pos 22 ∷ err ∷ pos 22 ∷ []
unfolding maxdata_of munge_of ranges_of
maps = rw (down_1000, up_1000, down_160000) refl

-- the fourth word isn't there in time
puts_out_until_an_underrun :
    answers (demo (quiet 10000)) (
    line 0 1 ops.OpenFile ∷ line 0 1 (ops.Cmd (timed 1 0 (trig source.int 0) 1000 (trig source.count 4) 0)) ∷ line 0 1 (ops.Write 1 (0 ∷ 2048 ∷ 4095 ∷ []))
    ∷ line 1000 1 (ops.InsnIntTrig 1 0) ∷ line 4000 1 (ops.Write 1 (100 ∷ [])) ∷ [])
    ≡ ok ∷ ok ∷ ok ∷ pos 3 ∷ ok ∷ pos 1 ∷ out ∷ pos 1 ∷ pos 1000 ∷ pos 0 ∷ pos 2048 ∷ out ∷ pos 1 ∷ pos 2000 ∷ pos 0 ∷ pos 0 ∷ out ∷ pos 1 ∷ pos 3000 ∷ pos 0 ∷ pos 2047 ∷ err
    ∷ pos 32 ∷ underrun ∷ pos 3 ∷ []
unfolding maxdata_of munge_of ranges_of
puts_out_until_an_underrun = rw (down_1000, up_1000, down_1000000) refl

-- who may use, lock and unlock
owners :
    answers (demo (quiet 10000)) (
    line 0 1 ops.OpenFile ∷ line 0 2 ops.OpenFile ∷ line 0 1 (ops.Lock 0) ∷ line 0 2 (ops.Cmd (timed 0 0 (trig source.now 0) 1000 (trig source.count 3) 0))
    ∷ line 0 2 (ops.Unlock 0) ∷ line 0 1 (ops.Cancel 0) ∷ line 0 1 (ops.Cancel 0) ∷ line 0 1 (ops.Lock 0) ∷ line 0 1 (ops.Unlock 0) ∷ line 0 1 ops.OpenFile ∷ [])
    ≡ ok ∷ ok ∷ ok ∷ err ∷ pos 13 ∷ err ∷ pos 13 ∷ ok ∷ ok ∷ err ∷ pos 16 ∷ ok ∷ err ∷ pos 22 ∷ []
unfolding maxdata_of munge_of ranges_of
owners = refl

-- raw words, and then the end of a whole command
raw_words :
    answers (demo (record (quiet 10000) { waves = record { sub = 0; chan = 0; wave = waves.Const (pos 2500000) } ∷ [] })) (
    line 0 1 ops.OpenFile ∷ line 0 1 (ops.Cmd (timed 0 128 (trig source.now 0) 1000 (trig source.count 3) 0)) ∷ line 2000 1 (ops.Read 0 10)
    ∷ line 2000 1 (ops.Read 0 10) ∷ [])
    ≡ ok ∷ ok ∷ ok ∷ pos 3 ∷ pos 0 ∷ pos 8191 ∷ pos 0 ∷ pos 8191 ∷ pos 0 ∷ pos 8191 ∷ ok ∷ pos 0 ∷ done ∷ []
unfolding maxdata_of munge_of ranges_of
raw_words = rw (down_1000, up_1000, down_160000) refl

-- a command is cancelled, and the next one starts anew
cancels :
    answers (demo (rising 10000)) (
    line 0 1 ops.OpenFile ∷ line 0 1 (ops.Cmd (timed 0 0 (trig source.now 0) 1000 (trig source.count 6) 0)) ∷ line 2000 1 (ops.Map 0 2) ∷ line 2000 1 (ops.Read 0 1)
    ∷ line 2000 1 (ops.Cancel 0) ∷ line 2000 1 (ops.Read 0 1) ∷ line 2000 1 (ops.Cmd (timed 0 0 (trig source.now 0) 1000 (trig source.count 1) 0))
    ∷ line 2000 1 (ops.Read 0 5) ∷ [])
    ≡ ok ∷ ok ∷ ok ∷ pos 2 ∷ err ∷ pos 22 ∷ ok ∷ ok ∷ pos 0 ∷ idle ∷ ok ∷ ok ∷ pos 1 ∷ pos 0 ∷ pos 2000000 ∷ []
unfolding maxdata_of munge_of ranges_of
cancels = rw (down_1000, up_1000, down_160000) refl

-- a command that fails a step of the test is answered as the test leaves it
rejects :
    answers (demo (rising 10000)) (
    line 0 1 ops.OpenFile ∷ line 0 1 (ops.Cmd (timed 0 0 (trig source.now 0) 1050 (trig source.count 1) 0)) ∷ [])
    ≡ ok ∷ err ∷ pos 11 ∷ pos 4 ∷ pos 0 ∷ pos 0 ∷ pos 2 ∷ pos 0 ∷ pos 16 ∷ pos 1100 ∷ pos 2 ∷ pos 0 ∷ pos 32 ∷ pos 1 ∷ pos 32 ∷ pos 1 ∷ pos 0 ∷ []
unfolding maxdata_of munge_of ranges_of
rejects = rw (down_1050, up_1050, up_1000, down_160000) refl

-- a trigger with the right number, once
triggers :
    answers (demo (rising 10000)) (
    line 0 1 ops.OpenFile ∷ line 0 1 (ops.Cmd (timed 0 0 (trig source.int 0) 1000 (trig source.count 2) 0)) ∷ line 500 1 (ops.InsnIntTrig 0 1)
    ∷ line 500 1 (ops.InsnIntTrig 0 0) ∷ line 500 1 (ops.InsnIntTrig 0 0) ∷ line 1500 1 (ops.Read 0 9) ∷ line 1500 1 (ops.Read 0 9) ∷ [])
    ≡ ok ∷ ok ∷ err ∷ pos 22 ∷ ok ∷ pos 1 ∷ err ∷ pos 11 ∷ ok ∷ pos 2 ∷ pos 0 ∷ minus 153 ∷ pos 0 ∷ pos 999923 ∷ ok ∷ pos 0 ∷ done ∷ []
unfolding maxdata_of munge_of ranges_of
triggers = rw (down_1000, up_1000, down_160000) refl

-- what isn't marked stands in the way of a write, and the list index is that of the list
fills_and_marks :
    answers (demo (quiet 10000)) (
    line 0 1 ops.OpenFile ∷ line 0 1 (ops.Cmd (timed 1 0 (trig source.int 0) 1000 (trig source.count 2) 1)) ∷ line 0 1 (ops.Fill 1 (1 ∷ 2 ∷ 3 ∷ []))
    ∷ line 0 1 (ops.Mark 1 4) ∷ line 0 1 (ops.Write 1 (5 ∷ [])) ∷ line 0 1 (ops.Mark 1 2) ∷ line 0 1 (ops.Contents 1) ∷ line 0 1 (ops.InsnIntTrig 1 0)
    ∷ line 1000 1 (ops.Contents 1) ∷ line 1000 1 (ops.Fill 1 (7 ∷ [])) ∷ [])
    ≡ ok ∷ ok ∷ ok ∷ pos 3 ∷ err ∷ pos 22 ∷ err ∷ pos 22 ∷ ok ∷ pos 2 ∷ ok ∷ pos 2 ∷ ok ∷ pos 1 ∷ out ∷ pos 1 ∷ pos 0 ∷ pos 0 ∷ pos 2049 ∷ out ∷ pos 1 ∷ pos 1000 ∷ pos 0
    ∷ pos 2050 ∷ ok ∷ pos 0 ∷ ok ∷ pos 0 ∷ done ∷ []
unfolding maxdata_of munge_of ranges_of
fills_and_marks = rw (down_1000, up_1000, down_1000000) refl

-- one refusal after the other
refusals :
    answers (demo (rising 10000)) (
    line 0 1 (ops.Read 0 1) ∷ line 0 1 ops.OpenFile ∷ line 0 1 ops.OpenFile ∷ line 0 1 (ops.Read 9 1) ∷ line 0 1 (ops.Read 2 1) ∷ line 0 1 (ops.Lock 3)
    ∷ line 0 1 (ops.Release 0 0) ∷ line 0 1 (ops.Cancel 0) ∷ line 1000 1 ops.CloseFile ∷ line 1000 1 (ops.Cancel 0) ∷ [])
    ≡ err ∷ pos 22 ∷ ok ∷ err ∷ pos 22 ∷ err ∷ pos 19 ∷ err ∷ pos 5 ∷ err ∷ pos 5 ∷ ok ∷ pos 0 ∷ ok ∷ ok ∷ err ∷ pos 22 ∷ []
unfolding maxdata_of munge_of ranges_of
refusals = refl

-- while a command runs there is no other one, and no instruction reads the inputs
refused_while_one_runs :
    answers (demo (rising 10000)) (
    line 0 1 ops.OpenFile ∷ line 0 1 (ops.Cmd (timed 0 0 (trig source.now 0) 1000 (trig source.count 2) 0))
    ∷ line 0 1 (ops.Cmd (timed 0 0 (trig source.now 0) 1000 (trig source.count 2) 0)) ∷ line 0 1 (ops.InsnRead 0 0 1) ∷ [])
    ≡ ok ∷ ok ∷ err ∷ pos 16 ∷ err ∷ pos 16 ∷ []
unfolding maxdata_of munge_of ranges_of
refused_while_one_runs = rw (down_1000, up_1000, down_160000) refl

-- no more samples are released than are mapped
released_as_mapped :
    answers (demo (rising 10000)) (
    line 0 1 ops.OpenFile ∷ line 0 1 (ops.Cmd (timed 0 0 (trig source.now 0) 1000 (trig source.count 2) 0)) ∷ line 1000 1 (ops.Map 0 5) ∷ line 1000 1 (ops.Release 0 3)
    ∷ line 1000 1 (ops.Release 0 2) ∷ line 1000 1 (ops.Release 0 1) ∷ line 1000 1 (ops.Map 0 1) ∷ line 1000 1 (ops.Map 0 1) ∷ [])
    ≡ ok ∷ ok ∷ ok ∷ pos 2 ∷ err ∷ pos 22 ∷ ok ∷ pos 2 ∷ err ∷ pos 22 ∷ ok ∷ pos 0 ∷ done ∷ ok ∷ pos 0 ∷ idle ∷ []
unfolding maxdata_of munge_of ranges_of
released_as_mapped = rw down_1000 (rw up_1000 (rw down_160000 refl))

-- an end is reported only once all that was mapped is released
all_mapped :
    answers (demo (quiet 10000)) (
    line 0 1 ops.OpenFile ∷ line 0 1 (ops.Cmd (timed 0 0 (trig source.now 0) 1000 (trig source.count 2) 0)) ∷ line 1000 1 (ops.Map 0 5) ∷ line 1000 1 (ops.Map 0 5)
    ∷ line 1000 1 (ops.Read 0 1) ∷ line 1000 1 (ops.Release 0 2) ∷ line 1000 1 (ops.Map 0 0) ∷ [])
    ≡ ok ∷ ok ∷ ok ∷ pos 2 ∷ ok ∷ pos 0 ∷ err ∷ pos 22 ∷ ok ∷ pos 2 ∷ ok ∷ pos 0 ∷ done ∷ []
unfolding maxdata_of munge_of ranges_of
all_mapped = rw (down_1000, up_1000, down_160000) refl

-- a command that the horizon ended takes triggers, and stays ended
trigger_after_the_end :
    answers (demo (quiet 1000)) (
    line 0 1 ops.OpenFile ∷ line 0 1 (ops.Cmd (timed 0 0 (trig source.int 0) 1000 (trig source.count 2) 0)) ∷ line 1000 1 (ops.InsnIntTrig 0 0)
    ∷ line 1000 1 (ops.InsnIntTrig 0 0) ∷ line 1000 1 (ops.Read 0 1) ∷ [])
    ≡ ok ∷ ok ∷ ok ∷ pos 1 ∷ ok ∷ pos 1 ∷ ok ∷ pos 0 ∷ dry ∷ []
unfolding maxdata_of munge_of ranges_of
trigger_after_the_end = rw (down_1000, up_1000, down_160000) refl

-- the checks come before the end
fills_after_the_end :
    answers (demo (quiet 10000)) (
    line 0 1 ops.OpenFile ∷ line 0 1 (ops.Cmd (timed 1 0 (trig source.int 0) 1000 (trig source.count 4) 0)) ∷ line 0 1 (ops.Fill 1 (5 ∷ []))
    ∷ line 500 1 (ops.InsnIntTrig 1 0) ∷ line 1000 1 (ops.Write 1 (6 ∷ [])) ∷ line 1000 1 (ops.Mark 1 1) ∷ line 1000 1 (ops.Fill 1 (6 ∷ [])) ∷ [])
    ≡ ok ∷ ok ∷ ok ∷ pos 1 ∷ ok ∷ pos 1 ∷ err ∷ pos 22 ∷ ok ∷ pos 1 ∷ err ∷ pos 32 ∷ underrun ∷ pos 0 ∷ []
unfolding maxdata_of munge_of ranges_of
fills_after_the_end = rw (down_1000, up_1000, down_1000000) refl

-- a file that is closed gives up its command
closes :
    answers (demo (rising 10000)) (
    line 0 1 ops.OpenFile ∷ line 0 2 ops.OpenFile ∷ line 0 1 (ops.Cmd (timed 0 0 (trig source.now 0) 1000 (trig source.count 2) 0)) ∷ line 0 1 ops.CloseFile
    ∷ line 0 2 (ops.Cmd (timed 0 0 (trig source.now 0) 1000 (trig source.count 2) 0)) ∷ [])
    ≡ ok ∷ ok ∷ ok ∷ ok ∷ ok ∷ []
unfolding maxdata_of munge_of ranges_of
closes = rw (down_1000, up_1000, down_160000) refl

-- the command of another file goes on, and what has to be put out by the closing is put out before it
closes_its_own :
    answers (demo (rising 10000)) (
    line 0 1 ops.OpenFile ∷ line 0 2 ops.OpenFile ∷ line 0 2 (ops.Cmd (timed 0 0 (trig source.now 0) 1000 (trig source.count 2) 0))
    ∷ line 0 1 (ops.Cmd (timed 1 0 (trig source.int 0) 1000 (trig source.count 2) 0)) ∷ line 0 1 (ops.Write 1 (9 ∷ [])) ∷ line 0 1 (ops.InsnIntTrig 1 0)
    ∷ line 0 1 ops.CloseFile ∷ line 1000 2 (ops.Contents 1) ∷ line 1000 2 (ops.Read 0 9) ∷ line 1000 2 (ops.Read 0 9) ∷ [])
    ≡ ok ∷ ok ∷ ok ∷ ok ∷ ok ∷ pos 1 ∷ ok ∷ pos 1 ∷ out ∷ pos 1 ∷ pos 0 ∷ pos 0 ∷ pos 2057 ∷ ok ∷ ok ∷ pos 0 ∷ ok ∷ pos 2 ∷ pos 0 ∷ minus 153 ∷ pos 0 ∷ pos 999923 ∷ ok ∷ pos 0
    ∷ done ∷ []
unfolding maxdata_of munge_of ranges_of
closes_its_own = rw down_1000 (rw up_1000 (rw down_160000 (rw down_1000000 refl)))

-- an edge stops a command, whose end comes with the edge
waits_for_the_edge :
    answers edged (
    line 700 1 ops.OpenFile ∷ line 700 1 (ops.Cmd (timed 0 0 (trig source.now 0) 1000 (trig source.ext 0) 0)) ∷ line 3000 1 (ops.Read 0 9) ∷ line 3000 1 (ops.Read 0 9)
    ∷ line 3199 1 (ops.Read 0 9) ∷ line 3200 1 (ops.Read 0 9) ∷ [])
    ≡ ok ∷ ok ∷ ok ∷ pos 3 ∷ pos 0 ∷ minus 153 ∷ pos 0 ∷ minus 153 ∷ pos 0 ∷ minus 153 ∷ ok ∷ pos 0 ∷ ok ∷ pos 0 ∷ ok ∷ pos 0 ∷ done ∷ []
unfolding maxdata_of munge_of ranges_of
waits_for_the_edge = rw (down_1000, up_1000, up_500, down_160000) refl

-- a loss comes before the edge
overrun_before_the_edge :
    answers edged (
    line 200 1 ops.OpenFile ∷ line 200 1 (ops.Cmd (timed 0 0 (trig source.now 0) 500 (trig source.ext 0) 0)) ∷ line 3200 1 (ops.Contents 0) ∷ line 3200 1 (ops.Read 0 4)
    ∷ line 3200 1 (ops.Read 0 4) ∷ [])
    ≡ ok ∷ ok ∷ ok ∷ pos 4 ∷ ok ∷ pos 4 ∷ pos 0 ∷ minus 153 ∷ pos 0 ∷ minus 153 ∷ pos 0 ∷ minus 153 ∷ pos 0 ∷ minus 153 ∷ err ∷ pos 32 ∷ overrun ∷ pos 4 ∷ []
unfolding maxdata_of munge_of ranges_of
overrun_before_the_edge = rw (down_500, up_500, down_160000) refl

-- a falling edge stops a command likewise
waits_for_a_fall :
    answers edged (
    line 700 1 ops.OpenFile ∷ line 700 1 (ops.Cmd (timed 0 0 (trig source.now 0) 1000 (trig source.ext 2147483648) 0)) ∷ line 2199 1 (ops.Read 0 9)
    ∷ line 2199 1 (ops.Read 0 9) ∷ line 2200 1 (ops.Read 0 9) ∷ [])
    ≡ ok ∷ ok ∷ ok ∷ pos 2 ∷ pos 0 ∷ minus 153 ∷ pos 0 ∷ minus 153 ∷ ok ∷ pos 0 ∷ ok ∷ pos 0 ∷ done ∷ []
unfolding maxdata_of munge_of ranges_of
waits_for_a_fall = rw (down_1000, up_1000, up_500, down_160000) refl

-- nothing stops a command but the horizon
runs_dry :
    answers (demo (quiet 1500)) (
    line 0 1 ops.OpenFile ∷ line 0 1 (ops.Cmd (timed 0 0 (trig source.now 0) 1000 (trig source.none 0) 0)) ∷ line 1000 1 (ops.Read 0 9) ∷ line 1000 1 (ops.Read 0 9)
    ∷ line 1500 1 (ops.Read 0 9) ∷ [])
    ≡ ok ∷ ok ∷ ok ∷ pos 2 ∷ pos 0 ∷ minus 153 ∷ pos 0 ∷ minus 153 ∷ ok ∷ pos 0 ∷ ok ∷ pos 0 ∷ dry ∷ []
unfolding maxdata_of munge_of ranges_of
runs_dry = rw (down_1000, up_1000, down_160000) refl

-- a board of one input with a FIFO of 4 that is drained a while after it is half full, and a level of 100
abbrev delayed : ℕ → Setting
delayed latency = record {
  board = record {
    version = 2;
    name = codes "first";
    subs = record (idle_sub kinds.Ai 1 255 (record { min = pos 0; max = pos 255; unit = 0 } ∷ [])) {
      masks = record { start = 2; scan_begin = 16; convert = 2; scan_end = 32; stop = 32 };
      scan_max = 1000000;
      scans_max = 1000000;
      buffer = 16;
      fifo = Some (record { depth = 4; latency = latency });
    } ∷ [];
  };
  signals = record (quiet 10000) { waves = record { sub = 0; chan = 0; wave = waves.Const (pos 100) } ∷ [] };
}

-- samples reach the buffer when the FIFO is drained: three at 2,500 and three at 5,500
waits_in_the_fifo :
    answers (delayed 1500) (
    line 0 1 ops.OpenFile ∷ line 0 1 (ops.Cmd (timed 0 0 (trig source.now 0) 1000 (trig source.count 6) 0)) ∷ line 2000 1 (ops.Read 0 9) ∷ line 2500 1 (ops.Read 0 9)
    ∷ line 5000 1 (ops.Read 0 9) ∷ line 5500 1 (ops.Read 0 9) ∷ line 5500 1 (ops.Read 0 9) ∷ [])
    ≡ ok ∷ ok ∷ ok ∷ pos 0 ∷ ok ∷ pos 3 ∷ pos 0 ∷ pos 100 ∷ pos 0 ∷ pos 100 ∷ pos 0 ∷ pos 100 ∷ ok ∷ pos 0 ∷ ok ∷ pos 3 ∷ pos 0 ∷ pos 100 ∷ pos 0 ∷ pos 100 ∷ pos 0 ∷ pos 100
    ∷ ok ∷ pos 0 ∷ done ∷ []
unfolding maxdata_of munge_of ranges_of
waits_in_the_fifo = rw down_scan (rw up_scan (rw down_long (rw up_short refl)))

-- the sample at 4,000 comes before the drain at that time and finds the FIFO full
lost_in_the_fifo :
    answers (delayed 3000) (
    line 0 1 ops.OpenFile ∷ line 0 1 (ops.Cmd (timed 0 0 (trig source.now 0) 1000 (trig source.count 6) 0)) ∷ line 3999 1 (ops.Read 0 9) ∷ line 4000 1 (ops.Read 0 9)
    ∷ line 4000 1 (ops.Read 0 9) ∷ line 4000 1 (ops.Read 0 9) ∷ [])
    ≡ ok ∷ ok ∷ ok ∷ pos 0 ∷ ok ∷ pos 4 ∷ pos 0 ∷ pos 100 ∷ pos 0 ∷ pos 100 ∷ pos 0 ∷ pos 100 ∷ pos 0 ∷ pos 100 ∷ err ∷ pos 32 ∷ fifo ∷ pos 4 ∷ ok ∷ pos 0 ∷ idle ∷ []
unfolding maxdata_of munge_of ranges_of
lost_in_the_fifo = rw (down_scan, up_scan, down_long, up_short) refl
