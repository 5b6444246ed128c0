-- Commands as text, both ways.
use Rattle.std.specs.Prelude.{ℕ, List, [], ◌∷◌, Result, Ok, Err}
use Rattle.std.specs.Fmt.{decimal}
use Rattle.std.specs.List.{join_with_byte, slice_split}
use Rattle.cm_base.specs.Reading.{◌>>=◌}
use Rattle.cm_base.specs.SourceText.{source_text}
use Rattle.cm_base.specs.Words.{number_in, source_of, two}
use Rattle.cm_base.specs.declared.faults.Fault.{Fault}
use Rattle.cm_base.specs.declared.faults.Fault.TheVariants.{BadLine}
use Rattle.cm_cmd.specs.Command.{CmdText}
use Rattle.cm_base.specs.Stops.{is_byte}
use Rattle.cm_cmd.specs.ListText.{list_of, list_text}
use Rattle.cm_cmd.specs.declared.command.Trig.{Trig}

-- the source and the argument, with a colon between them
abbrev pub trigger_text : Trig → List ℕ
trigger_text t = join_with_byte 58 (source_text t.src ∷ decimal t.arg ∷ [])

-- the eight words of a command
abbrev pub command_words : CmdText → List (List ℕ)
command_words cmd =
    decimal cmd.sub ∷ decimal cmd.flags
    ∷ trigger_text cmd.start ∷ trigger_text cmd.scan_begin ∷ trigger_text cmd.convert ∷ trigger_text cmd.scan_end
    ∷ trigger_text cmd.stop
    ∷ list_text cmd.list ∷ []

-- a command as it is printed
abbrev pub command_text : CmdText → List ℕ
command_text cmd = join_with_byte 32 (command_words cmd)

-- a trigger by its source and its argument
abbrev pub trigger : ℕ → ℕ → Trig
trigger src arg = record { src = src; arg = arg }

-- a source and an argument, with a colon between them
unfoldable pub trigger_of : List ℕ → Result Trig Fault
trigger_of text = two trigger source_of (number_in 0 4294967295) (slice_split (is_byte 58) text)

-- the command of these seven words, with no list yet
unfoldable pub head_of : List ℕ → List ℕ → List ℕ → List ℕ → List ℕ → List ℕ → List ℕ → Result CmdText Fault
head_of s f t0 t1 t2 t3 t4 = do
  sub ← number_in 0 255 s
  flags ← number_in 0 4294967295 f
  start ← trigger_of t0
  scan_begin ← trigger_of t1
  convert ← trigger_of t2
  scan_end ← trigger_of t3
  stop ← trigger_of t4
  Ok (record {
    sub = sub;
    flags = flags;
    start = start;
    scan_begin = scan_begin;
    convert = convert;
    scan_end = scan_end;
    stop = stop;
    list = [];
  })

-- a command with the list of at most so many entries that a word says
abbrev pub with_list : ℕ → Result CmdText Fault → List ℕ → Result CmdText Fault
with_list most head word = head >>= λ cmd. list_of most word >>= λ list. Ok (record cmd { list = list })

-- the command that eight words say, with at most so many entries
abbrev pub command_of : ℕ → List (List ℕ) → Result CmdText Fault
command_of most (s ∷ f ∷ t0 ∷ t1 ∷ t2 ∷ t3 ∷ t4 ∷ l ∷ []) = with_list most (head_of s f t0 t1 t2 t3 t4) l
command_of most words = Err BadLine
