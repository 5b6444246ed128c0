-- What is printed is read as the same, and what is read can be printed.
use Rattle.std.specs.Prelude.{ℕ, ◌≡◌, ◌<◌, ◌≤◌, ◌^◌, List, length, nat_lt, IsTrue, Ok}
use Rattle.std.specs.List.{list_all}
use Rattle.cm_base.specs.Lines.{words_of}
use Rattle.cm_cmd.specs.Command.{CmdText}
use Rattle.cm_cmd.specs.CommandText.{command_of, command_text}
use Rattle.cm_cmd.specs.declared.command.Trig.{Trig}

-- some of the nine sources, with a number of 32 bits
pub record IsTrigger (t : Trig) : Type 0 where
  pub source : t.src < 2 ^ 9
  pub arg : t.arg < 2 ^ 32

-- the commands that a text with at most so many entries can say
pub record HasText (most : ℕ) (cmd : CmdText) : Type 0 where
  pub sub : cmd.sub < 256
  pub flags : cmd.flags < 2 ^ 32
  pub start : IsTrigger cmd.start
  pub scan_begin : IsTrigger cmd.scan_begin
  pub convert : IsTrigger cmd.convert
  pub scan_end : IsTrigger cmd.scan_end
  pub stop : IsTrigger cmd.stop
  pub entries : IsTrue (list_all (λ entry. nat_lt entry (2 ^ 26)) cmd.list)
  pub few : length cmd.list ≤ most

-- the printed words of such a command say the command
abbrev pub PrintedReads : Type 0
PrintedReads = (most : ℕ) (cmd : CmdText) → HasText most cmd → command_of most (words_of (command_text cmd)) ≡ Ok cmd

-- words that say a command say one that a text can say
abbrev pub ReadHasText : Type 0
ReadHasText = (most : ℕ) (words : List (List ℕ)) (cmd : CmdText) → command_of most words ≡ Ok cmd → HasText most cmd
