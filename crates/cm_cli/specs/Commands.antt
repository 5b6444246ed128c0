-- The program's commands, and which of them its arguments name.
use Rattle.std.specs.Prelude.{ℕ, ◌≤◌, Bool, true, false, ◌||◌, not, List, [], ◌∷◌, Option, Some, None, Result, Ok, Err}
use Rattle.std.specs.Prelude.{String, codes, if◌then◌else◌}
use Rattle.std.specs.String.{string_bytes}
use Rattle.std.specs.declared.alloc.Global.{Global}
use Rattle.cm_base.specs.Words.{listed, number_in}
use Rattle.cm_base.specs.declared.faults.Fault.{Fault}
use Rattle.cm_cli.specs.declared.command.Command.{Command}
use Rattle.cm_cli.specs.declared.command.Command.TheVariants as commands

-- a command that has nothing after its word
abbrev pub alone : Command → List (String Global) → Option Command
alone command [] = Some command
alone command words = None

-- a soak of so many samples, if that is a number from 1 to 4,000,000
abbrev pub soak_if : Result ℕ Fault → Option Command
soak_if (Ok count) = Some (commands.Soak count)
soak_if (Err fault) = None

-- a soak of the number that a word writes
abbrev pub soak_of : List ℕ → Option Command
soak_of count = soak_if (number_in 1 4000000 count)

-- a soak has its number of samples after its word
abbrev pub counted : List (String Global) → Option Command
counted (count ∷ []) = soak_of (string_bytes count)
counted words = None

-- the commands: the word of each, and what it takes after it
abbrev pub table : List (List ℕ × (List (String Global) → Option Command))
table =
    (codes "test", alone commands.Test)
    ∷ (codes "expand", alone commands.Expand)
    ∷ (codes "insn", alone commands.Insn)
    ∷ (codes "replay", alone commands.Replay)
    ∷ (codes "run", alone commands.Run)
    ∷ (codes "watch", alone commands.Watch)
    ∷ (codes "loop", alone commands.Loop)
    ∷ (codes "soak", counted)
    ∷ []

-- a row of the table takes these words, if there is one
abbrev pub taken : Option (List (String Global) → Option Command) → List (String Global) → Option Command
taken None words = None
taken (Some row) words = row words

-- the command with this word, and these after it
abbrev pub named : List ℕ → List (String Global) → Option Command
named word words = taken (listed table word) words

-- the command that the program's arguments name
abbrev pub call_of : List (String Global) → Option Command
call_of [] = None
call_of (word ∷ words) = named (string_bytes word) words

-- whether a command streams a job with threads
abbrev pub streams : Command → Bool
streams commands.Run = true
streams commands.Watch = true
streams commands.Loop = true
streams other = false

-- whether a command is a soak
abbrev pub is_soak : Command → Bool
is_soak (commands.Soak n) = true
is_soak other = false

-- whether a command runs threads
abbrev pub has_threads : Command → Bool
has_threads command = streams command || is_soak command

-- whether a call reads the source: a soak doesn't, nor do arguments that name no command
abbrev pub reads : Option Command → Bool
reads None = false
reads (Some command) = not (is_soak command)

-- a command, if it runs no threads
abbrev pub without_threads : Command → Option Command
without_threads command = if has_threads command then None else Some command

-- the command, if there is one, without threads
abbrev pub plain : Option Command → Option Command
plain None = None
plain (Some command) = without_threads command

-- the command without threads that the arguments name
abbrev pub task_of : List (String Global) → Option Command
task_of words = plain (call_of words)

-- a soak has from 1 to 4,000,000 samples
abbrev pub IsSound : Command → Type 0
IsSound (commands.Soak n) = (1 ≤ n) × (n ≤ 4000000)
IsSound other = Unit {0}
