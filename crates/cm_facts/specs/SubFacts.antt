-- What is known of a board.
use Rattle.std.specs.Prelude.{ℕ, ◌+◌, List, [], ◌∷◌, ◌++◌, length, codes, decimal, if◌then◌else◌}
use Rattle.cm_board.specs.Board.{BoardText, SubText, is_unused, takes_commands}
use Rattle.cm_board.specs.Flags.{has_flag}
use Rattle.cm_board.specs.declared.flags.Flag.TheVariants as flags
use Rattle.cm_board_text.specs.Printed.{kind_text, version_line}
use Rattle.cm_signal_text.specs.SignalsPart.{greatest_horizon}
use Rattle.cm_facts.specs.ChannelFacts.{channels_facts, code_facts}
use Rattle.cm_facts.specs.CommandFacts.{command_facts, flag_fact, number_fact}
use Rattle.cm_facts.specs.FactLine.{fact_line}

-- what a subdevice is: its kind, how many channels it has, and whether it takes commands
unfoldable pub head_facts : ℕ → SubText → List ℕ
head_facts index s =
    fact_line (codes "kind") (index ∷ []) (kind_text s.kind ∷ [])
    ++ number_fact (codes "channels") (index ∷ s.channels ∷ [])
    ++ flag_fact (codes "commands") index (takes_commands s)

-- what a subdevice that isn't unused offers: whether its channels can be read, the references that they have, and
-- whether its buffer can be mapped
unfoldable pub offer_facts : ℕ → SubText → List ℕ
offer_facts index s =
    if is_unused s.kind then [] else
    (flag_fact (codes "readable") index (has_flag s flags.Readable)
    ++ flag_fact (codes "ground") index (has_flag s flags.Ground)
    ++ flag_fact (codes "common") index (has_flag s flags.Common)
    ++ flag_fact (codes "diff") index (has_flag s flags.Diff)
    ++ flag_fact (codes "other") index (has_flag s flags.Other)
    ++ flag_fact (codes "mmap") index (has_flag s flags.Mapped))

-- the commands of a subdevice, if it takes any
unfoldable pub own_command_facts : ℕ → SubText → List ℕ
own_command_facts index s = if takes_commands s then command_facts index s else []

-- a subdevice: what it is, its codes, what it offers, its commands, and the channels with something of their own
unfoldable pub sub_facts : ℕ → SubText → List ℕ
sub_facts index s =
    head_facts index s ++ code_facts index s ++ offer_facts index s ++ own_command_facts index s
    ++ channels_facts index s

-- subdevices, numbered from a number on
abbrev pub subs_facts : ℕ → List SubText → List ℕ
subs_facts index [] = []
subs_facts index (s ∷ more) = sub_facts index s ++ subs_facts (index + 1) more

-- the greatest horizon that the signals of a text of this version may have
abbrev pub horizon_fact : ℕ → List ℕ
horizon_fact version = fact_line (codes "greatest_horizon") [] (decimal (greatest_horizon version) ∷ [])

-- a board: the words of its version, its name, the greatest horizon that its signals may have, how many subdevices it
-- has, and each of them
abbrev pub board_facts : BoardText → List ℕ
board_facts b =
    fact_line (codes "version") [] (version_line b.version)
    ++ fact_line (codes "name") [] (b.name ∷ [])
    ++ horizon_fact b.version
    ++ fact_line (codes "subdevices") [] (decimal (length b.subs) ∷ [])
    ++ subs_facts 0 b.subs
