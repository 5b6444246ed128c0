-- What a line that was read keeps.
use Rattle.std.specs.Prelude.{ℕ, ◌≤◌}
use Rattle.cm_cmd.specs.PrintedReads.{HasText}
use Rattle.cm_session.specs.Limits.{IsLimited}
use Rattle.cm_dialogue.specs.Asked.{session_line}
use Rattle.cm_dialogue.specs.declared.asked.Fetch.{Fetch}
use Rattle.cm_dialogue.specs.declared.dialogue_line.DialogueLine.{DialogueLine}
use Rattle.cm_dialogue.specs.declared.dialogue_line.DialogueLine.TheVariants as says
use Rattle.cm_dialogue.specs.declared.dialogue_line.Untimed.{Untimed}
use Rattle.cm_dialogue.specs.declared.dialogue_line.Untimed.TheVariants as untimed

-- a fetch isn't after the horizon, and takes no more than a read may
abbrev pub IsFetch : ℕ → Fetch → Type 0
IsFetch horizon fetch = (fetch.time ≤ horizon) × (fetch.n ≤ 65536)

-- a command that is tested is one that a text can say
abbrev pub IsSayable : Untimed → Type 0
IsSayable (untimed.Test cmd) = HasText 1024 cmd
IsSayable (untimed.CmdTest cmd) = HasText 1024 cmd
IsSayable other = Unit {0}

-- it isn't below the line before it nor after the horizon, and what it asks has its limits
abbrev pub IsFit : ℕ → ℕ → DialogueLine → Type 0
IsFit horizon before (says.Session line) = (before ≤ line.time) × IsLimited horizon line
IsFit horizon before (says.Question asked) = (before ≤ asked.time) × IsLimited horizon (session_line asked)
IsFit horizon before (says.Fetch fetch) = (before ≤ fetch.time) × IsFetch horizon fetch
IsFit horizon before (says.Untimed asked) = IsSayable asked
