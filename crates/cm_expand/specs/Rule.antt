-- The munge of a command's buffer.
use Rattle.std.specs.Prelude.{ℕ, ◌/◌, ◌%◌, Bool, ◌==◌, List, length, map, slice_index, if◌then◌else◌}
use Rattle.cm_board.specs.Board.{SubText, is_output, maxdata_of, munge_of}
use Rattle.cm_cmd.specs.Command.{CmdText}
use Rattle.cm_cmd.specs.Entry.{chan}
use Rattle.cm_board.specs.Munge.{munged, unmunged}
use Rattle.cm_sample.specs.Rule.{RuleText, rule_text}
use Rattle.cm_sample.specs.declared.rule.MungeItem.{MungeItem}

-- the flags ask for words that aren't munged
abbrev pub is_raw : ℕ → Bool
is_raw flags = flags / 128 % 2 == 1

-- the entry of a place: the list comes again and again
abbrev pub entry_at : List ℕ → ℕ → ℕ
entry_at list place = slice_index list (place % length list)

-- the channel of a place, whose entry is that of the place modulo the list's length
abbrev pub chan_at : CmdText → ℕ → ℕ
chan_at cmd place = chan (entry_at cmd.list place)

-- the munged word of a place, by the munge and the greatest code of its channel
abbrev pub munged_at : SubText → CmdText → ℕ → ℕ → ℕ
munged_at sub cmd place word =
    if is_raw cmd.flags then word
    else (if is_output sub.kind
    then unmunged (munge_of sub (chan_at cmd place)) (maxdata_of sub (chan_at cmd place)) word
    else munged (munge_of sub (chan_at cmd place)) (maxdata_of sub (chan_at cmd place)) word)

-- the munge of a channel, and its greatest code
abbrev pub channel_item : SubText → ℕ → MungeItem
channel_item sub channel = record { kind = munge_of sub channel; maxdata = maxdata_of sub channel }

-- the same of the channel that a list entry names
abbrev pub item_of : SubText → ℕ → MungeItem
item_of sub entry = channel_item sub (chan entry)

-- the rule of a command, with an item for each entry of its list
abbrev pub rule_of : SubText → CmdText → RuleText
rule_of sub cmd = rule_text (map (item_of sub) cmd.list) (is_output sub.kind) (is_raw cmd.flags)
