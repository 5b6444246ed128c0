-- Why a dialogue is cut short, and why it ends.
use Rattle.cm_base.specs.declared.faults.Fault.TheVariants.{TooLong}
use Rattle.cm_base.specs.declared.faults.ReadStop.{ReadStop}
use Rattle.cm_base.specs.declared.faults.ReadStop.TheVariants as reads
use Rattle.cm_base.specs.declared.faults.Refused.{Refused}
use Rattle.cm_base.specs.declared.transfer.ReadError.{ReadError}
use Rattle.cm_base.specs.declared.transfer.ReadError.TheVariants as hears
use Rattle.cm_dialogue.specs.declared.stop.ServeStop.{ServeStop}
use Rattle.cm_dialogue.specs.declared.stop.ServeStop.TheVariants as serves
use Rattle.cm_dialogue.specs.declared.stop.TalkStop.{TalkStop}
use Rattle.cm_dialogue.specs.declared.stop.TalkStop.TheVariants as stops

-- where no line is heard
abbrev pub heard_stop : ReadError → TalkStop
heard_stop hears.NoMemory = stops.NoMemory
heard_stop hears.ReadFault = stops.ReadFault
heard_stop hears.TooLong = stops.TooLong

-- what is reported where a line is too long
abbrev pub too_long : Refused
too_long = record { line = 0; cause = TooLong }

-- where the board or the signals are not read
abbrev pub read_stop : ReadStop → ServeStop
read_stop reads.NoMemory = serves.Cut stops.NoMemory
read_stop (reads.Refused refused) = serves.Refused refused
