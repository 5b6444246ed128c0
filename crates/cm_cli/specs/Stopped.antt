-- Why a job is not done.
use Rattle.cm_base.specs.declared.faults.ReadStop.{ReadStop}
use Rattle.cm_base.specs.declared.faults.ReadStop.TheVariants as reads
use Rattle.cm_base.specs.declared.transfer.TextStop.{TextStop}
use Rattle.cm_base.specs.declared.transfer.TextStop.TheVariants as texts
use Rattle.cm_cli.specs.declared.stop.Stop.{Stop}
use Rattle.cm_cli.specs.declared.stop.Stop.TheVariants as stops

-- the reason of a reader as that of a job
abbrev pub stop_of : ReadStop → Stop
stop_of reads.NoMemory = stops.NoMemory
stop_of (reads.Refused r) = stops.Refused r

-- the reason of a text as that of a job
abbrev pub text_stop : TextStop → Stop
text_stop texts.NoMemory = stops.NoMemory
text_stop texts.WriteFault = stops.WriteFault
