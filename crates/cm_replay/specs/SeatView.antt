-- How contracts see a subdevice in a session.
use Rattle.cm_replay.specs.State.{Device}
use Rattle.cm_replay.specs.declared.seat.Seat.TheInside.{Inside}

-- what it keeps, and its command
abbrev pub device_of : Inside → Device
device_of d = record { state = d.state; running = d.running }
