-- What is made of a text that is refused, and of one that is read.
use Rattle.std.proofs.Common.{◌≡◌, ℕ, List, Option, Result, Ok, Err, ap, sym, subst}
use Rattle.std.specs.Prelude.{IsErrAnd}
use Rattle.std.proofs.KnownBytes.{Keeps-refl}
use Rattle.cm_base.specs.ReadStop.{Stops}
use Rattle.cm_base.specs.Reading.{◌>>=◌}
use Rattle.cm_base.specs.declared.faults.ReadStop.{ReadStop}
use Rattle.cm_base.specs.declared.faults.ReadStop.TheVariants as reads
use Rattle.cm_base.specs.declared.faults.Refused.{Refused}
use Rattle.cm_cli.specs.Answer.{as_outcome}
use Rattle.cm_cli.specs.Said.{Work}
use Rattle.cm_cli.specs.Serving.{Serves}
use Rattle.cm_cli.specs.Stopped.{stop_of}
use Rattle.cm_cli.specs.declared.stop.Stop.{Stop}
use Rattle.cm_cli.proofs.Ends.{breaks_off}

-- a job of a text for which a reader stops
pub read_fails : (stop : ReadStop) (reported : Result Work Refused) (old : Option (List ℕ)) → Stops stop reported → Serves (Err (stop_of stop)) reported old old
read_fails reads.NoMemory reported old stops = breaks_off (as_outcome reported) old
read_fails (reads.Refused r) reported old stops = (stops, Keeps-refl old)

-- nothing is made of a text that is not read
pub not_read : {Y : Type 0} (stop : ReadStop) (read : Result Y Refused) (make : Y → Result Work Refused) (old : Option (List ℕ)) → Stops stop read → Serves (Err (stop_of stop)) (read >>= make) old old
not_read {Y} stop read make old reported = read_fails stop (read >>= make) old (along stop reported)
  where
    along : (stop : ReadStop) → Stops stop read → Stops stop (read >>= make)
    along reads.NoMemory reported = reported
    along (reads.Refused r) reported = ap (λ (y : Result Y Refused). y >>= make) reported

-- a job that stops for the reason of a reader
pub stopped : (r : Result (Unit {0}) Stop) (stop : ReadStop) (reported : Result Work Refused) (old new : Option (List ℕ)) → IsErrAnd r (λ e. e ≡ stop_of stop) → Serves (Err (stop_of stop)) reported old new → Serves r reported old new
stopped (Ok u) stop reported old new e served = absurd e
stopped (Err s) stop reported old new e served = subst (λ (x : Stop). Serves (Err x) reported old new) (sym e) served
