-- What two boards with a FIFO hand over, worked by hand.
use Rattle.std.proofs.Common.{◌≡◌, ℕ, pos, List, [], ◌∷◌, map, replicate, refl, Some, None}
use Rattle.cm_base.specs.Source as source
use Rattle.cm_board.specs.Board.{SubText, idle_sub, maxdata_of, munge_of, ranges_of}
use Rattle.cm_board.specs.declared.board.Kind.TheVariants as kinds
use Rattle.cm_cmd.specs.declared.command.Trig.{Trig}
use Rattle.cm_expand.specs.Plan.{PlanText}
use Rattle.cm_expand.specs.declared.conv.Conv.{Conv}
use Rattle.cm_signal.specs.Signals.{SignalsText}
use Rattle.cm_signal.specs.Adding.{silent}
use Rattle.cm_fifo.specs.Counts.{count_of}
use Rattle.cm_fifo.specs.Handed.{handed_of}

-- a board of one input, and quiet signals
abbrev input : SubText
input = record (idle_sub kinds.Ai 1 255 (record { min = pos 0; max = pos 255; unit = 0 } ∷ [])) {
  masks = record { start = 2; scan_begin = 16; convert = 2; scan_end = 32; stop = 32 };
  scan_max = 1000000;
  scans_max = 1000000;
  buffer = 4;
}

abbrev quiet : SignalsText
quiet = silent 10000

abbrev trig : ℕ → ℕ → Trig
trig src arg = record { src = src; arg = arg }

-- six conversions, one each 1,000 nanoseconds
abbrev six : PlanText
six = record {
  sub = input;
  signals = quiet;
  cmd = record { sub = 0; flags = 0; start = trig source.now 0; scan_begin = trig source.timer 1000; convert = trig source.now 0; scan_end = trig source.count 1; stop = trig source.count 6; list = 0 ∷ [] };
  index = 0;
  t0 = 0;
  trig = None;
}

abbrev times : List Conv → List ℕ
times conversions = map (λ c. c.time) conversions

abbrev places : List Conv → List ℕ
places conversions = map (λ c. c.place) conversions

-- a FIFO of 4 that is drained 1,500 nanoseconds after it is half full: at 2,500 after the request at 1,000, and at 5,500 after that at 4,000
drained_twice : times (handed_of six (record { depth = 4; latency = 1500 })).arrivals ≡ 2500 ∷ 2500 ∷ 2500 ∷ 5500 ∷ 5500 ∷ 5500 ∷ []
unfolding maxdata_of munge_of ranges_of
drained_twice = refl

all_in_order : places (handed_of six (record { depth = 4; latency = 1500 })).arrivals ≡ 0 ∷ 1 ∷ 2 ∷ 3 ∷ 4 ∷ 5 ∷ []
unfolding maxdata_of munge_of ranges_of
all_in_order = refl

none_lost : (handed_of six (record { depth = 4; latency = 1500 })).lost_at ≡ None
unfolding maxdata_of munge_of ranges_of
none_lost = refl

-- how many were handed over by some times
counts_by_drains : map (count_of (record { depth = 4; latency = 1500 }) six) (1000 ∷ 2499 ∷ 2500 ∷ 5499 ∷ 5500 ∷ 10000 ∷ []) ≡ 0 ∷ 0 ∷ 3 ∷ 3 ∷ 6 ∷ 6 ∷ []
unfolding maxdata_of munge_of ranges_of
counts_by_drains = refl

-- the same after 3,000 nanoseconds: the drain would be at 4,000, when the conversion of place 4 finds the FIFO full
overflows : times (handed_of six (record { depth = 4; latency = 3000 })).arrivals ≡ 4000 ∷ 4000 ∷ 4000 ∷ 4000 ∷ []
unfolding maxdata_of munge_of ranges_of
overflows = refl

first_four : places (handed_of six (record { depth = 4; latency = 3000 })).arrivals ≡ 0 ∷ 1 ∷ 2 ∷ 3 ∷ []
unfolding maxdata_of munge_of ranges_of
first_four = refl

lost_at_4000 : (handed_of six (record { depth = 4; latency = 3000 })).lost_at ≡ Some 4000
unfolding maxdata_of munge_of ranges_of
lost_at_4000 = refl

counts_by_overflow : map (count_of (record { depth = 4; latency = 3000 }) six) (2500 ∷ 3999 ∷ 4000 ∷ 10000 ∷ []) ≡ 0 ∷ 0 ∷ 4 ∷ 4 ∷ []
unfolding maxdata_of munge_of ranges_of
counts_by_overflow = refl

-- four conversions: the last one is alone, and its drain is requested when it comes
four : times (handed_of (record six { cmd = record six.cmd { stop = trig source.count 4 } }) (record { depth = 4; latency = 1500 })).arrivals ≡ 2500 ∷ 2500 ∷ 2500 ∷ 4500 ∷ []
unfolding maxdata_of munge_of ranges_of
four = refl

-- where an edge stops the command later, it is requested then
stopped : times (handed_of (record six { signals = record quiet { edges = (3800 ∷ []) ∷ replicate 63 [] }; cmd = record six.cmd { stop = trig source.ext 0 } }) (record { depth = 4; latency = 1500 })).arrivals ≡ 2500 ∷ 2500 ∷ 2500 ∷ 5300 ∷ []
unfolding maxdata_of munge_of ranges_of
stopped = refl

-- and where the signals end before the command does, it comes at the horizon
cut_off : times (handed_of (record six { signals = record quiet { horizon = 3500 } }) (record { depth = 4; latency = 1500 })).arrivals ≡ 2500 ∷ 2500 ∷ 2500 ∷ 3500 ∷ []
unfolding maxdata_of munge_of ranges_of
cut_off = refl
