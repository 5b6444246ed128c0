-- What is planned for an accepted command.
use Rattle.std.proofs.Common.{◌≡◌, ℕ, ◌<◌, ◌≤◌, false, List, length, map, take, refl, sym, ◌⊎◌, inl, inr, arith, Option, Some, None}
use Rattle.std.specs.Prelude.{option_map}
use Rattle.std.proofs.lemmas.Bool.{cases_lt, le-leb}
use Rattle.std.proofs.lemmas.List.{length-map, take_all}
use Rattle.cm_board.specs.declared.board.Fifo.{Fifo}
use Rattle.cm_sample.specs.Rule.{map_from}
use Rattle.cm_expand.specs.Timing.{times}
use Rattle.cm_expand.specs.Items.{conv_at, items_of}
use Rattle.cm_expand.specs.Plan.{PlanText, timing_from, start_of, times_if, times_of}
use Rattle.cm_expand.specs.Taking.{come}
use Rattle.cm_expand.specs.declared.conv.Conv.{Conv}
use Rattle.cm_expand.proofs.Come.{all_come, come-none, never_falls}
use Rattle.cm_expand.proofs.Counted.{items_counted}
use Rattle.cm_expand.proofs.Fits.{fit}
use Rattle.cm_expand.proofs.Order.{never_fall}
use Rattle.cm_expand.proofs.Sound.{IsSoundPlan, timing_is, expansion_of, length-times_of}
use Rattle.cm_fifo.specs.Law.{AreFirst, IsHanded}
use Rattle.cm_fifo.proofs.Arrivals.{handed_of-is}
use Rattle.cm_text.proofs.Codes.{sample_from}
use Rattle.cm_running.specs.Planned.{IsSchedule}
use Rattle.cm_running.specs.Schedules.{reaching, schedule_of}
use Rattle.cm_running.specs.Timely.{IsTimely}
use Rattle.cm_running.specs.Triggering.{has_come}

-- no conversion comes before the start
early : (p : PlanText) (time : ℕ) (start : Option ℕ) → IsSoundPlan p → start_of p ≡ start → has_come start time ≡ false → come time (map_from (conv_at p) 0 (times_if (option_map (timing_from p) start))) ≡ 0
early p time None sound e late = refl
early p time (Some start) sound e late =
    come-none time (map_from (conv_at p) 0 (times (timing_from p start))) start (never_falls p 0 start (times (timing_from p start)) (never_fall (timing_from p start) (timing_is p start sound e))) (above (cases_lt time start))
  where
    above : (time < start) ⊎ (start ≤ time) → time < start
    above (inl h) = h
    above (inr h) = let t = le-leb start time h in absurd (cc)

-- all conversions are the first ones
are-all : (items : List Conv) → AreFirst items items
are-all items =
    let all : (g : Conv → ℕ) → map g items ≡ take (length items) (map g items) = λ g. sym (take_all (length items) (map g items) (omega (arith, length-map items g))) in
    record { words = all (λ c. c.raw); places = all (λ c. c.place); indices = all (λ c. c.list_index) }

-- what reaches the buffer of a sound plan's command
pub reaching-is : (p : PlanText) (fifo : Option Fifo) → IsSoundPlan p → IsHanded p.signals.horizon (items_of p) (reaching p fifo)
reaching-is p None sound =
    let is = expansion_of p sound in
    record {
      are = are-all (items_of p);
      order = never_falls p 0 0 (times_of p) is.order;
      by = all_come p 0 p.signals.horizon (times_of p) is.horizon;
      come_before = λ t. omega arith;
      within = omega arith;
      whole = λ e. refl;
      lost = λ t e. absurd (cc);
      next = λ t e. absurd (cc);
    }
reaching-is p (Some f) sound = handed_of-is p f sound

-- the schedule of each sound plan is timely
pub timely : (p : PlanText) → IsSoundPlan p → IsTimely (schedule_of p)
timely p sound =
    let is = reaching-is p p.sub.fifo sound in
    record {
      order = is.order;
      early = λ time late. omega (arith, is.come_before time, early p time (start_of p) sound refl late);
      cut = is.by;
      within = is.within;
      whole = is.whole;
      lost = is.lost;
      next = is.next;
    }

-- the schedule of each sound plan keeps its rules
pub planned-schedule : (p : PlanText) → IsSoundPlan p → IsSchedule (schedule_of p)
planned-schedule p sound =
    let is = expansion_of p sound in
    let fits = fit p sound.sub sound.plan in
    let many = items_counted p in
    let reached = reaching-is p p.sub.fifo sound in
    record {
      timely = timely p sound;
      words = reached.are.words;
      few = omega (arith, many, length-times_of p sound);
      soon = omega (arith, sound.signals.horizon);
      nonempty = sound.sub.buffer.low;
      small = sound.sub.buffer.high;
      format = record { some = fits.some; channels = fits.channels; ranges = fits.ranges };
      codes = λ input place below. sample_from p is fits.some input place below;
    }
