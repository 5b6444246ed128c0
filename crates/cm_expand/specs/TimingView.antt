-- How contracts see a timing.
use Rattle.cm_expand.specs.Timing.{Timing, Begins, Every, OnEdges, AnyTime, Converts, AtOnce, Spaced, PerEdge}
use Rattle.cm_expand.specs.declared.timing.Begins as begins
use Rattle.cm_expand.specs.declared.timing.Begins.TheVariants as begin
use Rattle.cm_expand.specs.declared.timing.Converts as converts
use Rattle.cm_expand.specs.declared.timing.Converts.TheVariants as convert
use Rattle.cm_expand.specs.declared.timing.Timing as timing

-- when scans begin, as contracts see it
abbrev pub begins_text : begins.Begins → Begins
begins_text (begin.Every period) = Every period
begins_text (begin.OnEdges edges) = OnEdges edges.now
begins_text begin.AnyTime = AnyTime

-- when conversions come, as contracts see it
abbrev pub converts_text : converts.Converts → Converts
converts_text convert.AtOnce = AtOnce
converts_text (convert.Spaced gap) = Spaced gap
converts_text (convert.PerEdge edges) = PerEdge edges.now

-- a timing as contracts see it
abbrev pub timing_text : timing.Timing → Timing
timing_text c = record {
  start = c.start;
  begins = begins_text c.begins;
  converts = converts_text c.converts;
  per_scan = c.per_scan;
  most = c.most;
  until = c.until;
  horizon = c.horizon;
}
