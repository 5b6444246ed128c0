-- What is known of the commands of a subdevice: a fact for each line of its block, whether it stands there or not.
use Rattle.std.specs.Prelude.{ℕ, ◌+◌, Bool, List, [], ◌∷◌, ◌++◌, length, codes, decimal, Option, Some, None}
use Rattle.cm_base.specs.SourceText.{source_text}
use Rattle.cm_board.specs.Board.{Masks, SubText}
use Rattle.cm_board.specs.declared.board.Divisors.{Divisors}
use Rattle.cm_board.specs.declared.board.Divisors.TheVariants as divisors_of
use Rattle.cm_board.specs.declared.board.Fifo.{Fifo}
use Rattle.cm_board.specs.declared.board.Forbid.{Forbid}
use Rattle.cm_board.specs.declared.board.ListOrder.{ListOrder}
use Rattle.cm_board.specs.declared.board.ListRules.{ListRules}
use Rattle.cm_running.specs.Texts.{words_text}
use Rattle.cm_facts.specs.FactLine.{fact_line}
use Rattle.cm_facts.specs.Names.{list_order_name, may_repeat, rounding_name, trigger_name, yes_or_no}

-- numbers of a subdevice
abbrev pub number_fact : List ℕ → List ℕ → List ℕ
number_fact key numbers = fact_line key numbers []

-- whether something holds of a subdevice
abbrev pub flag_fact : List ℕ → ℕ → Bool → List ℕ
flag_fact key index holds = fact_line key (index ∷ []) (yes_or_no holds ∷ [])

-- the sources that each of the five triggers may have
abbrev pub sources_fact : ℕ → Masks → List ℕ
sources_fact index m =
    fact_line (codes "sources") (index ∷ [])
    (source_text m.start ∷ source_text m.scan_begin ∷ source_text m.convert ∷ source_text m.scan_end
    ∷ source_text m.stop ∷ [])

-- the sources, the tick, and the times of scans and of conversions
unfoldable pub time_facts : ℕ → SubText → List ℕ
time_facts index s =
    sources_fact index s.masks
    ++ number_fact (codes "tick") (index ∷ s.timers.tick ∷ [])
    ++ number_fact (codes "scan") (index ∷ s.scan_min ∷ s.scan_max ∷ [])
    ++ number_fact (codes "convert") (index ∷ s.conv_min ∷ s.conv_max ∷ [])

-- the longest list, the greatest stop count, the external lines, and how many samples the buffer holds
unfoldable pub size_facts : ℕ → SubText → List ℕ
size_facts index s =
    number_fact (codes "list") (index ∷ s.list_max ∷ [])
    ++ number_fact (codes "scans") (index ∷ s.scans_max ∷ [])
    ++ number_fact (codes "lines") (index ∷ s.lines ∷ [])
    ++ number_fact (codes "buffer") (index ∷ s.buffer ∷ [])

-- the words of two sources that may not stand together: each with its trigger
abbrev pub forbid_words : ℕ → Forbid → List (List ℕ)
forbid_words number f =
    decimal number ∷ trigger_name f.field ∷ source_text f.src ∷ trigger_name f.other ∷ source_text f.other_src ∷ []

-- such pairs, numbered from a number on
abbrev pub forbid_facts : ℕ → ℕ → List Forbid → List ℕ
forbid_facts index number [] = []
forbid_facts index number (f ∷ more) =
    fact_line (codes "forbid") (index ∷ []) (forbid_words number f) ++ forbid_facts index (number + 1) more

-- the depth and the latency of a FIFO, both 0 without one
abbrev pub fifo_fact : ℕ → Option Fifo → List ℕ
fifo_fact index None = number_fact (codes "fifo") (index ∷ 0 ∷ 0 ∷ [])
fifo_fact index (Some f) = number_fact (codes "fifo") (index ∷ f.depth ∷ f.latency ∷ [])

-- what a channel list and an external line keep, the pairs, and the FIFO
unfoldable pub rule_facts : ℕ → SubText → List ℕ
rule_facts index s =
    flag_fact (codes "samerange") index s.lists.same_range
    ++ forbid_facts index 0 s.forbidden
    ++ flag_fact (codes "invert") index s.invert
    ++ fifo_fact index s.fifo

-- what a counter can divide by: all numbers from one to another, or those of a list
abbrev pub counter_fact : ℕ → ℕ → Divisors → List ℕ
counter_fact index number (divisors_of.Span first last) =
    fact_line (codes "counter") (index ∷ number ∷ []) (codes "span" ∷ decimal first ∷ decimal last ∷ [])
counter_fact index number (divisors_of.Listed list) =
    codes "counter" ++ words_text (index ∷ number ∷ []) ++ codes " list" ++ words_text list ++ codes "\n"

-- counters, numbered from a number on
abbrev pub counter_facts : ℕ → ℕ → List Divisors → List ℕ
counter_facts index number [] = []
counter_facts index number (d ∷ more) = counter_fact index number d ++ counter_facts index (number + 1) more

-- how many counters make the times, each of them, and how times are rounded
unfoldable pub clock_facts : ℕ → SubText → List ℕ
clock_facts index s =
    fact_line (codes "counters") (index ∷ []) (decimal (length s.timers.clock) ∷ [])
    ++ counter_facts index 0 s.timers.clock
    ++ fact_line (codes "rounds") (index ∷ []) (rounding_name s.rounding.own ∷ [])
    ++ flag_fact (codes "halfdown") index s.rounding.half_down

-- what a timed scan holds at least
unfoldable pub scan_facts : ℕ → SubText → List ℕ
scan_facts index s =
    number_fact (codes "perchan") (index ∷ s.least_scan.per_entry ∷ [])
    ++ flag_fact (codes "scanfits") index s.least_scan.holds

-- the order of the channels in a list, and whether entries in this order may be repeated
unfoldable pub order_facts : ℕ → Option ListOrder → List ℕ
order_facts index order =
    fact_line (codes "order") (index ∷ []) (list_order_name order ∷ [])
    ++ flag_fact (codes "repeat") index (may_repeat order)

-- what the entries of a channel list keep
unfoldable pub list_facts : ℕ → ListRules → List ℕ
list_facts index lists =
    order_facts index lists.order
    ++ flag_fact (codes "samearef") index lists.same_reference
    ++ flag_fact (codes "samepolarity") index lists.same_polarity

-- what is known of the commands of a subdevice that takes them
unfoldable pub command_facts : ℕ → SubText → List ℕ
command_facts index s =
    time_facts index s ++ size_facts index s ++ rule_facts index s
    ++ clock_facts index s ++ scan_facts index s ++ list_facts index s.lists
