-- What a block says at its end.
use Rattle.std.proofs.Common.{◌≤◌, ◌≡◌, Bool, true, cond, List, Result, Ok, Err, ℕ, refl, sym, ap, subst, ◌∙◌}
use Rattle.cm_base.specs.Lines.{LineText}
use Rattle.cm_base.specs.ReadStop.{Gives, Stops}
use Rattle.cm_base.specs.Reading.{◌>>=◌, at_line, seen}
use Rattle.cm_base.specs.declared.faults.Fault.{Fault}
use Rattle.cm_base.specs.declared.faults.Fault.TheVariants as faults
use Rattle.cm_base.specs.declared.faults.ReadStop.{ReadStop}
use Rattle.cm_base.specs.declared.faults.ReadStop.TheVariants as stops
use Rattle.cm_base.specs.declared.faults.Refused.{Refused}
use Rattle.cm_base.proofs.Each.{stops-along}
use Rattle.cm_base.proofs.Oks.{at_line_keeps, ok_keeps}
use Rattle.cm_board.specs.Board.{AreTimers, IsBlock, IsSaidSub, IsSoundSub, SubText, has_channels}
use Rattle.cm_board.specs.BoardTable.{board_table}
use Rattle.cm_board.specs.Items.{ItemText}
use Rattle.cm_board.specs.Kept.{IsWhole}
use Rattle.cm_board.specs.Said.{sub_of}
use Rattle.cm_board.specs.Table.{TableText}
use Rattle.cm_board.specs.declared.table.Head.{Head}
use Rattle.cm_board_text.specs.Block.{checked, finished, is_board_ok}
use Rattle.cm_board_text.specs.BoardPart.{block_at, head_after, whole_lines}
use Rattle.cm_board_text.specs.Reading.{completed, items_said}
use Rattle.cm_board_text.proofs.BoardKept.{block_keeps}
use Rattle.cm_board_text.proofs.Good.{completed_ok}
use Rattle.cm_board_text.proofs.ItemRead.{seen_stops}
use Rattle.cm_board_text.proofs.Sound.{sound, timers_sound}
use Rattle.cm_board_text.proofs.TableIs.{board_is_table}

-- what stops the first of two steps stops both
pub then_stops : {X Y : Type 0} (stop : ReadStop) (read : Result X Refused) (next : X → Result Y Refused) → Stops stop read → Stops stop (read >>= next)
then_stops stops.NoMemory read next h = tt
then_stops (stops.Refused r) read next h = ap (λ read. read >>= next) h

-- what gives a value gives what is seen of it
gives_seen : {X Y : Type 0} (view : X → Y) (line : ℕ) (result : Result X ReadStop) (read : Result X Fault) → Gives (λ x. x) result (at_line line read) →
    Gives view result (at_line line (seen view read))
gives_seen view line (Ok x) (Ok y) h = let e : y ≡ x = cc in ap (λ z. Ok (view z)) e
gives_seen view line (Ok x) (Err fault) h = cc
gives_seen view line (Err stop) read h = seen_stops view line stop read h

-- the lines of a block that are read and completed
pub lines_given : {X : Type 0} (view : X → List ItemText) (t : TableText) (stop : ℕ) (head : Head) (inside : List LineText) (items : List ItemText)
    (read : Result X Fault) (result : Result X ReadStop) → t ≡ board_table → items_said t head inside ≡ Ok items → seen view read ≡ completed t head items →
    Gives (λ x. x) result (at_line stop read) → Gives view result (whole_lines stop head inside)
lines_given view t stop head inside items read result is said full given =
    let all = ap (λ (t : TableText). items_said t head inside >>= λ items. at_line stop (completed t head items)) (sym is)
    ∙ ap (λ (r : Result (List ItemText) Refused). r >>= λ items. at_line stop (completed t head items)) said ∙ ap (at_line stop) (sym full) in
    subst (λ r. Gives view result r) (sym all) (gives_seen view stop result read given)

-- lines that aren't read
pub lines_stop : (t : TableText) (stop : ℕ) (head : Head) (inside : List LineText) (s : ReadStop) → t ≡ board_table → Stops s (items_said t head inside) →
    Stops s (whole_lines stop head inside)
lines_stop t stop head inside s is h =
    then_stops s (items_said board_table head inside) _ (subst (λ (t : TableText). Stops s (items_said t head inside)) is h)

-- they are whole
pub are_whole : (stop : ℕ) (head : Head) (inside : List LineText) (all : List ItemText) → whole_lines stop head inside ≡ Ok all → IsWhole board_table head all
are_whole stop head inside all e = by (items_said board_table head inside) refl
  where
    by : (said : Result (List ItemText) Refused) → items_said board_table head inside ≡ said → IsWhole board_table head all
    by (Ok items) k =
        let full = sym (ap (λ (r : Result (List ItemText) Refused). r >>= λ items. at_line stop (completed board_table head items)) k) ∙ e in
        ok_keeps (IsWhole board_table head) (at_line stop (completed board_table head items)) all full
        (at_line_keeps (IsWhole board_table head) stop (completed board_table head items) (completed_ok board_table head items board_is_table (block_keeps head inside items k)))
    by (Err r) k =
        let none = sym (ap (λ (r : Result (List ItemText) Refused). r >>= λ items. at_line stop (completed board_table head items)) k) ∙ e in cc

-- the timers of what they say are sound
pub timers_kept : (head : Head) (all : List ItemText) (sub : SubText) → IsWhole board_table head all → sub ≡ sub_of head all → AreTimers sub.timers
timers_kept head all sub w same = subst (λ (s : SubText). AreTimers s.timers) (sym same) (timers_sound head all w.good)

-- and it is sound, where it keeps the rules over its lines
pub sub_sound : (head : Head) (all : List ItemText) (sub : SubText) → IsWhole board_table head all → has_channels head.version head.kind head.channels ≡ true →
    1 ≤ head.version → sub ≡ sub_of head all → is_board_ok sub ≡ true → IsSoundSub sub
sub_sound head all sub w channels version same ok =
    subst IsSoundSub (sym same) (sound head all w version channels (ap is_board_ok (sym same) ∙ ok))

-- and it is what its lines say
pub sub_said : (head : Head) (all : List ItemText) (sub : SubText) → IsWhole board_table head all → has_channels head.version head.kind head.channels ≡ true →
    1 ≤ head.version → sub ≡ sub_of head all → is_board_ok sub ≡ true → IsSaidSub sub
unfolding IsBlock
sub_said head all sub w channels version same ok =
    record {
      sound = sub_sound head all sub w channels version same ok;
      block = subst IsBlock (sym same) (record { whole = w; says = refl });
    }

-- by those rules it is what the block says
pub checked_is : (stop : ℕ) (head : Head) (all : List ItemText) (sub : SubText) (ok : Bool) → sub ≡ sub_of head all → is_board_ok sub ≡ ok →
    at_line stop (checked (sub_of head all)) ≡ at_line stop (cond ok (Ok sub) (Err faults.Bad))
checked_is stop head all sub ok same e =
    ap (λ (s : SubText). at_line stop (checked s)) (sym same) ∙ ap (λ (b : Bool). at_line stop (cond b (Ok sub) (Err faults.Bad))) e

-- the end of a block fails at the line after it, whichever of its two steps does
ends : (stop : ℕ) (head : Head) (said : Result (List ItemText) Fault) →
    at_line stop (said >>= λ all. checked (sub_of head all)) ≡ (at_line stop said >>= λ all. at_line stop (checked (sub_of head all)))
ends stop head (Ok all) = refl
ends stop head (Err fault) = refl

-- a block by its whole lines
block_is : (version stop count : ℕ) (line : LineText) (inside : List LineText) (head : Head) → at_line line.number (head_after version count line) ≡ Ok head →
    block_at version stop count line inside ≡ (whole_lines stop head inside >>= λ all. at_line stop (checked (sub_of head all)))
block_is version stop count line inside head e =
    ap (λ (r : Result Head Refused). r >>= λ head. items_said board_table head inside >>= λ items. at_line stop (finished head items)) e
    ∙ by (items_said board_table head inside)
  where
    by : (said : Result (List ItemText) Refused) → (said >>= λ items. at_line stop (finished head items))
        ≡ ((said >>= λ items. at_line stop (completed board_table head items)) >>= λ all. at_line stop (checked (sub_of head all)))
    by (Ok items) = ends stop head (completed board_table head items)
    by (Err r) = refl

-- a block whose lines aren't read
pub block_fails : (version stop count : ℕ) (line : LineText) (inside : List LineText) (head : Head) (s : ReadStop) →
    at_line line.number (head_after version count line) ≡ Ok head → Stops s (whole_lines stop head inside) → Stops s (block_at version stop count line inside)
block_fails version stop count line inside head s e h =
    stops-along s _ _ (block_is version stop count line inside head e) (then_stops s (whole_lines stop head inside) _ h)

-- a block whose lines are read is what they say
pub block_said : (version stop count : ℕ) (line : LineText) (inside : List LineText) (head : Head) (all : List ItemText) →
    at_line line.number (head_after version count line) ≡ Ok head → whole_lines stop head inside ≡ Ok all →
    block_at version stop count line inside ≡ at_line stop (checked (sub_of head all))
block_said version stop count line inside head all e said =
    block_is version stop count line inside head e ∙ ap (λ (r : Result (List ItemText) Refused). r >>= λ all. at_line stop (checked (sub_of head all))) said
