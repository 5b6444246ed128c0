-- A reader and a writer as the client of a dialogue.
use Rattle.std.specs.Prelude.{◌≡◌, ℕ, ◌==◌, false, Bool, not, List, ◌++◌, length, Option}
use Rattle.std.specs.List.{before_first, after_first, list_any}
use Rattle.std.specs.Option.{option_map}
use Rattle.std.specs.Io.KnownBytes.{Consumes, IsAtEnd, prepend_known}
use Rattle.cm_base.specs.Lines.{is_line_feed, raw_lines}

-- what was read and not heard yet, what the reader has left and the writer has taken,
-- where they tell it, and the count of their faults
pub record Ends : Type 0 where
  pub waiting : List ℕ
  pub left : Option (List ℕ)
  pub text : Option (List ℕ)
  pub faults : ℕ

-- the bytes that weren't heard
abbrev pub unheard : Ends → Option (List ℕ)
unheard c = prepend_known c.waiting c.left

-- the lines that weren't
abbrev pub unheard_lines : Ends → Option (List (List ℕ))
unheard_lines c = option_map raw_lines (unheard c)

-- the bytes that wait were moved to a line up to the first line feed,
-- which is dropped, or all of them where there is none
pub record Moved (ended : Bool) (old new : Ends) (before line : List ℕ) : Type 0 where
  pub line_is : line ≡ before ++ before_first is_line_feed old.waiting
  pub waits : new.waiting ≡ after_first is_line_feed old.waiting
  pub ends : ended ≡ list_any is_line_feed old.waiting
  pub left : new.left ≡ old.left

-- the next bytes of the reader wait, none at its end
pub record Refilled (some : Bool) (old new : Ends) : Type 0 where
  pub came : Consumes old.left new.left new.waiting
  pub more : some ≡ not (length new.waiting == 0)
  pub ends : some ≡ false → IsAtEnd new.left
