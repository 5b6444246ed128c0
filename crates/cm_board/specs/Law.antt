-- What holds of the definitions alone.
use Rattle.std.specs.Prelude.{◌≡◌, ◌≤◌, ◌+◌, ◌-◌, ◌*◌, ◌/◌, ◌^◌, ℕ, min, List, [], ◌∷◌, codes, take, length}
use Rattle.cm_board.specs.BoardTable.{board_forms, following, offered}
use Rattle.cm_board.specs.Rows as rows
use Rattle.cm_board.specs.Table.{WordText, Channel, Fixed, Name, form_at}
use Rattle.cm_board.specs.Times.{IsGreatest, IsLeast, TimersText, can_make, down, up}

-- a form by its number: the row that it is of, and the words with which it begins
abbrev pub IsForm : ℕ → ℕ → List WordText → Type 0
IsForm n row words =
    ((form_at n board_forms).row ≡ row) × (take (length words) (form_at n board_forms).words ≡ words)

-- each form that has a name has the words that its name says
pub record FormsAreAsNamed : Type 0 where
  pub bits : IsForm rows.bits_form rows.bits (Fixed (codes "bits") ∷ [])
  pub munge : IsForm rows.munge_form rows.munge (Fixed (codes "munge") ∷ Fixed (codes "none") ∷ [])
  pub offset : IsForm rows.offset_form rows.munge (Fixed (codes "munge") ∷ Fixed (codes "offset") ∷ [])
  pub range : IsForm rows.range_form rows.range (Fixed (codes "range") ∷ [])
  pub sources : IsForm rows.sources_form rows.sources (Fixed (codes "sources") ∷ [])
  pub tick : IsForm rows.tick_form rows.tick (Fixed (codes "tick") ∷ [])
  pub scan : IsForm rows.scan_form rows.scan (Fixed (codes "scan") ∷ [])
  pub convert : IsForm rows.convert_form rows.convert (Fixed (codes "convert") ∷ [])
  pub list : IsForm rows.list_form rows.list (Fixed (codes "list") ∷ [])
  pub scans : IsForm rows.scans_form rows.scans (Fixed (codes "scans") ∷ [])
  pub lines : IsForm rows.lines_form rows.lines (Fixed (codes "lines") ∷ [])
  pub buffer : IsForm rows.buffer_form rows.buffer (Fixed (codes "buffer") ∷ [])
  pub repeated :
      IsForm rows.repeated_form rows.order
      (Fixed (codes "channels") ∷ following ∷ Name (codes "repeat" ∷ []) ∷ [])
  pub chan_munge :
      IsForm rows.chan_munge_form rows.chan_munge
      (Fixed (codes "chan") ∷ Channel ∷ Fixed (codes "munge") ∷ Fixed (codes "none") ∷ [])
  pub flag : IsForm rows.flag_form rows.flag (Fixed (codes "flag") ∷ offered ∷ [])

-- down is the greatest time that timers can make not above another
abbrev pub DownIsGreatest : Type 0
DownIsGreatest = (timers : TimersText) (time : ℕ) → IsGreatest (can_make timers) time (down timers time)

-- and up the least not below it
abbrev pub UpIsLeast : Type 0
UpIsLeast =
    (timers : TimersText) (time : ℕ) → time ≤ 2 ^ 32 → IsLeast (can_make timers) (2 ^ 32) time (up timers time)

-- timers without counters, which make each multiple of a tick
abbrev pub multiples_of : ℕ → TimersText
multiples_of tick = record { tick = tick; clock = [] }

-- without counters a time goes down to the tick by a quotient
abbrev pub DownToTick : Type 0
DownToTick = (tick time : ℕ) → 1 ≤ tick → down (multiples_of tick) time ≡ time / tick * tick

-- and up to it, or to 2^32, where that is less
abbrev pub UpToTick : Type 0
UpToTick =
    (tick time : ℕ) → 1 ≤ tick → time ≤ 2 ^ 32
    → up (multiples_of tick) time ≡ min ((time + (tick - 1)) / tick * tick) (2 ^ 32)
