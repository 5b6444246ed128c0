-- How contracts see the words of a plan.
use Rattle.std.specs.Prelude.{◌≡◌, ◌+◌, ◌-◌, ◌<◌, ◌≤◌, drop, length, take}
use Rattle.cm_expand.specs.Items.{items_of}
use Rattle.cm_expand.specs.PlanView.{words_of}
use Rattle.cm_expand.specs.Taking.{raw_words}
use Rattle.cm_client.specs.Source.{SourceText}
use Rattle.cm_client.specs.declared.words.WordSource.TheInside.{Inside}

-- the next word is the first that wasn't given on
abbrev pub source_text : Inside → SourceText
source_text s = record { all = words_of s.board.plan; place = s.board.place - s.count + s.given }

-- the board's last words are kept, and one that wasn't given on is there unless the board has given all
pub record IsSource (s : Inside) : Type 0 where
  pub few : s.count ≤ 64
  pub given : s.given ≤ s.count
  pub before : s.count ≤ s.board.place
  pub within : s.given < s.count → s.board.place ≤ length (items_of s.board.plan)
  pub horizon : s.horizon ≡ s.board.plan.signals.horizon
  pub kept : take s.count s.piece ≡ raw_words (take s.count (drop (s.board.place - s.count) (items_of s.board.plan)))
  pub some : s.given ≡ s.count → length (items_of s.board.plan) ≤ s.board.place
