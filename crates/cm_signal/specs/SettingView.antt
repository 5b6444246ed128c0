-- How contracts see a setting.
use Rattle.cm_signal.specs.Setting.{Setting}
use Rattle.cm_signal.specs.declared.setting.Setting.TheInside.{Inside}

-- a board with its signals, as contracts see it
abbrev pub setting_text : Inside → Setting
setting_text s = record { board = s.board.now; signals = s.signals.now }
