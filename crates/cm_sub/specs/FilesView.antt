-- How contracts see the files.
use Rattle.std.specs.Prelude.{◌≤◌, ◌≡◌, length, take}
use Rattle.cm_sub.specs.Files.{FilesText}
use Rattle.cm_sub.specs.declared.files.Files.TheInside.{Inside}

-- the open files, and the claims on the subdevices that the board has
abbrev pub files_text : Inside → FilesText
files_text f = record { are_open = f.opened; claims = take f.subs f.claims }

-- there is room for 16 files and 16 subdevices
pub record IsSoundFiles (f : Inside) : Type 0 where
  pub few : f.subs ≤ 16
  pub files : length f.opened ≡ 16
  pub places : length f.claims ≡ 16
