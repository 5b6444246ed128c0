-- Who has each subdevice, as a client is told.
use Rattle.std.specs.Prelude.{ℕ, List, [], ◌∷◌, ◌++◌, codes, flat_map, Option, Some, None}
use Rattle.cm_sub.specs.Files.{FilesText}
use Rattle.cm_sub.specs.declared.claim.Claim.{Claim}
use Rattle.cm_running.specs.Texts.{words_text}

-- a file by its number, and -1 for none
abbrev pub file_text : Option ℕ → List ℕ
file_text None = codes " -1"
file_text (Some f) = words_text (f ∷ [])

-- who has a subdevice: the file that holds its lock, and the one that called its command
abbrev pub claim_text : Claim → List ℕ
claim_text claim = file_text claim.holder ++ file_text claim.runner

-- the same of all subdevices
abbrev pub claims_text : FilesText → List ℕ
claims_text files = codes "ok" ++ flat_map claim_text files.claims ++ codes "\n"
