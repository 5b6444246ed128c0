-- What the program can be asked, and which of it its arguments name.
use Rattle.std.specs.Prelude.{List, [], ◌∷◌, ℕ, codes, Option, None, String}
use Rattle.std.specs.String.{string_bytes}
use Rattle.std.specs.declared.alloc.Global.{Global}
use Rattle.cm_base.specs.Words.{listed}
use Rattle.cm_facts.specs.declared.inquiry.Inquiry.{Inquiry}
use Rattle.cm_facts.specs.declared.inquiry.Inquiry.TheVariants as inquiries

-- the inquiries with their words
abbrev pub table : List (List ℕ × Inquiry)
table = (codes "describe", inquiries.Describe) ∷ []

-- the inquiry that the program's one argument names
abbrev pub inquiry_of : List (String Global) → Option Inquiry
inquiry_of (word ∷ []) = listed table (string_bytes word)
inquiry_of words = None
