-- A board as text.
use Rattle.std.specs.Prelude.{ℕ, zero, suc, Bool, false, if◌then◌else◌}
use Rattle.std.specs.Prelude.{List, [], ◌∷◌, ◌++◌, map, flat_map, codes, decimal}
use Rattle.std.specs.Fmt.{signed_decimal}
use Rattle.cm_base.specs.SourceText.{source_text}
use Rattle.cm_base.specs.WrittenLines.{written_line}
use Rattle.cm_board.specs.Board.{BoardText, SubText, is_wide}
use Rattle.cm_board.specs.BoardTable.{board_table}
use Rattle.cm_board.specs.Items.{ItemText}
use Rattle.cm_board.specs.Table.{TableText, WordText, Fixed, Sources, Source, Name, form_at}
use Rattle.cm_board.specs.declared.board.Kind.{Kind}
use Rattle.cm_board.specs.declared.board.Kind.TheVariants as kinds
use Rattle.cm_board.specs.declared.table.Value.{Value}
use Rattle.cm_board.specs.declared.table.Value.TheVariants as values_of
use Rattle.cm_board_text.specs.DivisorsText.{divisors_text}

-- a name by its place
abbrev pub name_at : ℕ → List (List ℕ) → List ℕ
name_at n [] = []
name_at zero (name ∷ names) = name
name_at (suc n) (name ∷ names) = name_at n names

-- sources, or a number
abbrev pub number_text : WordText → ℕ → List ℕ
number_text (Sources sets) n = source_text n
number_text Source n = source_text n
number_text other n = decimal n

-- a name of a word
abbrev pub name_text : WordText → ℕ → List ℕ
name_text (Name names) n = name_at n names
name_text other n = []

-- what a word says
abbrev pub value_text : WordText → Value → List ℕ
value_text kind (values_of.Number n) = number_text kind n
value_text kind (values_of.Signed z) = signed_decimal z
value_text kind (values_of.Name n) = name_text kind n
value_text kind (values_of.Divisors d) = divisors_text d

-- the words of a form with these values
abbrev pub words_text : List WordText → List Value → List (List ℕ)
words_text [] vs = []
words_text (Fixed key ∷ kinds) vs = key ∷ words_text kinds vs
words_text (kind ∷ kinds) [] = []
words_text (kind ∷ kinds) (v ∷ vs) = value_text kind v ∷ words_text kinds vs

-- the space before a word, but the first of a line has none
abbrev pub space_before : Bool → List ℕ
space_before first = if first then [] else 32 ∷ []

-- words with spaces between them, the first of a line or others
abbrev pub spaced : Bool → List (List ℕ) → List ℕ
spaced first [] = []
spaced first (word ∷ words) = (space_before first ++ word) ++ spaced false words

-- the words of a line
abbrev pub item_words : TableText → ItemText → List (List ℕ)
item_words t item = words_text (form_at item.form t.forms).words item.values

-- lines as text
abbrev pub items_text : TableText → List ItemText → List ℕ
items_text t items = flat_map (λ item. written_line (item_words t item)) items

-- the name of a subdevice's kind
abbrev pub kind_text : Kind → List ℕ
kind_text kinds.Unused = codes "unused"
kind_text kinds.Ai = codes "ai"
kind_text kinds.Ao = codes "ao"
kind_text kinds.Di = codes "di"
kind_text kinds.Do = codes "do"
kind_text kinds.Dio = codes "dio"

-- the first line of a block
abbrev pub head_line : SubText → List (List ℕ)
head_line s = codes "subdevice" ∷ kind_text s.kind ∷ decimal s.channels ∷ []

-- the printed block of a subdevice
abbrev pub block_text : SubText → List ℕ
block_text s = written_line (head_line s) ++ items_text board_table s.block

-- the line of the version; the third is the first of the wider texts
abbrev pub version_line : ℕ → List (List ℕ)
version_line version =
    if is_wide version then codes "zendrouz" ∷ codes "1" ∷ [] else codes "comedi" ∷ decimal version ∷ []

-- the line of the board's name
abbrev pub name_line : List ℕ → List (List ℕ)
name_line name = codes "board" ∷ name ∷ []

-- a board as it is printed
abbrev pub printed_board : BoardText → List ℕ
printed_board b =
    written_line (version_line b.version) ++ (written_line (name_line b.name) ++ flat_map block_text b.subs)

-- the lines of a block, and of a board part
abbrev pub sub_lines : SubText → List (List (List ℕ))
sub_lines s = head_line s ∷ map (item_words board_table) s.block

-- the printed lines of a board, as their words
abbrev pub board_lines : BoardText → List (List (List ℕ))
board_lines b = version_line b.version ∷ name_line b.name ∷ flat_map sub_lines b.subs
