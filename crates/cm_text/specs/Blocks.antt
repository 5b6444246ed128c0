-- The text of a command that is streamed: the lines of what came, and the line that ends them.
use Rattle.std.specs.Prelude.{◌≡◌, ℕ, ◌<◌, ◌≤◌, List, [], ◌∷◌, ◌++◌, length, take, nat_lt, Option, None, Some}
use Rattle.std.specs.Prelude.{if◌then◌else◌}
use Rattle.cm_base.specs.UpTo.{up_to}
use Rattle.cm_sample.specs.Rule.{map_from}
use Rattle.cm_expand.specs.Items.{items_of, samples_of}
use Rattle.cm_expand.specs.Plan.{PlanText, is_complete}
use Rattle.cm_expand.specs.Rule.{munged_at}
use Rattle.cm_expand.specs.declared.conv.Conv.{Conv}
use Rattle.cm_expand.specs.Totals.{length_of}
use Rattle.cm_text.specs.Format.{format_of, sample_lines}
use Rattle.cm_text.specs.Outputs.{Output, output_texts}
use Rattle.cm_text.specs.Tails.{tail_text}
use Rattle.cm_text.specs.declared.tail.Tail.{Tail}
use Rattle.cm_text.specs.declared.tail.Tail.TheVariants as tails

-- the words of a command, each munged at its place
abbrev pub munged_words : PlanText → List ℕ → List ℕ
munged_words p words = map_from (munged_at p.sub p.cmd) 0 words

-- the munged expansion of an input's command
abbrev pub munged_samples : PlanText → List ℕ
munged_samples p = munged_words p (samples_of p)

-- the lines of the first k samples, and then the end line
abbrev pub block : PlanText → ℕ → Tail → List ℕ
block p k tail = sample_lines (format_of p) 0 (take k (munged_samples p)) ++ tail_text tail

-- `done` after a complete expansion, and else `dry`
abbrev pub ending : PlanText → Tail
ending p = if is_complete p then tails.Done else tails.Dry

-- how many samples a client takes that may take them all, or no more than some
abbrev pub take_count : PlanText → Option ℕ → ℕ
take_count p most = up_to (length_of p) most

-- the end line where nothing is lost: `taken` where the client takes fewer than there are
abbrev pub cut_tail : PlanText → Option ℕ → Tail
cut_tail p None = ending p
cut_tail p (Some most) = if nat_lt most (length_of p) then tails.Taken most else ending p

-- the block of a `go` line where nothing is lost
abbrev pub paced_block : PlanText → Option ℕ → List ℕ
paced_block p most = block p (take_count p most) (cut_tail p most)

-- a block that ends with an overrun after k samples: the buffer's size or more, and fewer than the client takes
pub record HasOverrun (p : PlanText) (most : Option ℕ) (text : List ℕ) : Type 0 where
  pub k : ℕ
  pub full : p.sub.buffer ≤ k
  pub short : k < take_count p most
  pub is : text ≡ block p k (tails.Overrun k)

-- a word for each conversion, as long as there are words
abbrev pub outputs_of : ℕ → List Conv → List ℕ → List Output
outputs_of sub [] words = []
outputs_of sub (conv ∷ convs) [] = []
outputs_of sub (conv ∷ convs) (word ∷ words) =
    record { sub = sub; time = conv.time; index = conv.list_index; word = word } ∷ outputs_of sub convs words

-- `underrun` where fewer values were given than there are conversions
abbrev pub values_tail : PlanText → ℕ → Tail
values_tail p values = if nat_lt values (length_of p) then tails.Underrun values else ending p

-- the block of a `drive` line: its munged values at the times of the conversions, and the end line
abbrev pub drive_block : PlanText → List ℕ → List ℕ
drive_block p values =
    output_texts (outputs_of p.index (items_of p) (munged_words p values)) ++ tail_text (values_tail p (length values))
