-- What comes out of a ring.
use Rattle.std.specs.Prelude.{◌≡◌, ℕ, ◌+◌, ◌-◌, ◌%◌, ◌^◌, min, true, false, ◌&&◌, List, [], ◌∷◌, length, slice_index}
use Rattle.cm_board.specs.declared.munge.Munge.TheVariants.{Offset}
use Rattle.cm_sample.specs.Rule.{RuleText, munged_word, rule_text}
use Rattle.cm_ring_core.specs.declared.view.RingConstants.{RingConstants}
use Rattle.cm_ring.specs.Roles.{Reading}
use Rattle.cm_load.specs.declared.reading.Came.{Came}
use Rattle.cm_load.specs.declared.words.Stretch.{Stretch}
use Rattle.cm_load.specs.Words.{back_half, differing, front_half, place_code, words_at}

-- a reader of a paced ring that has neither read nor mapped nor asked for anything
pub record IsFresh (r : Reading) : Type 0 where
  pub none_released : r.part.released ≡ 0
  pub none_mapped : r.mapped ≡ 0
  pub not_asked : r.part.asked ≡ false
  pub paced : r.ring.paced ≡ true

-- the munge of all words: by an offset
abbrev pub offset_rule : ℕ → RuleText
offset_rule maxdata = rule_text (record { kind = Offset; maxdata = maxdata } ∷ []) false false

-- how many of the first so many words aren't, when they are munged, the codes of the places from `first` on
abbrev pub wrong_of : RuleText → List ℕ → ℕ → ℕ → ℕ → ℕ
wrong_of rule words first maxdata count =
    differing (λ i. munged_word rule i (slice_index words i)) (λ i. place_code maxdata ((first + i) % 2 ^ 32)) count

-- what comes of all of some words: `Done`, and those that are wrong are counted up to the greatest number of 32 bits
abbrev pub came_of : RuleText → List ℕ → ℕ → ℕ → Came
came_of rule words first maxdata = record {
  count = length words;
  wrong = min (wrong_of rule words first maxdata (length words)) (2 ^ 32 - 1);
  done = true;
}

-- what comes out of a ring
abbrev pub HasCome : RingConstants → ℕ → ℕ → Came → Type 0
HasCome ring first maxdata came = came ≡ came_of ring.rule ring.samples first maxdata

-- what comes of the words at places
abbrev pub came_at : ℕ → Stretch → List ℕ → Came
came_at maxdata places words = came_of (offset_rule maxdata) (words_at places words) places.first maxdata

-- what came out of two rings
abbrev pub both : Came → Came → Came
both one other = record {
  count = (one.count + other.count) % 2 ^ 32;
  wrong = min (one.wrong + other.wrong) (2 ^ 32 - 1);
  done = one.done && other.done;
}

-- what comes of the words at places through two rings
abbrev pub came_by_two : ℕ → Stretch → List ℕ → Came
came_by_two maxdata places words =
    both (came_at maxdata (front_half places) words) (came_at maxdata (back_half places) words)

-- and through four
abbrev pub came_by_four : ℕ → Stretch → List ℕ → Came
came_by_four maxdata places words =
    both (came_by_two maxdata (front_half places) words) (came_by_two maxdata (back_half places) words)

-- what comes where all of so many samples come, each as it must be
abbrev pub all_of : ℕ → Came
all_of samples = record { count = samples; wrong = 0; done = true }
