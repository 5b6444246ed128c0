-- What comes of the words of places: all of them, each as it must be.
use Rattle.std.proofs.Common.{◌≡◌, ℕ, zero, suc, ◌+◌, ◌-◌, ◌*◌, ◌/◌, ◌%◌, ◌^◌, ◌<◌, ◌≤◌, inl, inr, true, List, length, get_or, take, drop, min, refl, ap, ◌∙◌, arith}
use Rattle.std.specs.Prelude.{bit_xor, slice_get}
use Rattle.std.specs.Int.Bits.{xor_assoc, xor_add_and}
use Rattle.std.proofs.lemmas.Nat.{and_mask}
use Rattle.std.proofs.lemmas.Nat.Bits.{and_pow}
use Rattle.std.proofs.lemmas.List.{get_or-take, get_or-drop}
use Rattle.std.proofs.lemmas.Grind.{common_steps}
use Rattle.cm_board.specs.Munge.{munged}
use Rattle.cm_board.specs.declared.munge.Munge.TheVariants.{Offset}
use Rattle.cm_sample.specs.Rule.{item_word_if, munged_word}
use Rattle.cm_load.specs.declared.reading.Came.{Came}
use Rattle.cm_load.specs.Coming.{all_of, both, came_at, came_by_four, came_by_two, offset_rule, wrong_of}
use Rattle.cm_load.specs.Words.{IsMost, back_half, differing, place_code, place_word, place_words}

-- an offset turns the bit of half of all codes
xor_128 : (w : ℕ) → w < 256 → bit_xor w 128 ≡ (w + 128) % 256
xor_128 w below = omega (arith, xor_add_and w 128, and_pow w 7)

xor_32768 : (w : ℕ) → w < 65536 → bit_xor w 32768 ≡ (w + 32768) % 65536
xor_32768 w below = omega (arith, xor_add_and w 32768, and_pow w 15)

-- an offset gives the code of a place for its word
right_255 : (place : ℕ) → munged Offset 255 (place_word 255 place) ≡ place_code 255 place
right_255 place =
    let mixed : ℕ = place * 2654435761 % 2 ^ 32 / 2 ^ 16 in
    let word = place_word 255 place in
    let below : word < 256 = omega (arith, and_mask mixed 8) in
    xor_assoc word 255 127 ∙ xor_128 word below ∙ omega (arith, and_mask ((word + 128) % 2 ^ 32) 8)

right_65535 : (place : ℕ) → munged Offset 65535 (place_word 65535 place) ≡ place_code 65535 place
right_65535 place =
    let mixed : ℕ = place * 2654435761 % 2 ^ 32 / 2 ^ 16 in
    let word = place_word 65535 place in
    let below : word < 65536 = omega (arith, and_mask mixed 16) in
    xor_assoc word 65535 32767 ∙ xor_32768 word below ∙ omega (arith, and_mask ((word + 32768) % 2 ^ 32) 16)

right : (maxdata : ℕ) → IsMost maxdata → (place : ℕ) → munged Offset maxdata (place_word maxdata place) ≡ place_code maxdata place
right maxdata (inl e) place = rw e (right_255 place)
right maxdata (inr e) place = rw e (right_65535 place)

-- the one item of the rule is that of each place
by_rule : (maxdata i word : ℕ) → munged_word (offset_rule maxdata) i word ≡ munged Offset maxdata word
by_rule maxdata i word =
    let one : i % 1 ≡ 0 = omega arith in
    ap (λ j. item_word_if (offset_rule maxdata).out (slice_get (offset_rule maxdata).items j) word) one

length-place_words : (maxdata n : ℕ) → length (place_words maxdata n) ≡ n
length-place_words maxdata zero = refl
length-place_words maxdata (suc n) = grind (arith, common_steps, length-place_words maxdata n)

get_or-place_words : (maxdata n i : ℕ) → i < n → get_or (place_words maxdata n) i 0 ≡ place_word maxdata i
get_or-place_words maxdata zero i below = absurd (omega arith)
get_or-place_words maxdata (suc n) i below =
    grind (arith, common_steps, length-place_words maxdata n, get_or-place_words maxdata n i)

same_differ : (f g : ℕ → ℕ) (n : ℕ) → ((i : ℕ) → i < n → f i ≡ g i) → differing f g n ≡ 0
same_differ f g zero same = refl
same_differ f g (suc n) same =
    grind (arith, common_steps, same n (omega arith), same_differ f g n (λ i below. same i (omega arith)))

-- all words of the first places come right
pub came_right : (maxdata first count n : ℕ) → IsMost maxdata → n < 2 ^ 32 → first + count ≤ n → came_at maxdata (record { first = first; count = count }) (place_words maxdata n) ≡ all_of count
came_right maxdata first count n most small within =
    let all : List ℕ = place_words maxdata n in
    let words : List ℕ = take count (drop first all) in
    let long : length words ≡ count = grind (arith, common_steps, length-place_words maxdata n) in
    let wrong : ℕ → ℕ = wrong_of (offset_rule maxdata) words first maxdata in
    let none : wrong (length words) ≡ 0 =
    same_differ _ _ (length words) (λ i below.
    by_rule maxdata i (get_or words i 0)
    ∙ ap (munged Offset maxdata) (get_or-take count (drop first all) i 0 (omega arith) ∙ get_or-drop first all i 0 ∙ get_or-place_words maxdata n (first + i) (omega arith))
    ∙ right maxdata most (first + i) ∙ ap (place_code maxdata) (omega arith)) in
    let come : ℕ → ℕ → Came = λ number wrong. record { count = number; wrong = min wrong (2 ^ 32 - 1); done = true } in
    ap (λ number. come number (wrong (length words))) long ∙ ap (come count) none

by_two : (maxdata first count n : ℕ) → IsMost maxdata → n < 2 ^ 32 → first + count ≤ n → came_by_two maxdata (record { first = first; count = count }) (place_words maxdata n) ≡ all_of count
by_two maxdata first count n most small within =
    let front = came_right maxdata first (count / 2) n most small (omega arith) in
    let back = came_right maxdata ((first + count / 2) % 2 ^ 32) (count - count / 2) n most small (omega arith) in
    let whole : (count / 2 + (count - count / 2)) % 2 ^ 32 ≡ count = omega arith in
    ap (λ one. both one (came_at maxdata (back_half (record { first = first; count = count })) (place_words maxdata n))) front
    ∙ ap (both (all_of (count / 2))) back ∙ ap all_of whole

-- the same through four rings
pub by_four : (maxdata first count n : ℕ) → IsMost maxdata → n < 2 ^ 32 → first + count ≤ n → came_by_four maxdata (record { first = first; count = count }) (place_words maxdata n) ≡ all_of count
by_four maxdata first count n most small within =
    let front = by_two maxdata first (count / 2) n most small (omega arith) in
    let back = by_two maxdata ((first + count / 2) % 2 ^ 32) (count - count / 2) n most small (omega arith) in
    let whole : (count / 2 + (count - count / 2)) % 2 ^ 32 ≡ count = omega arith in
    ap (λ one. both one (came_by_two maxdata (back_half (record { first = first; count = count })) (place_words maxdata n))) front
    ∙ ap (both (all_of (count / 2))) back ∙ ap all_of whole
