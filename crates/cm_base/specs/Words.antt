-- What the words of a line say, each in its place.
use Rattle.std.specs.Prelude.{ℕ, ℤ, pos, negsuc, ◌*◌, ◌-◌, Bool, ◌&&◌, ◌==◌, nat_le, nat_lt, int_lt, List, [], ◌∷◌}
use Rattle.std.specs.Prelude.{◌++◌, length, Option, Some, None, codes, Result, Ok, Err, if◌then◌else◌, not, bit_and}
use Rattle.std.specs.Prelude.{bit_or}
use Rattle.std.specs.List.{slice_split}
use Rattle.std.specs.Str.{bytes_eq}
use Rattle.cm_base.specs.Numbers.{number_of, signed_of}
use Rattle.cm_base.specs.Source.{bit_of}
use Rattle.cm_base.specs.Reading.{◌>>=◌}
use Rattle.cm_base.specs.declared.faults.Fault.{Fault}
use Rattle.cm_base.specs.declared.faults.Fault.TheVariants.{BadLine, BadNumber, Limit, Unknown}

-- what a word says, or what is wrong with it
abbrev pub or_fault : {X : Type 0} → Fault → Option X → Result X Fault
or_fault fault None = Err fault
or_fault fault (Some x) = Ok x

-- a value within its limit, or the fault that it is not
abbrev pub limited : {X : Type 0} → Bool → X → Result X Fault
limited fits x = if fits then Ok x else Err Limit

-- a number from `least` to `most`
abbrev pub number_in : ℕ → ℕ → List ℕ → Result ℕ Fault
number_in least most word = or_fault BadNumber (number_of word) >>= λ n. limited (nat_le least n && nat_le n most) n

-- a number below a limit
abbrev pub number_below : ℕ → List ℕ → Result ℕ Fault
number_below limit word = or_fault BadNumber (number_of word) >>= λ n. limited (nat_lt n limit) n

-- a signed number of 32 bits
abbrev pub is_int : ℤ → Bool
is_int n = not (int_lt n (negsuc 2147483647)) && not (int_lt (pos 2147483647) n)

-- a word as a number of 32 bits with a sign
abbrev pub signed_number : List ℕ → Result ℤ Fault
signed_number word = or_fault BadNumber (signed_of word) >>= λ n. limited (is_int n) n

-- the byte between two source names
abbrev pub is_bar : ℕ → Bool
is_bar c = c == 124

-- the bit of the source with this name, if it is not below `least`
abbrev pub bit_from : ℕ → List ℕ → Result ℕ Fault
bit_from least name = or_fault Unknown (bit_of name) >>= λ bit. if nat_le least bit then Ok bit else Err Unknown

-- the bits of these names together, in rising order and none below `least`
abbrev pub bits_of : ℕ → List (List ℕ) → Result ℕ Fault
bits_of least [] = Ok 0
bits_of least (name ∷ more) = bit_from least name >>= λ bit. bits_of (2 * bit) more >>= λ rest. Ok (bit_or bit rest)

-- the sources that a text names, none for `invalid`
abbrev pub source_of : List ℕ → Result ℕ Fault
source_of word = if bytes_eq word (codes "invalid") then Ok 0 else bits_of 0 (slice_split is_bar word)

-- at least one source, and none but those of the mask
abbrev pub sources_in : ℕ → List ℕ → Result ℕ Fault
sources_in mask word = source_of word >>= λ bits. limited (not (bits == 0) && bit_and bits mask == bits) bits

-- what stands after a word of the list
abbrev pub listed : {X : Type 0} → List (List ℕ × X) → List ℕ → Option X
listed [] word = None
listed (entry ∷ more) word = if bytes_eq word entry.0 then Some entry.1 else listed more word

-- a word of the list
abbrev pub keyword : {X : Type 0} → List (List ℕ × X) → List ℕ → Result X Fault
keyword entries word = or_fault Unknown (listed entries word)

-- a form: what the words after its key say
abbrev pub Form : Type 0 → Type 0
Form X = List (List ℕ) → Result X Fault

-- the words, where there are as many as the form has
abbrev pub no_words : List (List ℕ) → Result (Unit {0}) Fault
no_words [] = Ok tt
no_words words = Err BadLine

-- a line of exactly one word
abbrev pub one_word : List (List ℕ) → Result (List ℕ) Fault
one_word (v ∷ []) = Ok v
one_word words = Err BadLine

-- a line of exactly two words
abbrev pub two_words : List (List ℕ) → Result (List ℕ × List ℕ) Fault
two_words (v ∷ w ∷ []) = Ok (v, w)
two_words words = Err BadLine

-- a line of exactly three words
abbrev pub three_words : List (List ℕ) → Result (List ℕ × List ℕ × List ℕ) Fault
three_words (v ∷ w ∷ x ∷ []) = Ok (v, w, x)
three_words words = Err BadLine

-- a line of exactly four words
abbrev pub four_words : List (List ℕ) → Result (List ℕ × List ℕ × List ℕ × List ℕ) Fault
four_words (v ∷ w ∷ x ∷ y ∷ []) = Ok (v, w, x, y)
four_words words = Err BadLine

-- the forms with no, one, two and more words: what each word has to be, and what they say together
abbrev pub alone : {X : Type 0} → X → Form X
alone x words = no_words words >>= λ none. Ok x

-- the form of one word, which is read by its own reader
abbrev pub one : {X A : Type 0} → (A → X) → (List ℕ → Result A Fault) → Form X
one make a words = one_word words >>= λ w. a w >>= λ x. Ok (make x)

-- the form of two words, each read by its own reader, the first one first
abbrev pub two : {X A B : Type 0} → (A → B → X) → (List ℕ → Result A Fault) → (List ℕ → Result B Fault) → Form X
two make a b words = two_words words >>= λ w. a w.0 >>= λ x. b w.1 >>= λ y. Ok (make x y)

-- the form of three words, each read by its own reader, the first one first
abbrev pub three :
    {X A B C : Type 0} → (A → B → C → X) → (List ℕ → Result A Fault) → (List ℕ → Result B Fault)
    → (List ℕ → Result C Fault) → Form X
three make a b c words = three_words words >>= λ w. a w.0 >>= λ x. b w.1 >>= λ y. c w.2 >>= λ z. Ok (make x y z)

-- the form of four words, each read by its own reader, the first one first
abbrev pub four : {X A B C D : Type 0} → (A → B → C → D → X) → (List ℕ → Result A Fault)
    → (List ℕ → Result B Fault) → (List ℕ → Result C Fault) → (List ℕ → Result D Fault)
    → Form X
four make a b c d words =
    four_words words >>= λ w. a w.0 >>= λ x. b w.1 >>= λ y. c w.2 >>= λ z. d w.3 >>= λ u. Ok (make x y z u)

-- a further word that chooses the form
abbrev pub chosen : {X : Type 0} → List (List ℕ × Form X) → Form X
chosen forms [] = Err BadLine
chosen forms (word ∷ words) = keyword forms word >>= λ form. form words

-- one source, and none but those of the mask
abbrev pub source_in : ℕ → List ℕ → Result ℕ Fault
source_in mask word = sources_in mask word >>= λ bits. limited (bit_and bits (bits - 1) == 0) bits

-- a word after others, of which at most `most` may stand; one too many is over the limit whatever it says
abbrev pub up_to : {X : Type 0} → ℕ → (List ℕ → Result X Fault) → ℕ → List ℕ → Result X Fault
up_to most read before word = if nat_lt before most then read word else Err Limit

-- what each of at most `most` words says, after those before them
abbrev pub values : {X : Type 0} → ℕ → (List ℕ → Result X Fault) → List X → List (List ℕ) → Result (List X) Fault
values most read before [] = Ok before
values most read before (word ∷ words) =
    up_to most read (length before) word >>= λ x. values most read (before ++ x ∷ []) words

-- what each word says, after those before them
abbrev pub each_word : {X : Type 0} → (List ℕ → Result X Fault) → List X → List (List ℕ) → Result (List X) Fault
each_word read before [] = Ok before
each_word read before (word ∷ words) = read word >>= λ x. each_word read (before ++ x ∷ []) words

-- the first word, and at least one after it
abbrev pub one_and_more : List (List ℕ) → Result (List ℕ × List (List ℕ)) Fault
one_and_more (v ∷ w ∷ more) = Ok (v, w ∷ more)
one_and_more words = Err BadLine

-- the first two words, and at least one after them
abbrev pub two_and_more : List (List ℕ) → Result (List ℕ × List ℕ × List (List ℕ)) Fault
two_and_more (v ∷ w ∷ x ∷ more) = Ok (v, w, x ∷ more)
two_and_more words = Err BadLine

-- the first three words, and those after them
abbrev pub three_and_more : List (List ℕ) → Result (List ℕ × List ℕ × List ℕ × List (List ℕ)) Fault
three_and_more (v ∷ w ∷ x ∷ more) = Ok (v, w, x, more)
three_and_more words = Err BadLine
