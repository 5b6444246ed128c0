-- The channels of a subdevice, one after another.
use Rattle.std.proofs.Common.{◌≡◌, ℕ, zero, suc, ◌+◌, ◌^◌, ◌<◌, ◌≤◌, ◌∙◌, List, [], ◌∷◌, length, set, get_or, map, ap, refl, sym, arith, add-one}
use Rattle.std.specs.List.{range_with_len, sum}
use Rattle.std.proofs.lemmas.List.FromFn.{sum_by-map-range_with_len_more}
use Rattle.std.proofs.Math.Nat.{pow-suc}
use Rattle.cm_board.specs.Board.{SubText}
use Rattle.cm_sample.proofs.Mapped.{mapped_to, mapped_to-next, mapped_to-word}
use Rattle.cm_sub.specs.State.{StateText}
use Rattle.cm_insn.specs.Bits.{bit_put}

-- one channel more in a word
pub word_more : (f : ℕ → ℕ) (c : ℕ) → sum (map f (range_with_len 0 (c + 1))) ≡ sum (map f (range_with_len 0 c)) + f c
word_more f c = sum_by-map-range_with_len_more (λ (n : ℕ). n) f 0 c c (omega arith)

-- the bit above a word
pub below_more : (word bit c : ℕ) → word < 2 ^ c → bit ≤ 2 ^ c → word + bit < 2 ^ (c + 1)
below_more word bit c a b = rw (add-one, pow-suc) (omega arith)

-- a list of mapped words is as long as before
pub length-mapped_to : (f : ℕ → ℕ → ℕ) (place i : ℕ) (xs : List ℕ) → length (mapped_to f place i xs) ≡ length xs
length-mapped_to f place zero xs = refl
length-mapped_to f place (suc i) [] = refl
length-mapped_to f place (suc i) (x ∷ xs) = ap suc (length-mapped_to f (suc place) i xs)

-- of a state, the first channels have taken their bits
abbrev pub PutTo : SubText → ℕ → ℕ → ℕ → StateText → StateText → Type 0
PutTo sub mask bits i old state = state ≡ record old { values = mapped_to (bit_put sub old.outs mask bits) 0 i old.values }

-- it keeps as many values as before
pub put_length : (sub : SubText) (mask bits i : ℕ) (old state : StateText) → PutTo sub mask bits i old state → length state.values ≡ length old.values
put_length sub mask bits i old state is = ap (λ (s : StateText). length s.values) is ∙ length-mapped_to (bit_put sub old.outs mask bits) 0 i old.values

-- one channel more takes its bit
pub put_more : (sub : SubText) (mask bits i value : ℕ) (old state : StateText) → PutTo sub mask bits i old state → i < length old.values
    → value ≡ bit_put sub state.outs mask bits i (get_or state.values i 0) → PutTo sub mask bits (i + 1) old (record state { values = set state.values i value })
put_more sub mask bits i value old state is below put =
    let f = bit_put sub old.outs mask bits in
    let outs : state.outs ≡ old.outs = ap (λ (s : StateText). s.outs) is in
    let so_far : state.values ≡ mapped_to f 0 i old.values = ap (λ (s : StateText). s.values) is in
    let here : i ≡ 0 + i = omega arith in
    let word : value ≡ f (0 + i) (get_or old.values i 0) =
    put ∙ ap (λ os. bit_put sub os mask bits i (get_or state.values i 0)) outs ∙ ap (λ vs. f i (get_or vs i 0)) so_far
    ∙ ap (f i) (mapped_to-word f 0 i 0 old.values) ∙ ap (λ n. f n (get_or old.values i 0)) here in
    let values : set state.values i value ≡ mapped_to f 0 (i + 1) old.values =
    ap (λ vs. set vs i value) so_far ∙ mapped_to-next f 0 i value old.values below word ∙ ap (λ n. mapped_to f 0 n old.values) (sym (add-one i)) in
    λ j. record { values = values j; outs = outs j }
