-- A bit that an output took is read from it.
use Rattle.std.proofs.Common.{◌≡◌, ℕ, zero, suc, ◌+◌, ◌<◌, Bool, true, false, ◌==◌, ◌&&◌, IsTrue, get_or, length, min, ap, refl, arith, if◌then◌else◌, nat_lt}
use Rattle.std.proofs.lemmas.Bool.Decides.{nat_tests}
use Rattle.cm_base.proofs.Bools.{both}
use Rattle.cm_sample.proofs.Mapped.{get_or-map_from}
use Rattle.cm_sub.specs.State.{StateText}
use Rattle.cm_insn.specs.Bits.{bit, bit_put, bits_of, takes_bit, with_bits}
use Rattle.cm_insn.specs.Site.{SiteText, input_at, is_out, value_at}
use Rattle.cm_insn.proofs.BitsRead.{bit_word}

-- a number below 2 is 1 or 0
as_bit : (n : ℕ) → n < 2 → (if n == 1 then 1 else 0) ≡ n
as_bit zero below = refl
as_bit (suc zero) below = refl
as_bit (suc (suc n)) below = absurd (omega arith)

chosen : (test : Bool) (value other : ℕ) → test ≡ true → (if test then value else other) ≡ value
chosen true value other is = refl
chosen false value other is = cc

pub bit_back : (s : SiteText) (state : StateText) (mask bits c : ℕ) → length state.values ≡ s.sub.channels → c < s.sub.channels
    → IsTrue (takes_bit s.sub state.outs mask c) → bit (bits_of s (with_bits s.sub state mask bits)) c ≡ bit bits c
bit_back s state mask bits c size below takes =
    let f = bit_put s.sub state.outs mask bits in
    let after : StateText = with_bits s.sub state mask bits in
    let parts = both (nat_lt c 32) (is_out s.sub state.outs c && bit mask c == 1) takes in
    let out : is_out s.sub state.outs c ≡ true = (both (is_out s.sub state.outs c) (bit mask c == 1) parts.1).0 in
    let low : c < 32 = grind (arith, nat_tests, parts.0) in
    let first : c < min 32 s.sub.channels = omega arith in
    let here : 0 + c ≡ c = omega arith in
    let kept : value_at s after c 0 ≡ get_or after.values c 0 = chosen (is_out s.sub state.outs c) (get_or after.values c 0) (input_at s c 0) out in
    let put : get_or after.values c 0 ≡ f (0 + c) (get_or state.values c 0) = get_or-map_from f 0 state.values c 0 0 (omega arith) in
    let place : f (0 + c) (get_or state.values c 0) ≡ f c (get_or state.values c 0) = ap (λ n. f n (get_or state.values c 0)) here in
    let bit_is : f c (get_or state.values c 0) ≡ bit bits c = chosen (takes_bit s.sub state.outs mask c) (bit bits c) (get_or state.values c 0) takes in
    let value : value_at s after c 0 ≡ bit bits c = cc in
    let word : bit (bits_of s after) c ≡ (if value_at s after c 0 == 1 then 1 else 0) = bit_word (λ i. value_at s after i 0 == 1) (min 32 s.sub.channels) c first in
    rw (word, value) (as_bit (bit bits c) (omega arith))
