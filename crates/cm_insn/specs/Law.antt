-- What instructions read back.
use Rattle.std.specs.Prelude.{◌≡◌, ◌<◌, ◌^◌, ℕ, ◌==◌, min, List, length, replicate, IsTrue, if◌then◌else◌}
use Rattle.cm_sub.specs.State.{StateText}
use Rattle.cm_insn.specs.Bits.{bit, bits_of, takes_bit, with_bits}
use Rattle.cm_insn.specs.Insn.{can_read, can_write, last_of, read, state_after, words_after, write}
use Rattle.cm_insn.specs.Site.{SiteText, value_at}

-- the word of a subdevice has a bit for each of its first 32 channels, 1 where the channel's value is 1
abbrev pub BitsAreValues : Type 0
BitsAreValues =
    (s : SiteText) (state : StateText) (c : ℕ)
    → c < min 32 s.sub.channels
    → bit (bits_of s state) c ≡ (if value_at s state c 0 == 1 then 1 else 0)

-- and no others
abbrev pub BitsAreFew : Type 0
BitsAreFew = (s : SiteText) (state : StateText) → bits_of s state < 2 ^ min 32 s.sub.channels

-- a bit that an output took is read from it
abbrev pub BitsComeBack : Type 0
BitsComeBack =
    (s : SiteText) (state : StateText) (mask bits c : ℕ) → length state.values ≡ s.sub.channels → c < s.sub.channels
    → IsTrue (takes_bit s.sub state.outs mask c) → bit (bits_of s (with_bits s.sub state mask bits)) c ≡ bit bits c

-- what was last written to an output is read from it
abbrev pub WrittenIsRead : Type 0
WrittenIsRead =
    (s : SiteText) (state : StateText) (entry : ℕ) (given asked : List ℕ) → length state.values ≡ s.sub.channels
    → IsTrue (can_write s.sub state.outs entry given) → IsTrue (can_read s.sub entry asked)
    → words_after (read s (state_after (write s.sub state entry given) state) entry asked) asked
    ≡ replicate (length asked) (last_of given)
