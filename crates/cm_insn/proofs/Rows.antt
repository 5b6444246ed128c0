-- Instructions at worked values, on eight digital lines and on two outputs of twelve bits.
use Rattle.std.proofs.Common.{◌≡◌, ℕ, true, false, List, [], ◌∷◌, Option, Some, None, pos, replicate, set, refl}
use Rattle.cm_board.specs.Board.{idle_sub, maxdata_of, ranges_of}
use Rattle.cm_board.specs.declared.board.Kind.TheVariants as kinds
use Rattle.cm_cmd.specs.Entry.{pack}
use Rattle.cm_sub.specs.State.{StateText, first_state}
use Rattle.cm_insn.specs.Insn.{Done, insn}
use Rattle.cm_insn.specs.Site.{SiteText}
use Rattle.cm_insn.specs.declared.insn.InsnCode.TheVariants as codes

-- eight lines
abbrev lines : SiteText
lines = record {
  sub = idle_sub kinds.Dio 8 1 (record { min = pos 0; max = pos 1; unit = 2 } ∷ []);
  index = 0;
  signals = record { horizon = 3000000000; waves = []; edges = []; falls = []; ints = [] };
  time = 2500001000;
}

-- two outputs, at the next place
abbrev outputs : SiteText
outputs = record lines { sub = idle_sub kinds.Ao 2 4095 (record { min = pos 0; max = pos 1; unit = 0 } ∷ []); index = 1 }

-- the state of eight lines of which the fourth is an output with this value
abbrev fourth : ℕ → StateText
fourth value = record { values = set (replicate 8 0) 3 value; outs = set (replicate 8 false) 3 true }

-- two outputs of which the first keeps 7
abbrev seven : StateText
seven = record (first_state 2) { values = 7 ∷ 0 ∷ [] }

-- what is left where an instruction is done
abbrev done : StateText → List ℕ → Option Done
done state words = Some (record { state = state; words = words })

-- an output keeps the last word
writes : insn outputs (first_state 2) codes.Write (pack 0 0 0) (3 ∷ 7 ∷ []) ≡ done seven (3 ∷ 7 ∷ [])
unfolding maxdata_of ranges_of
writes = refl

-- a word above the greatest code is refused
too_large : insn outputs (first_state 2) codes.Write (pack 0 0 0) (4096 ∷ []) ≡ None
unfolding maxdata_of ranges_of
too_large = refl

-- each word is the value of the channel
reads : insn outputs seven codes.Read (pack 0 0 0) (0 ∷ 0 ∷ []) ≡ done seven (7 ∷ 7 ∷ [])
unfolding maxdata_of ranges_of
reads = refl

-- an input becomes an output
configures : insn lines (first_state 8) codes.Config (pack 3 0 0) (1 ∷ []) ≡ done (fourth 0) (1 ∷ [])
unfolding maxdata_of ranges_of
configures = refl

-- an output takes its bit, and inputs take none
puts : insn lines (fourth 0) codes.Bits 0 (255 ∷ 8 ∷ []) ≡ done (fourth 1) (255 ∷ 8 ∷ [])
unfolding maxdata_of ranges_of
puts = refl

-- with an empty mask the lines are read alone
asks : insn lines (fourth 1) codes.Bits 0 (0 ∷ 0 ∷ []) ≡ done (fourth 1) (0 ∷ 8 ∷ [])
unfolding maxdata_of ranges_of
asks = refl

-- the time of day
tells_the_time : insn outputs seven codes.Gtod 0 (0 ∷ 0 ∷ []) ≡ done seven (2 ∷ 500001 ∷ [])
tells_the_time = refl
