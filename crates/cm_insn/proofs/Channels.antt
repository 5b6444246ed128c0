-- An instruction leaves as many channels as there were.
use Rattle.std.proofs.Common.{ℕ, Bool, true, false, List, [], ◌∷◌, length-set, refl}
use Rattle.cm_cmd.specs.Entry.{chan}
use Rattle.cm_sample.proofs.Mapped.{length-map_from}
use Rattle.cm_sub.specs.State.{StateText}
use Rattle.cm_insn.specs.Insn.{can_config, can_put, can_read, can_write, done_if, insn, last_of, put, state_after}
use Rattle.cm_insn.specs.Kept.{IsAsLong}
use Rattle.cm_insn.specs.Site.{SiteText}
use Rattle.cm_insn.specs.declared.insn.InsnCode.{InsnCode}
use Rattle.cm_insn.specs.declared.insn.InsnCode.TheVariants as codes

same : (state : StateText) → IsAsLong state state
same state = record { values = refl; outs = refl }

-- whether it is done or not
either : (test : Bool) (state new : StateText) (words : List ℕ) → IsAsLong state new → IsAsLong state (state_after (done_if test new words) state)
either true state new words is = is
either false state new words is = same state

pub as_long : (s : SiteText) (state : StateText) (code : InsnCode) (entry : ℕ) (given : List ℕ) → IsAsLong state (state_after (insn s state code entry given) state)
as_long s state codes.Read entry given = either (can_read s.sub entry given) state state _ (same state)
as_long s state codes.Write entry given =
    either (can_write s.sub state.outs entry given) state _ _ (record { values = length-set state.values (chan entry) (last_of given); outs = refl })
as_long s state codes.Bits entry given = either (can_put s.sub given) state (put s.sub state given) _ (record { values = length-map_from _ 0 state.values; outs = refl })
as_long s state codes.Config entry [] = same state
as_long s state codes.Config entry (word ∷ []) = either (can_config s.sub entry word) state _ _ (record { values = refl; outs = length-set state.outs (chan entry) _ })
as_long s state codes.Config entry (word ∷ next ∷ more) = same state
as_long s state codes.Gtod entry given = either _ state state _ (same state)
