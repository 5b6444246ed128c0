-- The answer to a trigger that no check refuses.
use Rattle.std.proofs.Common.{◌≡◌, ℕ, Bool, true, false, List, [], ◌∷◌, ◌++◌, codes, Option, Some, None, Result, OnOk, refl, sym, ap, ◌∙◌, arith, subst}
use Rattle.std.specs.Prelude.{not}
use Rattle.std.proofs.lemmas.Fmt.{decimal_digit}
use Rattle.std.proofs.lemmas.Result.{on_ok_weaker}
use Rattle.cm_sub.specs.Checks.{first_refusal, refuse}
use Rattle.cm_sub.specs.Claims.{cancel_checks}
use Rattle.cm_sub.specs.declared.errno.Errno.TheVariants.{Again, Inval}
use Rattle.cm_session.specs.declared.op.Op.TheVariants as ops
use Rattle.cm_running.specs.Running.{Running}
use Rattle.cm_running.specs.Texts.{count_text}
use Rattle.cm_running.specs.Triggering.{takes_number, trigger_on, waits}
use Rattle.cm_replay.specs.Forms.{form}
use Rattle.cm_replay.specs.Moves.{Trigger, do_reply}
use Rattle.cm_replay.specs.Replies.{Replies, checked}
use Rattle.cm_replay.specs.State.{Device, Here, claim_of}
use Rattle.cm_replay.proofs.Forming.{both-pass, line-done}

-- the last two checks of a trigger pass
last-pass : (waiting number : Bool) → waiting ≡ true → number ≡ true → first_refusal (refuse Again (not waiting) ∷ refuse Inval (not number) ∷ []) ≡ None
last-pass true true w n = refl
last-pass true false w n = absurd (cc)
last-pass false number w n = absurd (cc)

-- the text of that answer
one : count_text 1 ≡ codes "ok 1\n"
one = rw (decimal_digit 1 (omega arith)) refl

-- the answer of a trigger that no check refuses
pub trigger-replies : {T E : Type 0} (h : Here) (index number : ℕ) (c : Running) (device : Device) (r : Result T E) (old new : List ℕ) → h.device.running ≡ Some c → first_refusal (cancel_checks h.file (claim_of h)) ≡ None →
    waits h.time (Some c) ≡ true → takes_number number (Some c) ≡ true → device ≡ record h.device { running = Some (trigger_on h.time c) } → OnOk r (new ≡ old ++ count_text 1) →
    OnOk r (Replies (checked (form (ops.InsnIntTrig index number) h) h) h.files device old new)
trigger-replies h index number c device r old new runs passed waiting takes given text =
    let last = last-pass (waits h.time h.device.running) (takes_number number h.device.running) (ap (waits h.time) runs ∙ waiting) (ap (takes_number number) runs ∙ takes) in
    line-done (form (ops.InsnIntTrig index number) h) h r h.files device old new (sym (both-pass (cancel_checks h.file (claim_of h)) _ passed last))
    (on_ok_weaker r (λ said. subst (λ (o : Option Running). Replies (do_reply Trigger h o) h.files device old new) (sym runs) (record { its_files = refl; its_device = given; reported = said ∙ ap (λ answer. old ++ answer) one })) text)
