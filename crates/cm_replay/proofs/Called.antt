-- A command that is called.
use Rattle.std.proofs.Common.{◌≡◌, ℕ, Bool, true, false, List, [], ◌∷◌, ◌++◌, codes, Option, Some, None, Result, Ok, Err, OnOk, refl, sym, ap, ◌∙◌, subst}
use Rattle.std.specs.Prelude.{◌==◌, ◌&&◌, not, if◌then◌else◌}
use Rattle.std.proofs.lemmas.Bool.{cond-true, cond-false, eq-eqb, eqb-true}
use Rattle.cm_board.specs.Board.{SubText, takes_commands}
use Rattle.cm_cmd.specs.Command.{CmdText}
use Rattle.cm_sub.specs.Checks.{first_refusal, refuse}
use Rattle.cm_sub.specs.Claims.{use_checks}
use Rattle.cm_sub.specs.Files.{FilesText, reach_checks}
use Rattle.cm_sub.specs.declared.errno.Errno.{Errno}
use Rattle.cm_sub.specs.declared.errno.Errno.TheVariants.{Inval}
use Rattle.cm_test.specs.Questions.{tested}
use Rattle.cm_test.specs.ValidList.{is_valid_list}
use Rattle.cm_session.specs.declared.op.Op.TheVariants as ops
use Rattle.cm_replay.specs.Answers.{Rejected, Reply, kept}
use Rattle.cm_replay.specs.Calling.{cmd_reply, start_reply}
use Rattle.cm_replay.specs.Forms.{checks_of, form}
use Rattle.cm_replay.specs.Replies.{Replies, checked, tried_on, unless_kept}
use Rattle.cm_replay.specs.State.{Device, Here, claim_of}
use Rattle.cm_replay.specs.Texts.{answer_text}
use Rattle.cm_replay.proofs.Checks.{passes-both}
use Rattle.cm_replay.proofs.Forming.{both-pass}

abbrev fails : Here → CmdText → Reply
fails h cmd = kept h (Rejected (tested h.sub cmd).0 (tested h.sub cmd).1)

-- a command that passes its test starts
pub called : {E : Type 0} (h : Here) (cmd : CmdText) (result : Result (Unit {0}) E) (files : FilesText) (device : Device) (old new : List ℕ) → (tested h.sub cmd).0 ≡ 0 → files ≡ (start_reply h cmd).files → device ≡ (start_reply h cmd).device →
    OnOk result (new ≡ old ++ codes "ok\n") → OnOk result (Replies (cmd_reply h cmd) files device old new)
called h cmd (Err e) files device old new passed its_files its_device reported = tt
called h cmd (Ok u) files device old new passed its_files its_device reported =
    let is : cmd_reply h cmd ≡ start_reply h cmd = cond-true ((tested h.sub cmd).0 == 0) (start_reply h cmd) (fails h cmd) (eq-eqb _ _ passed) in
    record {
      its_files = its_files ∙ sym (ap (λ (r : Reply). r.files) is);
      its_device = its_device ∙ sym (ap (λ (r : Reply). r.device) is);
      reported = reported ∙ sym (ap (λ (r : Reply). old ++ answer_text r.answer) is);
    }

-- one that fails is rejected
pub rejected : {E : Type 0} (h : Here) (cmd : CmdText) (result : Result (Unit {0}) E) (old new : List ℕ) → ((tested h.sub cmd).0 == 0) ≡ false →
    OnOk result (new ≡ old ++ answer_text (Rejected (tested h.sub cmd).0 (tested h.sub cmd).1)) → OnOk result (Replies (cmd_reply h cmd) h.files h.device old new)
rejected h cmd (Err e) old new failed reported = tt
rejected h cmd (Ok u) old new failed reported =
    let is : cmd_reply h cmd ≡ fails h cmd = cond-false ((tested h.sub cmd).0 == 0) (start_reply h cmd) (fails h cmd) failed in
    record {
      its_files = sym (ap (λ (r : Reply). r.files) is);
      its_device = sym (ap (λ (r : Reply). r.device) is);
      reported = reported ∙ sym (ap (λ (r : Reply). old ++ answer_text r.answer) is);
    }

both-hold : (a b : Bool) (cmd x : CmdText) → Some x ≡ (if a && b then Some cmd else None) → (x ≡ cmd) × (b ≡ true)
both-hold true true cmd x some = (cc, refl)
both-hold true false cmd x some = absurd (cc)
both-hold false b cmd x some = absurd (cc)

second-fails : (a b : Bool) (cmd : CmdText) → a ≡ true → None ≡ (if a && b then Some cmd else None) → b ≡ false
second-fails true true cmd holds none = absurd (cc)
second-fails true false cmd holds none = refl
second-fails false b cmd holds none = absurd (cc)

-- what was tried with success is the command itself, which passes its test
pub tried-passed : (sub : SubText) (cmd x : CmdText) → Some x ≡ tried_on sub cmd → (x ≡ cmd) × ((tested sub cmd).0 ≡ 0)
tried-passed sub cmd x some =
    let both = both-hold (takes_commands sub) ((tested sub cmd).0 == 0) cmd x some in
    (both.0, eqb-true (tested sub cmd).0 0 both.1)

-- what was tried without success fails its test
pub tried-failed : (sub : SubText) (cmd : CmdText) → takes_commands sub ≡ true → None ≡ tried_on sub cmd → ((tested sub cmd).0 == 0) ≡ false
tried-failed sub cmd takes none = second-fails (takes_commands sub) ((tested sub cmd).0 == 0) cmd takes none

passes-valid : (valid : Bool) → true ≡ valid → first_refusal (refuse Inval (not valid) ∷ []) ≡ None
passes-valid true is = refl
passes-valid false is = absurd (cc)

-- no check of the line refuses it
pub called-passes : (h : Here) (cmd : CmdText) → first_refusal (reach_checks h.file h.index h.files ++ use_checks h.file (claim_of h)) ≡ None → true ≡ is_valid_list h.sub cmd.list →
    first_refusal (checks_of (form (ops.Cmd cmd) h) h) ≡ None
called-passes h cmd none valid =
    both-pass (use_checks h.file (claim_of h)) _ (passes-both (reach_checks h.file h.index h.files) (use_checks h.file (claim_of h)) none).1 (passes-valid (is_valid_list h.sub cmd.list) valid)

-- where no check refuses the line, the reply is the form's own
pub unless-passed : {E : Type 0} (h : Here) (cmd : CmdText) (result : Result (Unit {0}) E) (files : FilesText) (device : Device) (old new : List ℕ) → first_refusal (checks_of (form (ops.Cmd cmd) h) h) ≡ None →
    OnOk result (Replies (cmd_reply h cmd) files device old new) → OnOk result (Replies (checked (form (ops.Cmd cmd) h) h) files device old new)
unless-passed h cmd result files device old new none replies = subst (λ (e : Option Errno). OnOk result (Replies (unless_kept e h (cmd_reply h cmd)) files device old new)) (sym none) replies
