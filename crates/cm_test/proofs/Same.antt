-- Commands whose triggers are the same.
use Rattle.std.proofs.Common.{◌≡◌, Bool, true, false, ◌&&◌, refl, ap, ap₂, ◌∙◌}
use Rattle.std.specs.Prelude.{◌==◌}
use Rattle.std.proofs.lemmas.Bool.{eqb-true, eq-eqb}
use Rattle.cm_cmd.specs.Command.{CmdText}
use Rattle.cm_cmd.specs.declared.command.Trig.{Trig}
use Rattle.cm_base.proofs.Bools.{and_true, both}
use Rattle.cm_test.specs.Questions.{same_trigger, same_triggers}

trigger_same : (a b : Trig) → a ≡ b → same_trigger a b ≡ true
trigger_same a b e = and_true (a.src == b.src) (a.arg == b.arg) (eq-eqb a.src b.src (ap (λ (t : Trig). t.src) e)) (eq-eqb a.arg b.arg (ap (λ (t : Trig). t.arg) e))

same_is : (a b : Trig) → same_trigger a b ≡ true → a ≡ b
same_is a b h =
    let p = both (a.src == b.src) (a.arg == b.arg) h in
    let s : a.src ≡ b.src = eqb-true a.src b.src p.0 in
    let g : a.arg ≡ b.arg = eqb-true a.arg b.arg p.1 in
    λ i. record { src = s i; arg = g i }

-- each of the five triggers of one command is that of another
pub record AreSame (a b : CmdText) : Type 0 where
  pub start : a.start ≡ b.start
  pub scan_begin : a.scan_begin ≡ b.scan_begin
  pub convert : a.convert ≡ b.convert
  pub scan_end : a.scan_end ≡ b.scan_end
  pub stop : a.stop ≡ b.stop

pub are_same : (a b : CmdText) → same_triggers a b ≡ true → AreSame a b
are_same a b h =
    let e4 = both _ (same_trigger a.stop b.stop) h in
    let e3 = both _ (same_trigger a.scan_end b.scan_end) e4.0 in
    let e2 = both _ (same_trigger a.convert b.convert) e3.0 in
    let e1 = both (same_trigger a.start b.start) (same_trigger a.scan_begin b.scan_begin) e2.0 in
    record {
      start = same_is a.start b.start e1.0;
      scan_begin = same_is a.scan_begin b.scan_begin e1.1;
      convert = same_is a.convert b.convert e2.1;
      scan_end = same_is a.scan_end b.scan_end e3.1;
      stop = same_is a.stop b.stop e4.1;
    }

pub triggers_same : (a b : CmdText) → AreSame a b → same_triggers a b ≡ true
triggers_same a b e =
    and_true _ _ (and_true _ _ (and_true _ _ (and_true _ _ (trigger_same a.start b.start e.start) (trigger_same a.scan_begin b.scan_begin e.scan_begin)) (trigger_same a.convert b.convert e.convert)) (trigger_same a.scan_end b.scan_end e.scan_end)) (trigger_same a.stop b.stop e.stop)

-- a command with other times
abbrev pub with_times : CmdText → Trig → Trig → CmdText
with_times cmd scan_begin convert = record cmd { scan_begin = scan_begin; convert = convert }

and_rest : (a : Bool) → (a && true && true) ≡ a
and_rest true = refl
and_rest false = refl

-- its times tell whether all its triggers are the same
pub times_tell : (cmd : CmdText) (scan_begin convert : Trig) → same_triggers (with_times cmd scan_begin convert) cmd ≡ (same_trigger scan_begin cmd.scan_begin && same_trigger convert cmd.convert)
times_tell cmd scan_begin convert =
    let both_times = λ (a : Bool). a && same_trigger scan_begin cmd.scan_begin && same_trigger convert cmd.convert in
    ap (λ a. both_times a && same_trigger cmd.scan_end cmd.scan_end && same_trigger cmd.stop cmd.stop) (trigger_same cmd.start cmd.start refl)
    ∙ ap (λ a. both_times true && a && same_trigger cmd.stop cmd.stop) (trigger_same cmd.scan_end cmd.scan_end refl)
    ∙ ap (λ a. both_times true && true && a) (trigger_same cmd.stop cmd.stop refl)
    ∙ and_rest (both_times true)

-- and so whether it is the same command
pub times_keep : (cmd : CmdText) (scan_begin convert : Trig) → same_triggers (with_times cmd scan_begin convert) cmd ≡ true → with_times cmd scan_begin convert ≡ cmd
times_keep cmd scan_begin convert h =
    let same = are_same (with_times cmd scan_begin convert) cmd h in
    ap₂ (with_times cmd) same.scan_begin same.convert
