-- What a line comes to, by whether one of its checks refuses it.
use Rattle.std.proofs.Common.{◌≡◌, ℕ, List, [], ◌∷◌, ◌++◌, sym, ap, ◌∙◌, subst, Option, Some, None, Result, OnOk}
use Rattle.cm_sub.specs.Checks.{first_refusal}
use Rattle.cm_sub.specs.Files.{FilesText}
use Rattle.cm_sub.specs.declared.errno.Errno.{Errno}
use Rattle.cm_replay.specs.Answers.{Answer, Ended, Reply, idle, unless_ended}
use Rattle.cm_replay.specs.Forms.{Form, checks_of, reply_of}
use Rattle.cm_replay.specs.Reading.{on_running}
use Rattle.cm_running.specs.Reading.{reported_end}
use Rattle.cm_replay.specs.Replies.{Replies, Tells, checked, unless_kept}
use Rattle.cm_running.specs.Running.{Running}
use Rattle.cm_replay.specs.State.{Device, Here}
use Rattle.cm_text.specs.declared.end.End.{End}

-- where no check refuses, the reply is the form's
pub checked-ok : (f : Form) (h : Here) → first_refusal (checks_of f h) ≡ None → checked f h ≡ reply_of f h
checked-ok f h passed = ap (λ (e : Option Errno). unless_kept e h (reply_of f h)) passed

-- a line that isn't
pub line-done : {T E : Type 0} (f : Form) (h : Here) (r : Result T E) (files : FilesText) (device : Device) (old new : List ℕ) → None ≡ first_refusal (checks_of f h) →
    OnOk r (Replies (reply_of f h) files device old new) → OnOk r (Replies (checked f h) files device old new)
line-done f h r files device old new passed did = subst (λ (reply : Reply). OnOk r (Replies reply files device old new)) (sym (checked-ok f h (sym passed))) did

-- where an end is reported, that is all that is done
pub over-done : {T E : Type 0} (said : Answer → List ℕ) (h : Here) (running : Option Running) (c : Running) (e : End) (next : Running → Reply) (r : Result T E) (files : FilesText) (device : Device) (old new : List ℕ) →
    running ≡ Some c → reported_end c ≡ Some e → OnOk r (Tells said (idle h (Ended e)) files device old new) → OnOk r (Tells said (on_running h running next) files device old new)
over-done said h running c e next r files device old new runs ended did =
    let is : on_running h running next ≡ idle h (Ended e) = ap (λ (o : Option Running). on_running h o next) runs ∙ ap (λ (x : Option End). unless_ended h x (next c)) ended in
    subst (λ (reply : Reply). OnOk r (Tells said reply files device old new)) (sym is) did

-- two lists of checks that pass
pub both-pass : (xs ys : List (Option Errno)) → first_refusal xs ≡ None → first_refusal ys ≡ None → first_refusal (xs ++ ys) ≡ None
both-pass [] ys first second = second
both-pass (None ∷ xs) ys first second = both-pass xs ys first second
both-pass (Some e ∷ xs) ys first second = absurd (cc)
