-- How calls end: what was done, and what is reported of it.
use Rattle.std.proofs.Common.{◌≡◌, ℕ, ◌≤◌, le-ltb, Bool, true, false, length, OnOk, append-nil, List, [], ◌++◌, Option, Some, None, IfSome, Result, Ok, Err, refl, sym, ap, ◌∙◌, subst, arith}
use Rattle.std.specs.Prelude.{codes, nat_lt, if◌then◌else◌, IsErrOf}
use Rattle.std.specs.Io.KnownBytes.{Appends, Keeps}
use Rattle.std.proofs.KnownBytes.{Appends-nil, Keeps-refl, Keeps-trans}
use Rattle.std.proofs.lemmas.Bool.{not_from_false, or_parts}
use Rattle.cm_base.specs.Causes.{Rose}
use Rattle.cm_base.specs.Transfer.{AppendsPrefix, ReadsAll}
use Rattle.cm_base.specs.declared.faults.Refused.{Refused}
use Rattle.cm_text.specs.Declined.{refused_text}
use Rattle.cm_cli.specs.Answer.{Outcome, Accepted, Declined, Misused, BreaksOff, Concludes, as_outcome, bytes_said, too_long}
use Rattle.cm_cli.specs.Answers.{Answers, Does, End, Ends, Reports, input_of}
use Rattle.cm_cli.specs.Commands.{has_threads, is_soak, reads, streams}
use Rattle.cm_cli.specs.Said.{Work, Text, Streams, Soaks, said}
use Rattle.cm_cli.specs.Serving.{Serves}
use Rattle.cm_cli.specs.declared.command.Command.{Command}
use Rattle.cm_cli.specs.declared.command.Command.TheVariants as commands
use Rattle.cm_cli.specs.declared.status.Status.{Status}
use Rattle.cm_cli.specs.declared.status.Status.TheVariants as status
use Rattle.cm_cli.specs.declared.stop.Stop.{Stop}
use Rattle.cm_cli.specs.declared.stop.Stop.TheVariants as stops

-- ---- what a text that is refused or cut short leaves

Appends-kept : (a b c : Option (List ℕ)) (text : List ℕ) → Keeps a b → Appends b c text → Appends a c text
Appends-kept None b c text p q = tt
Appends-kept (Some x) None c text p q = absurd p
Appends-kept (Some x) (Some y) None text p q = absurd q
Appends-kept (Some x) (Some y) (Some z) text p q = q ∙ ap (λ (xs : List ℕ). xs ++ text) p

prefix-kept : (a b c : Option (List ℕ)) (text : List ℕ) → Keeps a b → AppendsPrefix b c text → AppendsPrefix a c text
prefix-kept a b c text p q = (q.0, q.1, Appends-kept a b c _ p q.2)

prefix-nil : (a : Option (List ℕ)) (text : List ℕ) → AppendsPrefix a a text
prefix-nil a text = (0, omega arith, Appends-nil a)

-- nothing is written where memory runs out before
pub breaks_off : (outcome : Outcome) (a : Option (List ℕ)) → BreaksOff outcome a a
breaks_off (Accepted (Text text)) a = prefix-nil a text
breaks_off (Accepted (Streams job)) a = Keeps-refl a
breaks_off (Accepted (Soaks n)) a = Keeps-refl a
breaks_off (Declined r) a = prefix-nil a (refused_text r)
breaks_off Misused a = prefix-nil a (codes "usage\n")

-- a refusal that is reported after nothing was written
declined : (s : Status) (r : Refused) (a b c : Option (List ℕ)) → Keeps a b → Concludes s (Declined r) b c → Concludes s (Declined r) a c
declined status.Done r a b c p q = absurd q
declined status.Refused r a b c p q = Appends-kept a b c (refused_text r) p q
declined status.Usage r a b c p q = absurd q
declined status.ReadFault r a b c p q = Keeps-trans a b c p q
declined status.WriteFault r a b c p q = prefix-kept a b c (refused_text r) p q
declined status.NoMemory r a b c p q = prefix-kept a b c (refused_text r) p q

-- ---- what is reported

-- the whole text is written only of a text that is accepted
done : (reported : Result Work Refused) (old new : Option (List ℕ)) → Serves (Ok tt) reported old new → Concludes status.Done (as_outcome reported) old new
done (Ok work) old new served = served
done (Err r) old new served = absurd served

pub each : {X : Type 0} {P Q : X → Type 0} (o : Option X) → IfSome o P → ((x : X) → P x → Q x) → IfSome o Q
each None p more = tt
each (Some x) p more = more x p

pub always : {X : Type 0} {Q : X → Type 0} (o : Option X) → ((x : X) → Q x) → IfSome o Q
always None more = tt
always (Some x) more = more x

-- a status that comes with nothing more written
settled : (called : Option Command) (s result : Status) (left rest taken mid text : End) → result ≡ s → text ≡ mid → Answers called s left rest taken mid → Answers called result left rest taken text
settled called s result left rest taken mid text same kept answers =
    subst (λ (t : Status). Answers called t left rest taken text) (sym same) (subst (λ (e : End). Answers called s left rest taken e) (sym kept) answers)

-- what was done, and what was reported of it
pub reported : (command : Command) (d : Result (Unit {0}) Stop) (result : Status) (left rest taken mid text : End) →
    Does command d left rest taken mid → Reports d result mid text → Answers (Some command) result left rest taken text
reported command (Ok u) result left rest taken mid text does reports =
    settled (Some command) status.Done result left rest taken mid text reports.0 reports.1 (record {
      outcome = each (input_of (Some command) left.bytes) does.outcome (λ bytes. done (bytes_said command bytes) taken.bytes mid.bytes);
      usage = λ e. cc;
      at_end = λ e is. does.at_end is;
      unread = does.unread;
      silent = λ e. absurd (cc);
      read_fault = λ e. absurd (cc);
      write_fault = λ e. absurd (cc);
      no_memory = λ e. cc;
    })
reported command (Err stops.NoMemory) result left rest taken mid text does reports =
    settled (Some command) status.NoMemory result left rest taken mid text reports.0 reports.1 (record {
      outcome = does.outcome;
      usage = λ e. cc;
      at_end = λ e is. absurd (cc);
      unread = does.unread;
      silent = λ e. absurd (cc);
      read_fault = λ e. absurd (cc);
      write_fault = λ e. absurd (cc);
      no_memory = λ e. refl;
    })
reported command (Err stops.ReadFault) result left rest taken mid text does reports =
    settled (Some command) status.ReadFault result left rest taken mid text reports.0 reports.1 (record {
      outcome = does.outcome;
      usage = λ e. cc;
      at_end = λ e is. absurd (cc);
      unread = does.unread;
      silent = λ e. does.silent refl;
      read_fault = λ e. does.read_fault refl;
      write_fault = λ e. absurd (cc);
      no_memory = λ e. cc;
    })
reported command (Err stops.WriteFault) result left rest taken mid text does reports =
    settled (Some command) status.WriteFault result left rest taken mid text reports.0 reports.1 (record {
      outcome = does.outcome;
      usage = λ e. cc;
      at_end = λ e is. absurd (cc);
      unread = does.unread;
      silent = λ e. absurd (cc);
      read_fault = λ e. absurd (cc);
      write_fault = λ e. does.write_fault refl;
      no_memory = λ e. cc;
    })
reported command (Err (stops.Refused r)) result left rest taken mid text does reports =
    let never : (s : Status) → result ≡ s → Concludes s (Declined r) mid.bytes text.bytes =
    λ s e. subst (λ (t : Status). Concludes t (Declined r) mid.bytes text.bytes) e reports.outcome in
    record {
      outcome = each (input_of (Some command) left.bytes) does.outcome (λ bytes s.
          subst (λ (o : Outcome). Concludes result o taken.bytes text.bytes) (sym (ap as_outcome s.0)) (declined result r taken.bytes mid.bytes text.bytes s.1 reports.outcome));
      usage = λ e. absurd (never status.Usage e);
      at_end = λ e is. absurd (never status.Done e);
      unread = does.unread;
      silent = λ e. absurd (reports.read_fault e);
      read_fault = λ e. absurd (reports.read_fault e);
      write_fault = λ e. omega (arith, does.later, reports.write_fault e);
      no_memory = λ e. refl;
    }

-- ---- what was read

-- a command without threads reads
pub plain_reads : (command : Command) → has_threads command ≡ false → reads (Some command) ≡ true
plain_reads command plain = not_from_false _ (or_parts (streams command) (is_soak command) plain).1

-- and so does one that streams a job
pub streaming_reads : (command : Command) → streams command ≡ true → reads (Some command) ≡ true
streaming_reads (commands.Soak n) e = cc
streaming_reads commands.Run e = refl
streaming_reads commands.Watch e = refl
streaming_reads commands.Loop e = refl
streaming_reads commands.Test e = refl
streaming_reads commands.Expand e = refl
streaming_reads commands.Insn e = refl
streaming_reads commands.Replay e = refl

-- it is told that the input is too long, or what the text says
bytes_read : (command : Command) (bytes : List ℕ) → reads (Some command) ≡ true → bytes_said command bytes ≡ (if nat_lt 1048576 (length bytes) then Err too_long else said command bytes)
bytes_read commands.Test bytes is = refl
bytes_read commands.Expand bytes is = refl
bytes_read commands.Insn bytes is = refl
bytes_read commands.Replay bytes is = refl
bytes_read commands.Run bytes is = refl
bytes_read commands.Watch bytes is = refl
bytes_read commands.Loop bytes is = refl
bytes_read (commands.Soak n) bytes is = cc

-- all was read
whole : (xs bytes : List ℕ) (rest : Option (List ℕ)) → ReadsAll (Some xs) rest bytes → xs ≡ bytes
whole xs bytes None read = absurd read.took
whole xs bytes (Some ys) read = read.took ∙ ap (λ (zs : List ℕ). bytes ++ zs) read.at_end ∙ append-nil bytes

-- what is done with an input that is read whole
pub read : (command : Command) (d : Result (Unit {0}) Stop) (bytes : List ℕ) (left rest taken text : End) → reads (Some command) ≡ true →
    ReadsAll left.bytes rest.bytes bytes → length bytes ≤ 1048576 → Serves d (said command bytes) taken.bytes text.bytes →
    (IsErrOf d stops.WriteFault → Rose taken.faults text.faults) → taken.faults ≤ text.faults → Does command d left rest taken text
read command d bytes left rest taken text is all few served fault later = record {
  outcome = subst (λ (o : Option (List ℕ)). IfSome o (λ bytes. Ends d (bytes_said command bytes) taken.bytes text.bytes)) (sym (ap (λ (b : Bool). if b then left.bytes else Some []) is))
      (ends left.bytes rest.bytes all);
  at_end = λ e. on_ok d all.at_end;
  unread = λ e. cc;
  silent = λ e. absurd (no_read e);
  read_fault = λ e. absurd (no_read e);
  write_fault = fault;
  later = later;
}
  where
    no_read : d ≡ Err stops.ReadFault → ⊥
    no_read e = subst (λ (r : Result (Unit {0}) Stop). Serves r (said command bytes) taken.bytes text.bytes) e served

    on_ok : {P : Type 0} (r : Result (Unit {0}) Stop) → P → OnOk r P
    on_ok (Ok u) p = p
    on_ok (Err s) p = tt

    ends_served : (r : Result (Unit {0}) Stop) (reported : Result Work Refused) → Serves r reported taken.bytes text.bytes → Ends r reported taken.bytes text.bytes
    ends_served (Ok u) reported s = s
    ends_served (Err stops.NoMemory) reported s = s
    ends_served (Err stops.ReadFault) reported s = absurd s
    ends_served (Err stops.WriteFault) reported s = s
    ends_served (Err (stops.Refused r)) reported s = s

    ends : (xs ys : Option (List ℕ)) → ReadsAll xs ys bytes → IfSome xs (λ bytes. Ends d (bytes_said command bytes) taken.bytes text.bytes)
    ends None ys e = tt
    ends (Some xs) ys e =
        let short : nat_lt 1048576 (length bytes) ≡ false = le-ltb 1048576 (length bytes) few in
        let same : bytes_said command xs ≡ said command bytes =
        ap (bytes_said command) (whole xs bytes ys e) ∙ bytes_read command bytes is ∙ ap (λ (b : Bool). if b then Err too_long else said command bytes) short in
        ends_served d (bytes_said command xs) (subst (λ (r : Result Work Refused). Serves d r taken.bytes text.bytes) (sym same) served)
