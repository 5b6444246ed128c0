-- How calls end that stop before a text is written.
use Rattle.std.proofs.Common.{◌≡◌, Some, Err, refl, sym, ap, subst}
use Rattle.std.proofs.KnownBytes.{Keeps-refl}
use Rattle.cm_cli.specs.Answer.{Outcome, Declined, Concludes}
use Rattle.cm_cli.specs.Answers.{End, Reports}
use Rattle.cm_cli.specs.declared.status.Status.{Status}
use Rattle.cm_cli.specs.declared.status.Status.TheVariants as status
use Rattle.cm_cli.specs.declared.stop.Stop.{Stop}
use Rattle.cm_cli.specs.declared.stop.Stop.TheVariants as stops
use Rattle.cm_cli.proofs.Ends.{always, breaks_off, each}
use Rattle.cm_facts.specs.Answers.{Answers, IsTold, as_outcome, bytes_said}
use Rattle.cm_facts.specs.declared.inquiry.Inquiry.{Inquiry}

-- a status that comes with nothing written
settled : (inquiry : Inquiry) (s result : Status) (left rest taken text : End) → result ≡ s → text ≡ taken → Answers (Some inquiry) s left rest taken taken → Answers (Some inquiry) result left rest taken text
settled inquiry s result left rest taken text same kept answers =
    subst (λ (t : Status). Answers (Some inquiry) t left rest taken text) (sym same) (subst (λ (e : End). Answers (Some inquiry) s left rest taken e) (sym kept) answers)

-- a reason to stop is reported
pub stop_told : (inquiry : Inquiry) (stop : Stop) (result : Status) (left rest taken text : End) → IsTold inquiry (Err stop) left rest → Reports (Err stop) result taken text → Answers (Some inquiry) result left rest taken text
stop_told inquiry stops.NoMemory result left rest taken text t reports =
    settled inquiry status.NoMemory result left rest taken text reports.0 reports.1 (record {
      outcome = always left.bytes (λ xs. breaks_off (as_outcome (bytes_said inquiry xs)) taken.bytes);
      usage = λ e. cc;
      at_end = λ e. absurd (cc);
      unread = λ e. cc;
      silent = λ e. refl;
      read_fault = λ e. absurd (cc);
      write_fault = λ e. absurd (cc);
      no_memory = λ e. refl;
    })
stop_told inquiry stops.ReadFault result left rest taken text t reports =
    settled inquiry status.ReadFault result left rest taken text reports.0 reports.1 (record {
      outcome = always left.bytes (λ xs. Keeps-refl taken.bytes);
      usage = λ e. cc;
      at_end = λ e. absurd (cc);
      unread = λ e. cc;
      silent = λ e. refl;
      read_fault = λ e. t.read_fault refl;
      write_fault = λ e. absurd (cc);
      no_memory = λ e. cc;
    })
stop_told inquiry stops.WriteFault result left rest taken text t reports = absurd (t.unwritten refl)
stop_told inquiry (stops.Refused r) result left rest taken text t reports =
    let never : (s : Status) → result ≡ s → Concludes s (Declined r) taken.bytes text.bytes =
    λ s e. subst (λ (t : Status). Concludes t (Declined r) taken.bytes text.bytes) e reports.outcome in
    record {
      outcome = each left.bytes t.outcome (λ xs is. subst (λ (o : Outcome). Concludes result o taken.bytes text.bytes) (sym (ap as_outcome is)) reports.outcome);
      usage = λ e. absurd (never status.Usage e);
      at_end = λ e. absurd (never status.Done e);
      unread = λ e. cc;
      silent = λ e. absurd (reports.read_fault e);
      read_fault = λ e. absurd (reports.read_fault e);
      write_fault = reports.write_fault;
      no_memory = λ e. refl;
    }
